-- What a row's line tells of its value, and of the items of an array. A value's own bytes tell the same letters.
use mathlib.Core.Bool.{true}
use mathlib.Core.List.{List, [], ◌∷◌}
use mathlib.Core.Path.{◌≡◌, refl, sym, ap, ◌∙◌, subst}
use Prim.Native.Char.{code}
use Prim.Native.Nat.{ℕ, suc, ◌+◌, ◌<◌}
use native.Mathlib.Omega.{arith}
use lib.ListN.{length, take}
use Rattle.notation.proofs.Booleans.{true-false}
use Rattle.word.specs.Kinds.{wrong_type}
use Rattle.json_text.specs.Tree as tree
use Rattle.json_text.specs.Tree.{Json}
use Rattle.lexeme.specs.Character.{byte}
use Rattle.lexeme.specs.inner.Start.{Start, start}
use Rattle.walk.specs.Part.{Whole, kind_of}
use Rattle.walk.specs.inner.Kind.{kind_from, kind_at}
use Rattle.walk.proofs.Fronts.{front-kind}
use Rattle.schema.specs.declared.Line.{Line}
use Rattle.schema.specs.Shape as shape
use Rattle.schema.specs.Shape.{Shape, Rows, Need, Numbering}
use Rattle.schema.specs.inner.Line.{inside, entries, entries_of, line_at, value_letter, sort_words, shape_words, need_letter, numbering_letter, laid_out, line_of}
use Rattle.schema.specs.Later.{item_shape}
use Rattle.schema.specs.Tables.{sheets, written}
use Rattle.schema.specs.Pick.{pick}
use Rattle.schema.proofs.Letters.{array-letter}
use Rattle.schema.proofs.Walk.{Step, step, laid-array}
use Rattle.slots.specs.inner.Rows.{line_count}
use Rattle.fault.specs.declared.Place.{Place}
use Rattle.judge.specs.Faults.{Judge, absence, item_place, array_faults, faults_by, faults}
use Rattle.fault.specs.Fault.{faulty}
use Rattle.judge.specs.inner.Judgeable.{no_words, plain}
use Rattle.judge.specs.inner.Judged.{brackets_of, absence_of, item_place_of, LineTells, RowAt, ArrayAt}

pub how_many : length (entries_of sheets) ≡ line_count
unfolding laid_out written
how_many = refl

module _ {i : ℕ} (a : RowAt i) where
  walked : Step sheets i a.field a.need a.name a.value a.below
  walked = step sheets i a.field a.need a.name a.value a.below a.laid

  pub laid-there : i < line_count
  unfolding entries
  laid-there = omega (arith, a.laid.fits, how_many)

  pub line-field : (line_at sheets i).field ≡ a.field
  line-field = ap (λ (l : Line). l.field) walked.line

  pub line-need : absence_of (line_at sheets i).need ≡ absence a.need
  line-need = ap (λ (l : Line). absence_of l.need) walked.line ∙ by-need a.need
    where
      by-need : (n : Need) → absence_of (need_letter n) ≡ absence n
      by-need shape.required = refl
      by-need shape.optional = refl
      by-need shape.conditional = refl

  pub line-value : value_letter a.value ≡ (line_at sheets i).value
  line-value = sym (ap (λ (l : Line). l.value) walked.line)

  pub row_told : LineTells i (line_at sheets i).value a.value
  row_told =
      record {
        there = laid-there;
        lettered = line-value;
        words = walked.words;
        inner = walked.inner;
        lines = ap (λ (l : Line). l.inside) walked.line;
      }

-- an array's
no_words_lem : (σ : Shape) → plain σ ≡ true → [] ≡ shape_words σ
unfolding plain
no_words_lem shape.unlisted e = true-false e refl
no_words_lem (shape.scalar sort) e = go (sort_words sort) e
  where
    go : (ws : List (List ℕ)) → no_words ws ≡ true → [] ≡ ws
    go [] h = refl
    go (w ∷ ws) h = true-false h refl
no_words_lem (shape.array numbering most σ) e = true-false e refl
no_words_lem (shape.object rows) e = refl

pub plain-single : (σ : Shape) → plain σ ≡ true → value_letter σ ≡ code "[" → ⊥
unfolding plain
plain-single σ e h = let a = array-letter σ h in true-false (sym (ap plain a.is) ∙ e) refl

module _ {i : ℕ} (a : ArrayAt i) where
  told : LineTells i (line_at sheets i).value (shape.array a.numbering a.most a.item)
  told = subst (LineTells i (line_at sheets i).value) a.is (row_told a.row)

  lined : line_at sheets i ≡ line_of (record { field = a.row.field; need = a.row.need; name = a.row.name; shape = shape.array a.numbering a.most a.item })
  lined = (walked a.row).line ∙ ap (λ (σ : Shape). line_of (record { field = a.row.field; need = a.row.need; name = a.row.name; shape = σ })) a.is

  pub line-numbering : (line_at sheets i).numbering ≡ numbering_letter a.numbering
  line-numbering = ap (λ (l : Line). l.numbering) lined

  pub line-most : (line_at sheets i).most ≡ a.most
  line-most = ap (λ (l : Line). l.most) lined

  pub line-item : value_letter a.item ≡ (line_at sheets i).item
  unfolding item_shape
  line-item = sym (ap (λ (l : Line). l.item) lined)

  pub item-told : plain a.item ≡ true → LineTells i (line_at sheets i).item a.item
  unfolding inside
  item-told e =
      record {
        there = told.there;
        lettered = line-item;
        words = told.words ∙ no_words_lem a.item e;
        inner = laid-array sheets (i + 1) a.numbering a.most a.item told.inner;
        lines = told.lines;
      }

  pub line-place : (n : ℕ) (q : Place) → item_place_of (line_at sheets i).numbering n q ≡ item_place a.numbering n q
  line-place n q = ap (λ (l : ℕ). item_place_of l n q) line-numbering ∙ by-letter a.numbering
    where
      by-letter : (m : Numbering) → item_place_of (numbering_letter m) n q ≡ item_place m n q
      by-letter shape.records = refl
      by-letter shape.subs = refl
      by-letter shape.outer = refl
      by-letter shape.positions = refl

pub positions-letter : (numbering : Numbering) → numbering_letter numbering ≡ code "p" → numbering ≡ shape.positions
positions-letter shape.records e = absurd (omega arith)
positions-letter shape.subs e = absurd (omega arith)
positions-letter shape.outer e = absurd (omega arith)
positions-letter shape.positions e = refl

-- A value that has the brackets of an array or an object is one.
array-value : (x : Json) → brackets_of (kind_of x) ≡ code "[" → (is : tree.Items) × (x ≡ tree.array is)
array-value tree.null e = absurd (omega arith)
array-value (tree.boolean b) e = absurd (omega arith)
array-value (tree.number s) e = absurd (omega arith)
array-value (tree.string s) e = absurd (omega arith)
array-value (tree.array is) e = (is, refl)
array-value (tree.object ms) e = absurd (omega arith)

object-value : (x : Json) → brackets_of (kind_of x) ≡ code "{" → (ms : tree.Members) × (x ≡ tree.object ms)
object-value tree.null e = absurd (omega arith)
object-value (tree.boolean b) e = absurd (omega arith)
object-value (tree.number s) e = absurd (omega arith)
object-value (tree.string s) e = absurd (omega arith)
object-value (tree.array is) e = absurd (omega arith)
object-value (tree.object ms) e = (ms, refl)

-- where no value begins there are none
pub bracketless : (p : List ℕ) {b : ℕ} → start (byte p 0) ≡ Start.other → brackets_of (kind_at p) ≡ suc b → ⊥
unfolding kind_at
bracketless p o e = let z : 0 ≡ suc _ = sym (ap (λ (t : Start). brackets_of (kind_from t)) o) ∙ e in omega arith

-- of the first n bytes of p
module _ (p : List ℕ) (n : ℕ) {x : Json} (w : Whole (take n p) x) where
  pub whole-brackets : brackets_of (kind_at p) ≡ brackets_of (kind_of x)
  whole-brackets = ap brackets_of (front-kind n p w)

  pub whole-items : brackets_of (kind_at p) ≡ code "[" → (is : tree.Items) × (x ≡ tree.array is)
  whole-items e = array-value x (sym whole-brackets ∙ e)

  pub whole-members : brackets_of (kind_at p) ≡ code "{" → (ms : tree.Members) × (x ≡ tree.object ms)
  whole-members e = object-value x (sym whole-brackets ∙ e)

  -- others are of the wrong type
  pub no_items : (brackets_of (kind_at p) ≡ code "[" → ⊥) → (judge : Judge) (numbering : Numbering) (most : ℕ) (σ : Shape) (q : Place) (φ : ℕ) →
      array_faults judge numbering most q φ (pick (shape.array numbering most σ) x) ≡ faulty q φ (wrong_type ∷ [])
  unfolding pick
  no_items other judge numbering most σ q φ = go x (λ e. other (whole-brackets ∙ e))
    where
      go : (y : Json) → (brackets_of (kind_of y) ≡ code "[" → ⊥) → array_faults judge numbering most q φ (pick (shape.array numbering most σ) y) ≡ faulty q φ (wrong_type ∷ [])
      go tree.null m = refl
      go (tree.boolean b) m = refl
      go (tree.number s) m = refl
      go (tree.string s) m = refl
      go (tree.array is) m = absurd (m refl)
      go (tree.object ms) m = refl

  pub no-members : (brackets_of (kind_at p) ≡ code "{" → ⊥) → (rows : Rows) (q : Place) (φ : ℕ) →
      faults (shape.object rows) q φ (pick (shape.object rows) x) ≡ faulty q φ (wrong_type ∷ [])
  unfolding pick faults_by
  no-members other rows q φ = go x (λ e. other (whole-brackets ∙ e))
    where
      go : (y : Json) → (brackets_of (kind_of y) ≡ code "{" → ⊥) → faults (shape.object rows) q φ (pick (shape.object rows) y) ≡ faulty q φ (wrong_type ∷ [])
      go tree.null m = refl
      go (tree.boolean b) m = refl
      go (tree.number s) m = refl
      go (tree.string s) m = refl
      go (tree.array is) m = refl
      go (tree.object ms) m = absurd (m refl)
