-- What the judge of a value answers on each of its ways, where those that it calls keep their word.
use mathlib.Core.Bool.{Bool, true, false}
use mathlib.Core.List.{List, [], ◌∷◌}
use mathlib.Core.Path.{◌≡◌, refl, sym, ap, subst, ◌∙◌}
use Prim.Native.Char.{code}
use Prim.Native.Nat.{ℕ, zero, suc, ◌+◌, ◌-◌, ◌≤◌, ◌<◌}
use native.Mathlib.Omega.{arith}
use lib.Dec.{leb}
use lib.ListN.{length, take}
use borrow.Author.Tests.{leb-true}
use Rattle.notation.specs.Choice.{◌⇒◌else◌}
use Rattle.notation.proofs.Booleans.{true-false, and_left, and_right}
use Rattle.word.specs.Kinds.{name_twice, wrong_type}
use Rattle.json_text.specs.Tree as tree
use Rattle.json_text.specs.Tree.{Json, Members}
use Rattle.walk.specs.Walk.{part}
use Rattle.walk.specs.Part.{Whole, part_tree}
use Rattle.walk.specs.inner.Kind.{kind_at}
use Rattle.schema.specs.declared.Line.{Line}
use Rattle.schema.specs.Shape as shape
use Rattle.schema.specs.Shape.{Shape, Rows, Sort}
use Rattle.schema.specs.inner.Line.{line_at, words_at, sort_letter, sort_words, inside}
use Rattle.schema.specs.Pick.{Slot, missing, once, unless_blank, unless_empty, find, emptied, pick}
use Rattle.schema.specs.inner.Sound.{distinct_rows}
use Rattle.schema.specs.Tables.{sheets}
use Rattle.schema.proofs.Letters.{IsObject, array-letter, object-letter}
use Rattle.schema.proofs.Walk.{laid-object}
use Rattle.slots.specs.declared.Found.{Found}
use Rattle.slots.specs.declared.Found.TheVariants.{Missing, Once, Twice}
use Rattle.slots.specs.declared.Slots.{Slots}
use Rattle.slots.specs.Found.{found_in}
use Rattle.slots.specs.inner.Found.{tree_in}
use Rattle.slots.specs.inner.Rows.{line_count, most_rows, names_in}
use Rattle.slots.specs.inner.Slots.{slot_at}
use Rattle.slots.specs.inner.Blank.{blank_text}
use Rattle.slots.proofs.Finds.{find-found, found-value}
use Rattle.slots.proofs.Picks.{unless-blank}
use Rattle.fault.specs.Fault.{least, faulty}
use Rattle.scalar.specs.Scalars.{kinds_of}
use Rattle.word.specs.inner.Listed.{listed}
use Rattle.fault.specs.declared.Place.{Place}
use Rattle.judge.specs.Faults.{absence, faults_by, faults}
use Rattle.judge.specs.inner.Judgeable.{under, judgeable, judgeable_rows}
use Rattle.judge.specs.inner.Judged.{brackets_of, absence_of, member_faults, row_least, LineTells, Single, Array, Member, MembersJudged, Object, RowAt}
use Rattle.judge.proofs.Lines.{how_many, line-field, line-need, line-value, row_told, whole-members, no-members}
use Rattle.std.specs.Prelude.{Option}
use Rattle.fault.specs.declared.Fault.{Fault}

-- a single value

outline-kinds : (sort : Sort) (x : Json) → kinds_of sort (emptied x) ≡ kinds_of sort x
unfolding kinds_of
outline-kinds sort tree.null = refl
outline-kinds sort (tree.boolean b) = refl
outline-kinds sort (tree.number s) = refl
outline-kinds sort (tree.string s) = refl
outline-kinds sort (tree.array is) = refl
outline-kinds sort (tree.object ms) = refl

scalar-faults : (sort : Sort) (q : Place) (φ : ℕ) (x : Json) (ks : List ℕ) → kinds_of sort x ≡ ks → faulty q φ ks ≡ faults (shape.scalar sort) q φ (pick (shape.scalar sort) x)
unfolding faults_by pick
scalar-faults sort q φ x ks e = ap (faulty q φ) (sym (outline-kinds sort x ∙ e))

line-at-field : (i : ℕ) {line : Line} → line ≡ line_at sheets i → line.field ≡ (line_at sheets i).field
line-at-field i at = ap (λ (l : Line). l.field) at

module _ {p : List ℕ} {letter i : ℕ} {q : Place} {level : ℕ} {r : Option Fault} where
  pub single-past : line_count ≤ i → Single p letter i q level r
  single-past h = record { is = λ σ t n e x w. absurd (omega (arith, t.there)) }

  pub single-object : {line : Line} {count : ℕ} → line ≡ line_at sheets i → count ≡ line.inside → letter ≡ code "{" →
      Object p (i + 1) count line.field q level r → Single p letter i q level r
  unfolding inside
  single-object {line} {count} at c l o = record { is = λ σ t n e x w. go σ (object-letter σ (t.lettered ∙ l)) t e x w }
    where
      rows-go : (rows : Rows) → LineTells i letter (shape.object rows) → judgeable (shape.object rows) level ≡ true → (x : Json) → Whole p x →
          r ≡ least (faults (shape.object rows) q (line_at sheets i).field (pick (shape.object rows) x))
      rows-go rows t e x w =
          o.is rows (laid-object sheets (i + 1) rows t.inner) (sym t.lines ∙ sym (ap (λ (l : Line). l.inside) at) ∙ sym c) e x w
          ∙ ap (λ (φ : ℕ). least (faults (shape.object rows) q φ (pick (shape.object rows) x))) (line-at-field i at)

      go : (σ : Shape) → IsObject σ → LineTells i letter σ → judgeable σ level ≡ true → (x : Json) → Whole p x → r ≡ least (faults σ q (line_at sheets i).field (pick σ x))
      go σ s =
          subst (λ (τ : Shape). LineTells i letter τ → judgeable τ level ≡ true → (x : Json) → Whole p x → r ≡ least (faults τ q (line_at sheets i).field (pick τ x)))
          (sym s.is) (rows-go s.rows)

  pub single-scalar : {line : Line} (kind : ℕ) → line ≡ line_at sheets i → (letter ≡ code "{" → ⊥) → r ≡ least (faulty q line.field (listed kind)) →
      ((sort : Sort) (x : Json) → sort_letter sort ≡ letter → words_at sheets i ≡ sort_words sort → Whole p x → kinds_of sort x ≡ listed kind) →
      Single p letter i q level r
  unfolding judgeable
  single-scalar {line} kind at o h k = record { is = go }
    where
      go : (σ : Shape) → LineTells i letter σ → (letter ≡ code "[" → ⊥) → judgeable σ level ≡ true → (x : Json) → Whole p x →
          r ≡ least (faults σ q (line_at sheets i).field (pick σ x))
      go shape.unlisted t n e x w = true-false e refl
      go (shape.scalar sort) t n e x w =
          h ∙ ap (λ (φ : ℕ). least (faulty q φ (listed kind))) (line-at-field i at)
          ∙ ap least (scalar-faults sort q (line_at sheets i).field x (listed kind) (k sort x t.lettered t.words w))
      go (shape.array numbering most σ) t n e x w = absurd (n (sym t.lettered))
      go (shape.object rows) t n e x w = absurd (o (sym t.lettered))

-- a member that is not there
absent-faults : (q : Place) {i : ℕ} (a : RowAt i) {line : Line} → line ≡ line_at sheets i →
    faulty q line.field (absence_of line.need) ≡ faulty q a.field (absence a.need)
absent-faults q {i} a at =
    ap (λ (m : Line). faulty q m.field (absence_of m.need)) at
    ∙ ap (λ (φ : ℕ). faulty q φ (absence_of (line_at sheets i).need)) (line-field a) ∙ ap (faulty q a.field) (line-need a)

-- equal slots break the same
member-same : (q : Place) {i : ℕ} (a : RowAt i) {o u : Slot Json} → o ≡ u →
    least (member_faults a.need a.value q a.field u) ≡ least (member_faults a.need a.value q a.field o)
member-same q a e = sym (ap (λ (o : Slot Json). least (member_faults a.need a.value q a.field o)) e)

-- a member's value: a text with nothing in it counts as none
given_by : (b : Bool) (x : Json) → b ≡ blank_text x → {t : Bool} → b ≡ t → unless_empty x ≡ (t ⇒ missing else once x)
given_by b x e f = unless-blank x ∙ ap (λ (t : Bool). t ⇒ missing else once x) (sym e ∙ f)

module _ {p : List ℕ} {i : ℕ} {q : Place} {level : ℕ} {r : Option Fault} {line : Line} (at : line ≡ line_at sheets i) (blank : Bool)
    (told : (x : Json) → Whole p x → blank ≡ blank_text x) where
  pub member-blank : blank ≡ true → r ≡ least (faulty q line.field (absence_of line.need)) → Member p i q level r
  member-blank t h = record { is = λ a e x w. h ∙ ap least (absent-faults q a at) ∙ member-same q a (given_by blank x (told x w) t) }

  -- any other is judged by its shape
  by_shape : blank ≡ false →
      ((a : RowAt i) → judgeable a.value level ≡ true → (x : Json) → Whole p x → r ≡ least (faults a.value q a.field (pick a.value x))) →
      Member p i q level r
  by_shape t h = record { is = λ a e x w. h a e x w ∙ member-same q a (given_by blank x (told x w) t) }

  pub member-array : blank ≡ false → line.value ≡ code "[" → Array p i q level r → Member p i q level r
  member-array t v judged =
      by_shape t λ a e x w.
      let s = array-letter a.value (line-value a ∙ sym (ap (λ (m : Line). m.value) at) ∙ v) in
      judged.is (record { numbering = s.numbering; most = s.most; item = s.item; row = a; is = s.is }) (sym (ap (λ (τ : Shape). judgeable τ level) s.is) ∙ e) x w
      ∙ ap (λ (τ : Shape). least (faults τ q a.field (pick τ x))) (sym s.is)

  pub member-single : blank ≡ false → (line.value ≡ code "[" → ⊥) → Single p line.value i q level r → Member p i q level r
  member-single t v s =
      by_shape t λ a e x w.
      s.is a.value (subst (λ (m : ℕ). LineTells i m a.value) (sym (ap (λ (m : Line). m.value) at)) (row_told a)) v e x w
      ∙ ap (λ (φ : ℕ). least (faults a.value q φ (pick a.value x))) (line-field a)

-- a row of the object p, with what is found under its name
pub record Row (p : List ℕ) (found : Found) (i : ℕ) (q : Place) (level : ℕ) (r : Option Fault) : Type 0 where
  pub is : (a : RowAt i) → judgeable a.value level ≡ true → (ms : Members) → Whole p (Json.object ms) → found ≡ found_in p a.name →
      r ≡ least (member_faults a.need a.value q a.field (unless_blank (find a.name ms)))

given-found : {p : List ℕ} {found o : Found} (name : List ℕ) (ms : Members) → Whole p (Json.object ms) → found ≡ found_in p name → found ≡ o →
    unless_blank (find name ms) ≡ unless_blank (tree_in p o)
given-found {p} name ms w f e = ap unless_blank (find-found p name w ∙ ap (tree_in p) (sym f ∙ e))

module _ {p : List ℕ} {found : Found} {i : ℕ} {q : Place} {level : ℕ} {r : Option Fault} where
  module _ {line : Line} (at : line ≡ line_at sheets i) where
    row-missing : found ≡ Missing → r ≡ least (faulty q line.field (absence_of line.need)) → Row p found i q level r
    row-missing g h = record { is = λ a e ms w f. h ∙ ap least (absent-faults q a at) ∙ member-same q a (given-found a.name ms w f g) }

    row-twice : found ≡ Twice → r ≡ least (faulty q line.field (name_twice ∷ [])) → Row p found i q level r
    row-twice g h =
        record {
          is = λ a e ms w f.
              h ∙ ap (λ (φ : ℕ). least (faulty q φ (name_twice ∷ []))) (ap (λ (m : Line). m.field) at ∙ line-field a)
              ∙ member-same q a (given-found a.name ms w f g);
        }

  row-once : {from upto : ℕ} → found ≡ Once from upto → Member (part p from upto) i q level r → Row p found i q level r
  row-once {from} {upto} g m =
      record {
        is = λ a e ms w f.
            m.is a e (part_tree (part p from upto)) (found-value p a.name from upto (sym f ∙ g)).whole ∙ member-same q a (given-found a.name ms w f g);
      }

-- by how often its name was met
pub row-judged : (p : List ℕ) (s : Slots) (row i : ℕ) (q : Place) (level : ℕ) (value : Option Fault) {line : Line} {r : Option Fault} → line ≡ line_at sheets i → row < most_rows →
    r ≡ row_least (slot_at s row) value line q → ((from upto : ℕ) → slot_at s row ≡ Once from upto → Member (part p from upto) i q level value) →
    Row p (slot_at s row) i q level r
row-judged p s row i q level value {line} {r} at h e kept = go (slot_at s row) e kept
  where
    go : (o : Found) → r ≡ row_least o value line q → ((from upto : ℕ) → o ≡ Once from upto → Member (part p from upto) i q level value) → Row p o i q level r
    go Missing e kept = row-missing at refl e
    go (Once from upto) e kept = row-once refl (rw e (kept from upto refl))
    go Twice e kept = row-twice at refl e

under_less : (level : ℕ) → (level ≡ 0 → ⊥) → (test : ℕ → Bool) → under level test ≡ true → test (level - 1) ≡ true
under_less zero n test e = absurd (n refl)
under_less (suc l) n test e = let z : suc l - 1 ≡ l = omega arith in rw z e

-- an object: lines that are not there, and what is no object
module _ {p : List ℕ} {first count field : ℕ} {q : Place} {level : ℕ} {r : Option Fault} where
  pub object_shut : level ≡ 0 → Object p first count field q level r
  unfolding judgeable
  object_shut z =
      record {
        is = λ rows l c e x w.
            true-false (and_right (leb (length (names_in rows)) most_rows) _ (and_right (distinct_rows rows) _ e))
            (ap (λ (n : ℕ). under n (λ m. judgeable_rows rows m)) z);
      }

  pub object-past : line_count < first + count → Object p first count field q level r
  object-past h = record { is = λ rows l c e x w. absurd (omega (arith, l.fits, how_many)) }

module _ (p : List ℕ) (n first count field : ℕ) (q : Place) (level : ℕ) {r : Option Fault} {b : ℕ} (by : b ≡ brackets_of (kind_at p)) where
  pub object-other : (b ≡ code "{" → ⊥) → r ≡ least (faulty q field (wrong_type ∷ [])) → Object (take n p) first count field q level r
  object-other other h = record { is = λ rows l c e x w. h ∙ sym (ap least (no-members p n w (λ k. other (by ∙ k)) rows q field)) }

  -- and what is one
  pub object-members : (level ≡ 0 → ⊥) → b ≡ code "{" → MembersJudged (take n p) first count q (level - 1) r → Object (take n p) first count field q level r
  unfolding judgeable faults_by pick
  object-members some o j =
      record {
        is = λ rows l c e x w.
            let m = whole-members p n w (sym by ∙ o) in
            let few = and_right (distinct_rows rows) _ e in
            j.is rows
            (record {
              laid = l;
              lines = c;
              distinct = and_left (distinct_rows rows) _ e;
              few = leb-true (length (names_in rows)) most_rows (and_left (leb (length (names_in rows)) most_rows) _ few);
              judgeable-rest = under_less level some (λ k. judgeable_rows rows k) (and_right (leb (length (names_in rows)) most_rows) _ few);
            })
            m.0 (subst (Whole (take n p)) m.1 w)
            ∙ ap (λ (y : Json). least (faults (shape.object rows) q field (pick (shape.object rows) y))) (sym m.1);
      }
