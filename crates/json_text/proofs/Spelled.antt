-- A text that spells a tree is read to it. A spelled value reads the same before anything that does not go on with a number, its first byte is
-- no blank and no closing bracket, and blanks between tokens are passed over: so each rule of the spelling is a step of the reader.
use mathlib.Core.Bool.{true, false}
use mathlib.Core.List.{List, [], ◌∷◌, ◌++◌, append_assoc, append-nil}
use mathlib.Core.Path.{◌≡◌, refl, sym, ap, subst, ◌∙◌}
use Prim.Native.Nat.{ℕ, zero, suc}
use native.Mathlib.Omega.{arith}
use lib.Dec.{eqb}
use borrow.Author.Tests.{eqb-true, eq-eqb}
use Rattle.notation.proofs.Booleans.{by_test, true-false}
use Rattle.lexeme.specs.Read.{Read, made}
use Rattle.lexeme.specs.Read.Read.{done}
use Rattle.lexeme.specs.Character.{Surrogates, paired}
use Rattle.lexeme.specs.Strings as Strings
use Rattle.lexeme.specs.Numbers as Numbers
use Rattle.lexeme.specs.Tokens.{blank, blanks}
use Rattle.lexeme.specs.inner.Start.{Start, start}
use Rattle.lexeme.proofs.Reading.{Consumes, numeric, Stops}
use Rattle.lexeme.proofs.Reading.Settled.{stops}
use Rattle.lexeme.proofs.Steps.{done_what, made_reads, then-reads, blanks_pass, blanks_stop}
use Rattle.lexeme.proofs.StrongPrefixes.{number_takes, number_consumes}
use Rattle.lexeme.proofs.Starts.{blank-other, blank_stops, number-starts}
use Rattle.json_text.specs.Cases.{reading}
use Rattle.json_text.specs.Tree.{Json, as_items, as_members}
use Rattle.json_text.specs.Text.{expect, contents, bracketed, member, value_by, value, finish, text}
use Rattle.json_text.specs.Text.After.{more}
use Rattle.json_text.specs.Spelling.{Blanks, Padded, Quoted, Plain, Listed, Enclosed, Member, Nested, Value, Spells}
use Rattle.json_text.proofs.Steps.{expect-here, after-closed, after_more, elements-closed, contents-none, contents-some, named, member-then, value_at, value-start}
use Rattle.json_text.proofs.Bound.{all, elements-next}
use Rattle.json_text.proofs.StrongPrefixes.{value_consumes, member_consumes}
use Rattle.json_text.proofs.Values.{begun}
use Rattle.json_text.proofs.Faults.{Closing, square, curly}
use Rattle.json_text.proofs.Characters.{characters_read}

-- blanks are passed over, and go on with no number
pub skipped : {w : List ℕ} → Blanks w → (l : List ℕ) → blanks (w ++ l) ≡ blanks l
skipped Blanks.none l = refl
skipped (Blanks.some {b} {w} h k) l = blanks_pass b (w ++ l) h ∙ skipped k l

pub before_stops : {w : List ℕ} → Blanks w → (l : List ℕ) → Stops l → Stops (w ++ l)
before_stops Blanks.none l h = h
before_stops (Blanks.some {b} e k) l h = blank_stops b e

-- a text that begins as a value does: with no blank, and with no byte that begins none
abbrev pub Begun : List ℕ → Type 0
Begun [] = ⊥
Begun (b ∷ r) = begun (start b) ≡ true

no_other : (b : ℕ) → begun (start b) ≡ true → start b ≡ Start.other → ⊥
no_other b h e = true-false h (ap begun e)

pub begun-solid : (s q : List ℕ) → Begun s → blanks (s ++ q) ≡ s ++ q
begun-solid [] q h = absurd h
begun-solid (b ∷ s) q h = by_test (blank b) (λ e. absurd (no_other b h (blank-other b e))) (λ e. blanks_stop b (s ++ q) e)

begun_further : (s q : List ℕ) → Begun s → Begun (s ++ q)
begun_further [] q h = absurd h
begun_further (b ∷ s) q h = h

begun_open : {A : Type 0} (close : ℕ) (element : List ℕ → Read A) → start close ≡ Start.other → (s q : List ℕ) → Begun s
    → contents close element (s ++ q) ≡ all close element (s ++ q)
begun_open close element other [] q h = absurd h
begun_open close element other (b ∷ s) q h =
    by_test (eqb b close) (λ e. absurd (no_other b h (ap start (eqb-true b close e) ∙ other))) (λ e. contents-some close element b (s ++ q) e)

-- f reads x off s, before anything that does not go on with a number
abbrev pub Reads : {A : Type 0} → (List ℕ → Read A) → A → List ℕ → Type 0
Reads f x s = (q : List ℕ) → Stops q → f (s ++ q) ≡ done x q

-- f reads every spelling in S, and each begins as a value does
pub record Accepts {A : Type 0} (f : List ℕ → Read A) (S : A → List ℕ → Type 0) : Type 0 where
  pub consumes : Consumes f
  pub begins : (x : A) (s : List ℕ) → S x s → Begun s
  pub reads : (x : A) (s : List ℕ) → S x s → Reads f x s

-- two tokens with a sign between them, and blanks around that
pub between-begun : (v w c u s : List ℕ) → Begun v → Begun (v ++ w ++ c ++ u ++ s)
between-begun v w c u s h = simp append_assoc (begun_further v (w ++ (c ++ (u ++ s))) h)

pub between_more : (v w c u s q : List ℕ) → (v ++ w ++ c ++ u ++ s) ++ q ≡ v ++ (w ++ (c ++ (u ++ (s ++ q))))
between_more v w c u s q = simp append_assoc

comma_stops : numeric 0x2c ≡ false
unfolding reading numeric
comma_stops = refl

comma-solid : blank 0x2c ≡ false
unfolding reading
comma-solid = refl

pub colon-solid : blank 0x3a ≡ false
unfolding reading
colon-solid = refl

-- elements between brackets
module _ {A : Type 0} {close : ℕ} (c : Closing close) {element : List ℕ → Read A} {S : A → List ℕ → Type 0} (k : Accepts element S) where
  listed-begun : {xs : List A} {s : List ℕ} → Listed S xs s → Begun s
  listed-begun (Listed.last {x} {s} y) = k.begins x s y
  listed-begun (Listed.comma {x} {s = s} {w} {u} {t} y a b ys) = between-begun s w (0x2c ∷ []) u t (k.begins x s y)

  listed-read : {xs : List A} {s e : List ℕ} → Listed S xs s → Blanks e → (q : List ℕ) → all close element (s ++ (e ++ (close ∷ q))) ≡ done xs q
  listed-read {e = e} (Listed.last {x} {s} y) d q =
      elements-closed close _ element _ x _ q (k.reads x s y (e ++ (close ∷ q)) (before_stops d (close ∷ q) c.halts))
      (after-closed close (e ++ (close ∷ q)) close q (skipped d (close ∷ q) ∙ blanks_stop close q c.solid) (eq-eqb close close refl))
  listed-read {e = e} (Listed.comma {x} {s = s} {w} {u} {t} y a b ys) d q =
      let rest = e ++ (close ∷ q) in
      let next : List ℕ = 0x2c ∷ (u ++ (t ++ rest)) in
      ap (all close element) (between_more s w (0x2c ∷ []) u t rest)
      ∙ elements-next close element k.consumes _ _ (t ++ rest) x (k.reads x s y (w ++ next) (before_stops a next comma_stops))
      (after_more close (w ++ next) 0x2c (u ++ (t ++ rest)) (skipped a next ∙ blanks_stop 0x2c _ comma-solid) c.parts refl
      ∙ ap more (skipped b (t ++ rest) ∙ begun-solid t rest (listed-begun ys)))
      ∙ made_reads (λ xs. x ∷ xs) (listed-read ys d q)

  pub enclosed-read : {xs : List A} {s : List ℕ} → Enclosed S xs s → (q : List ℕ) → bracketed close element (s ++ (close ∷ q)) ≡ done xs q
  unfolding bracketed
  enclosed-read (Enclosed.nothing w) q =
      ap (contents close element) (skipped w (close ∷ q) ∙ blanks_stop close q c.solid) ∙ contents-none close element close q (eq-eqb close close refl)
  enclosed-read (Enclosed.elements (Padded.padded {w} {s} {u} a ys d)) q =
      let rest = u ++ (close ∷ q) in
      let h = listed-begun ys in
      ap (λ (l : List ℕ). contents close element (blanks l)) (append_assoc (w ++ s) u (close ∷ q) ∙ append_assoc w s rest)
      ∙ ap (contents close element) (skipped a (s ++ rest) ∙ begun-solid s rest h)
      ∙ begun_open close element c.other s rest h
      ∙ listed-read ys d q

-- strings, and members named by them
quoted-begun : {y s : List ℕ} → Quoted y s → Begun s
unfolding reading start
quoted-begun (Quoted.quoted e) = refl

quoted-reads : {y s : List ℕ} → Quoted y s → (q : List ℕ) → expect 0x22 (Strings.string paired 0) (s ++ q) ≡ done y q
quoted-reads (Quoted.quoted {s = s} k) q =
    expect-here 0x22 _ 0x22 ((s ++ (0x22 ∷ [])) ++ q) refl ∙ ap (Strings.string paired 0) (append_assoc s (0x22 ∷ []) q) ∙ characters_read k q

members : {f : List ℕ → Read Json} {S : Json → List ℕ → Type 0} → Accepts f S → Accepts (member paired f) (Member S)
members {f} {S} k = record { consumes = member_consumes paired f k.consumes; begins = first; reads = all_of }
  where
    first : (m : List ℕ × Json) (s : List ℕ) → Member S m s → Begun s
    first m s (Member.colon {n = n} {w} {u} {v} name a b y) = between-begun n w (0x3a ∷ []) u v (quoted-begun name)

    all_of : (m : List ℕ × Json) (s : List ℕ) → Member S m s → Reads (member paired f) m s
    all_of m s (Member.colon {name} {x} {n} {w} {u} {v} y a b z) q h =
        let rest = u ++ (v ++ q) in
        ap (member paired f) (between_more n w (0x3a ∷ []) u v q)
        ∙ member-then paired f _
        ∙ then-reads (named f) (quoted-reads y (w ++ (0x3a ∷ rest)))
        ∙ ap (expect 0x3a _) (skipped a (0x3a ∷ rest) ∙ blanks_stop 0x3a rest colon-solid)
        ∙ expect-here 0x3a _ 0x3a rest refl
        ∙ made_reads (λ t. (name, t)) (ap f (skipped b (v ++ q) ∙ begun-solid v q (k.begins x v z)) ∙ k.reads x v z q h)

-- values without brackets, at any level
pub plain_value : (ρ : Surrogates) (d : ℕ) (l : List ℕ) {o : Read Json} → ((arrays objects : List ℕ → Read Json) → value_by ρ arrays objects l ≡ o)
    → value ρ d l ≡ o
unfolding value
plain_value ρ zero l h = h _ _
plain_value ρ (suc d) l h = h _ _

pub number-reads : (ρ : Surrogates) (d : ℕ) (n : List ℕ) → Numbers.number n ≡ done n [] → Reads (value ρ d) (Json.number n) n
unfolding value_at
number-reads ρ d [] e q h = absurd (omega (arith, number_consumes [] [] [] e))
number-reads ρ d (b ∷ l) e q h =
    let t = number_takes (b ∷ l) [] (b ∷ l) e in
    let own : b ∷ l ≡ t.part = t.splits ∙ append-nil t.part in
    let s = number-starts b l _ _ e in
    plain_value ρ d (b ∷ (l ++ q)) (λ arrays objects. value-start ρ arrays objects b (l ++ q) ∙ rw (s, value_at)
    (made_reads Json.number (ap (λ (m : List ℕ). Numbers.number (m ++ q)) own ∙ t.frame q (stops h))))

pub number-begun : (n : List ℕ) → Numbers.number n ≡ done n [] → Begun n
number-begun [] e = omega (arith, number_consumes [] [] [] e)
number-begun (b ∷ l) e = ap begun (number-starts b l _ _ e)

plain-begun : {x : Json} {s : List ℕ} → Plain x s → Begun s
unfolding reading start
plain-begun Plain.null = refl
plain-begun Plain.yes = refl
plain-begun Plain.no = refl
plain-begun (Plain.number {n} e) = number-begun n e
plain-begun (Plain.string k) = quoted-begun k

string-reads : (d : ℕ) {y s : List ℕ} → Quoted y s → Reads (value paired d) (Json.string y) s
unfolding value_by
string-reads d (Quoted.quoted {s = s} k) q h =
    plain_value paired d _ (λ arrays objects. made_reads Json.string (ap (Strings.string paired 0) (append_assoc s (0x22 ∷ []) q) ∙ characters_read k q))

plain-reads : (d : ℕ) {x : Json} {s : List ℕ} → Plain x s → Reads (value paired d) x s
unfolding reading
plain-reads d Plain.null q h = plain_value paired d _ (λ arrays objects. refl)
plain-reads d Plain.yes q h = plain_value paired d _ (λ arrays objects. refl)
plain-reads d Plain.no q h = plain_value paired d _ (λ arrays objects. refl)
plain-reads d (Plain.number {n} e) q h = number-reads paired d n e q h
plain-reads d (Plain.string k) q h = string-reads d k q h

-- a bracket that opens
pub array_opens : (ρ : Surrogates) (d : ℕ) (l : List ℕ)
    → value ρ (suc d) (0x5b ∷ l) ≡ made (λ xs. Json.array (as_items xs)) (bracketed 0x5d (value ρ d) l)
unfolding value value_by
array_opens ρ d l = refl

pub object_opens : (ρ : Surrogates) (d : ℕ) (l : List ℕ)
    → value ρ (suc d) (0x7b ∷ l) ≡ made (λ ms. Json.object (as_members ms)) (bracketed 0x7d (member ρ (value ρ d)) l)
unfolding value value_by
object_opens ρ d l = refl

-- all values, level by level
nested_begun : {S : Json → List ℕ → Type 0} {x : Json} {s : List ℕ} → Nested S x s → Begun s
unfolding reading start
nested_begun (Nested.plain y) = plain-begun y
nested_begun (Nested.array ys) = refl
nested_begun (Nested.object ms) = refl

nested_reads : (d : ℕ) {S : Json → List ℕ → Type 0} {x : Json} {s : List ℕ} → Accepts (value paired d) S → Nested S x s → Reads (value paired (suc d)) x s
nested_reads d k (Nested.plain y) q h = plain-reads (suc d) y q h
nested_reads d k (Nested.array {s = s} ys) q h =
    ap (λ (l : List ℕ). value paired (suc d) (0x5b ∷ l)) (append_assoc s (0x5d ∷ []) q) ∙ array_opens paired d _ ∙ made_reads _ (enclosed-read square k ys q)
nested_reads d k (Nested.object {s = s} ms) q h =
    ap (λ (l : List ℕ). value paired (suc d) (0x7b ∷ l)) (append_assoc s (0x7d ∷ []) q) ∙ object_opens paired d _ ∙ made_reads _ (enclosed-read curly (members k) ms q)

values : (d : ℕ) → Accepts (value paired d) (Value d)
values zero = record { consumes = value_consumes paired zero; begins = λ x s. plain-begun; reads = λ x s. plain-reads zero }
values (suc d) = let k = values d in record { consumes = value_consumes paired (suc d); begins = λ x s. nested_begun; reads = λ x s. nested_reads d k }

padded-read : (d : ℕ) (x : Json) {s : List ℕ} → Padded (Value d x) s → text paired d s ≡ done x []
unfolding text finish blanks
padded-read d x (Padded.padded {w} {s = v} {u} a y b) =
    let k = values d in
    ap (text paired d) (append_assoc w v u)
    ∙ then-reads _ (ap (value paired d) (skipped a (v ++ u) ∙ begun-solid v u (k.begins x v y)) ∙ k.reads x v y u (subst Stops (append-nil u) (before_stops b [] tt)))
    ∙ ap (finish x) (ap blanks (sym (append-nil u)) ∙ skipped b [])

-- The theorem: a text that spells the tree x is read to x, to its end.
pub spelled-read : {d : ℕ} {x : Json} {s : List ℕ} → Spells d x s → text paired d s ≡ done x []
spelled-read {d} {x} h = padded-read d x h.whole

-- What demand 3 asks of a file's text: whatever blanks stand between its tokens and however its strings are escaped, it is read the same.
module _ {d : ℕ} {x : Json} where
  pub respelled : {s t : List ℕ} → Spells d x s → Spells d x t → text paired d s ≡ text paired d t
  respelled h k = spelled-read h ∙ sym (spelled-read k)

  -- a text with a place for blanks, `at`: a blank more or less there, or others, changes nothing
  pub blanks_free : (at : List ℕ → List ℕ) → ((w : List ℕ) → Blanks w → Spells d x (at w)) → {w u : List ℕ} → Blanks w → Blanks u
      → text paired d (at w) ≡ text paired d (at u)
  blanks_free at place {w} {u} h k = respelled (place w h) (place u k)

  -- a text with a place for the string y, a value or a name: another spelling of it there changes nothing
  pub spelling_free : (at : List ℕ → List ℕ) (y : List ℕ) → ((s : List ℕ) → Quoted y s → Spells d x (at s)) → {s t : List ℕ} → Quoted y s → Quoted y t
      → text paired d (at s) ≡ text paired d (at t)
  spelling_free at y place {s} {t} h k = respelled (place s h) (place t k)

-- a text spells one tree only
pub spelled-once : {d : ℕ} {x y : Json} {s : List ℕ} → Spells d x s → Spells d y s → x ≡ y
spelled-once h k = done_what (sym (spelled-read h) ∙ spelled-read k)
