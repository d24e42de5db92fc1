-- The lax reader passes exactly RFC 8259's texts. Forwards, each rule of the grammar is a step of the reader, which reads some tree; backwards, what each
-- reader took off the front is of its rule. Both go level by level, by the laws that `Spelled` and `Spellings` have for any family of elements.
use mathlib.Core.Bool.{true, false}
use mathlib.Core.List.{List, [], ◌∷◌, ◌++◌, append_assoc, append-nil}
use mathlib.Core.Path.{◌≡◌, refl, sym, ap, subst, ◌∙◌}
use Prim.Native.Nat.{ℕ, zero, suc}
use Rattle.notation.specs.Ascii.{bytes}
use Rattle.lexeme.specs.Read.{Read}
use Rattle.lexeme.specs.Read.Read.{done}
use Rattle.lexeme.specs.Character.{lone}
use Rattle.lexeme.specs.Strings as Strings
use Rattle.lexeme.specs.Tokens.{blanks}
use Rattle.lexeme.specs.inner.Start.{start}
use Rattle.lexeme.proofs.Reading.{Consumes, Stops}
use Rattle.lexeme.proofs.Steps.{bad-done, made_reads, made-done, then-reads, then-done, blanks_stop}
use Rattle.json_text.specs.Cases.{reading}
use Rattle.json_text.specs.Tree.{Json, as_items, as_members}
use Rattle.json_text.specs.Text.{expect, bracketed, member, value_by, value, finish, text}
use Rattle.json_text.specs.Spelling as Spelling
use Rattle.json_text.specs.Spelling.{Padded, Listed}
use Rattle.json_text.specs.Grammar.{String, Scalar, Elements, Enclosed, Member, Nested, Value, IsText}
use Rattle.json_text.proofs.Steps.{expect-here, named, member-then}
use Rattle.json_text.proofs.StrongPrefixes.{value_consumes, member_consumes}
use Rattle.json_text.proofs.Faults.{Closing, square, curly}
use Rattle.json_text.proofs.Numerals.{number_passed, number-found}
use Rattle.json_text.proofs.Chars.{chars_read}
use Rattle.json_text.proofs.Found.{string-found}
use Rattle.json_text.proofs.Spelled.{skipped, before_stops, Begun, begun-solid, Reads, Accepts, between-begun, between_more, colon-solid, number-begun, enclosed-read, plain_value, number-reads, array_opens, object_opens}
use Rattle.json_text.proofs.Spellings.{between, Front, Finds, blanks-front, front_of, joined, bracketed_finds, expect-done, finish-done, padded-front, value-by_finds}

-- Forwards. f reads something off every text of the rule S, and each begins as a value does.
record Passes {A : Type 0} (f : List ℕ → Read A) (S : List ℕ → Type 0) : Type 0 where
  consumes : Consumes f
  begins : (s : List ℕ) → S s → Begun s
  reads : (s : List ℕ) → S s → (x : A) × Reads f x s

module _ {A : Type 0} {f : List ℕ → Read A} {S : List ℕ → Type 0} (k : Passes f S) where
  -- the texts of S with what is read off them
  abbrev With : A → List ℕ → Type 0
  With x s = S s × Reads f x s

  accepts : Accepts f With
  accepts = record { consumes = k.consumes; begins = λ x s h. k.begins s h.0; reads = λ x s h. h.1 }

  listed : {s : List ℕ} → Elements S s → (xs : List A) × Listed With xs s
  listed (Elements.last {s} y) = let r = k.reads s y in (r.0 ∷ [], Listed.last (y, r.1))
  listed (Elements.comma {s} y a b ys) = let r = k.reads s y in let m = listed ys in (r.0 ∷ m.0, Listed.comma (y, r.1) a b m.1)

  enclosed : {s : List ℕ} → Enclosed S s → (xs : List A) × Spelling.Enclosed With xs s
  enclosed (Enclosed.nothing w) = ([], Spelling.Enclosed.nothing w)
  enclosed (Enclosed.elements (Padded.padded a ys d)) = let m = listed ys in (m.0, Spelling.Enclosed.elements (Padded.padded a m.1 d))

  bracketed_passed : {close : ℕ} (c : Closing close) {s : List ℕ} → Enclosed S s → (xs : List A) × ((q : List ℕ) → bracketed close f (s ++ (close ∷ q)) ≡ done xs q)
  bracketed_passed c e = let m = enclosed e in (m.0, enclosed-read c accepts m.1)

string-begun : {s : List ℕ} → String s → Begun s
unfolding reading start
string-begun (String.quoted k) = refl

string_passed : {s : List ℕ} → String s → (y : List ℕ) × ((q : List ℕ) → expect 0x22 (Strings.string lone 0) (s ++ q) ≡ done y q)
string_passed (String.quoted {s} k) =
    let r = chars_read k in (
      r.0,
      λ q.
          expect-here 0x22 (Strings.string lone 0) 0x22 ((s ++ (0x22 ∷ [])) ++ q) refl ∙ ap (Strings.string lone 0) (append_assoc s (0x22 ∷ []) q) ∙ r.1 q,
    )

members : {f : List ℕ → Read Json} {S : List ℕ → Type 0} → Passes f S → Passes (member lone f) (Member S)
members {f} {S} k = record { consumes = member_consumes lone f k.consumes; begins = first; reads = all_of }
  where
    first : (s : List ℕ) → Member S s → Begun s
    first s (Member.colon {n} {w} {u} {v} name a b y) = between-begun n w (0x3a ∷ []) u v (string-begun name)

    all_of : (s : List ℕ) → Member S s → (m : List ℕ × Json) × Reads (member lone f) m s
    all_of s (Member.colon {n} {w} {u} {v} y a b z) =
        let name = string_passed y in
        let x = k.reads v z in (
          (name.0, x.0),
          λ q h.
              ap (member lone f) (between_more n w (0x3a ∷ []) u v q)
              ∙ member-then lone f _
              ∙ then-reads (named f) (name.1 (w ++ (0x3a ∷ (u ++ (v ++ q)))))
              ∙ ap (expect 0x3a _) (skipped a (0x3a ∷ (u ++ (v ++ q))) ∙ blanks_stop 0x3a (u ++ (v ++ q)) colon-solid)
              ∙ expect-here 0x3a _ 0x3a (u ++ (v ++ q)) refl
              ∙ made_reads (λ t. (name.0, t)) (ap f (skipped b (v ++ q) ∙ begun-solid v q (k.begins v z)) ∙ x.1 q h),
        )

-- values
scalar-begun : {s : List ℕ} → Scalar s → Begun s
unfolding reading start
scalar-begun Scalar.no = refl
scalar-begun Scalar.null = refl
scalar-begun Scalar.yes = refl
scalar-begun (Scalar.number {s} n) = number-begun s (number_passed n)
scalar-begun (Scalar.string k) = string-begun k

quoted-reads : (d : ℕ) {s : List ℕ} → String s → (x : Json) × Reads (value lone d) x s
unfolding value_by
quoted-reads d (String.quoted {s} k) =
    let r = chars_read k in (
      Json.string r.0,
      λ q h. plain_value lone d _ (λ arrays objects. made_reads Json.string (ap (Strings.string lone 0) (append_assoc s (0x22 ∷ []) q) ∙ r.1 q)),
    )

scalar-reads : (d : ℕ) {s : List ℕ} → Scalar s → (x : Json) × Reads (value lone d) x s
unfolding reading
scalar-reads d Scalar.no = (Json.boolean false, λ q h. plain_value lone d _ (λ arrays objects. refl))
scalar-reads d Scalar.null = (Json.null, λ q h. plain_value lone d _ (λ arrays objects. refl))
scalar-reads d Scalar.yes = (Json.boolean true, λ q h. plain_value lone d _ (λ arrays objects. refl))
scalar-reads d (Scalar.number {s} n) = (Json.number s, number-reads lone d s (number_passed n))
scalar-reads d (Scalar.string k) = quoted-reads d k

nested_begun : {S : List ℕ → Type 0} {s : List ℕ} → Nested S s → Begun s
unfolding reading start
nested_begun (Nested.scalar y) = scalar-begun y
nested_begun (Nested.array ys) = refl
nested_begun (Nested.object ms) = refl

nested_reads : (d : ℕ) {S : List ℕ → Type 0} {s : List ℕ} → Passes (value lone d) S → Nested S s → (x : Json) × Reads (value lone (suc d)) x s
nested_reads d k (Nested.scalar y) = scalar-reads (suc d) y
nested_reads d k (Nested.array {s} ys) =
    let m = bracketed_passed k square ys in (
      Json.array (as_items m.0),
      λ q h. ap (λ (l : List ℕ). value lone (suc d) (0x5b ∷ l)) (append_assoc s (0x5d ∷ []) q) ∙ array_opens lone d _ ∙ made_reads _ (m.1 q),
    )
nested_reads d k (Nested.object {s} ms) =
    let m = bracketed_passed (members k) curly ms in (
      Json.object (as_members m.0),
      λ q h. ap (λ (l : List ℕ). value lone (suc d) (0x7b ∷ l)) (append_assoc s (0x7d ∷ []) q) ∙ object_opens lone d _ ∙ made_reads _ (m.1 q),
    )

values : (d : ℕ) → Passes (value lone d) (Value d)
values zero = record { consumes = value_consumes lone zero; begins = λ s. scalar-begun; reads = λ s. scalar-reads zero }
values (suc d) = let k = values d in record { consumes = value_consumes lone (suc d); begins = λ s. nested_begun; reads = λ s. nested_reads d k }

padded-read : (d : ℕ) {s : List ℕ} → Padded (Value d) s → (x : Json) × (text lone d s ≡ done x [])
unfolding text finish blanks
padded-read d (Padded.padded {w} {s = v} {u} a y b) =
    let k = values d in
    let x = k.reads v y in (
      x.0,
      ap (text lone d) (append_assoc w v u)
          ∙ then-reads _ (ap (value lone d) (skipped a (v ++ u) ∙ begun-solid v u (k.begins v y)) ∙ x.1 u (subst Stops (append-nil u) (before_stops b [] tt)))
          ∙ ap (finish x.0) (ap blanks (sym (append-nil u)) ∙ skipped b []),
    )

-- Backwards. What f reads is of the rule S.
listed_of : {A : Type 0} {S : List ℕ → Type 0} {xs : List A} {s : List ℕ} → Listed (λ x. S) xs s → Elements S s
listed_of (Listed.last y) = Elements.last y
listed_of (Listed.comma y a b ys) = Elements.comma y a b (listed_of ys)

enclosed-of : {A : Type 0} {S : List ℕ → Type 0} {xs : List A} {s : List ℕ} → Spelling.Enclosed (λ x. S) xs s → Enclosed S s
enclosed-of (Spelling.Enclosed.nothing w) = Enclosed.nothing w
enclosed-of (Spelling.Enclosed.elements (Padded.padded a ys d)) = Enclosed.elements (Padded.padded a (listed_of ys) d)

quoted-front : (l y r : List ℕ) → Strings.string lone 0 l ≡ done y r → Front String (0x22 ∷ l) r
quoted-front l y r e = let c = string-found l y r e in between 0x22 0x22 c.0 c.1 (String.quoted c.2)

member_finds : {f : List ℕ → Read Json} {S : List ℕ → Type 0} → Finds f (λ x. S) → Finds (member lone f) (λ m. Member S)
unfolding member
member_finds {f} finds l r m e =
    let p = then-done (expect 0x22 (Strings.string lone 0) l) (named f) m r e in
    let a = expect-done 0x22 (Strings.string lone 0) l p.1 p.0 p.2 in
    let c = expect-done 0x3a _ (blanks p.1) r m p.3 in
    let t = made-done (λ x. (p.0, x)) (f (blanks c.0)) m r c.2 in
    let n = front_of a.1 refl (quoted-front a.0 p.0 p.1 a.2) in
    let w = front_of refl c.1 (blanks-front p.1) in
    let u = blanks-front c.0 in
    let v = finds (blanks c.0) r t.0 t.1 in
    record {
      part = n.part ++ w.part ++ bytes ":" ++ u.part ++ v.part;
      splits = joined n.part w.part (bytes ":") u.part v.part r n.splits w.splits u.splits v.splits;
      spells = Member.colon n.spells w.spells u.spells v.spells;
    }

widened : {S T : List ℕ → Type 0} {l r : List ℕ} → ((s : List ℕ) → S s → T s) → Front S l r → Front T l r
widened f k = record { part = k.part; splits = k.splits; spells = f k.part k.spells }

closing : {S : List ℕ → Type 0} (first close : ℕ) {l r : List ℕ} {T : List ℕ → Type 0} → ((s : List ℕ) → S s → T ((first ∷ []) ++ s ++ (close ∷ [])))
    → (s : List ℕ) × (l ≡ s ++ (close ∷ r)) × S s → Front T (first ∷ l) r
closing first close {r = r} f c =
    record {
      part = (first ∷ []) ++ c.0 ++ (close ∷ []);
      splits = ap (λ (m : List ℕ). first ∷ m) (c.1 ∙ sym (append_assoc c.0 (close ∷ []) r));
      spells = f c.0 c.2;
    }

pub value_finds : (d : ℕ) → Finds (value lone d) (λ x. Value d)
unfolding value
value_finds zero =
    value-by_finds lone _ _ (λ x. Scalar) (λ l y r e. widened (λ s. Scalar.string) (quoted-front l y r e)) (λ n e. Scalar.number (number-found n n [] e))
    Scalar.yes Scalar.no Scalar.null (λ l r x e. bad-done e) (λ l r x e. bad-done e)
value_finds (suc d) =
    let ih = value_finds d in
    let consumes = value_consumes lone d in
    value-by_finds lone _ _ (λ x. Nested (Value d)) (λ l y r e. widened (λ s k. Nested.scalar (Scalar.string k)) (quoted-front l y r e))
    (λ n e. Nested.scalar (Scalar.number (number-found n n [] e))) (Nested.scalar Scalar.yes) (Nested.scalar Scalar.no) (Nested.scalar Scalar.null)
    (λ l r x e.
    let m = made-done (λ xs. Json.array (as_items xs)) (bracketed 0x5d (value lone d) l) x r e in
    closing 0x5b 0x5d (λ s k. Nested.array (enclosed-of k)) (bracketed_finds 0x5d consumes ih l r m.0 m.1))
    (λ l r x e.
    let m = made-done (λ ms. Json.object (as_members ms)) (bracketed 0x7d (member lone (value lone d)) l) x r e in
    closing 0x7b 0x7d (λ s k. Nested.object (enclosed-of k))
    (bracketed_finds 0x7d (member_consumes lone (value lone d) consumes) (member_finds ih) l r m.0 m.1))

-- The theorem, both ways: a text is of the grammar exactly where, with enough levels, the lax reader reads some tree to its end.
pub grammar_reads : {l : List ℕ} → IsText l → (levels : ℕ) × (tree : Json) × (text lone levels l ≡ done tree [])
grammar_reads k = let x = padded-read k.levels k.whole in (k.levels, x.0, x.1)

pub reads_grammar : (levels : ℕ) (tree : Json) (l : List ℕ) → text lone levels l ≡ done tree [] → IsText l
unfolding text
reads_grammar d x l e =
    let p = then-done (value lone d (blanks l)) (λ y q. finish y (blanks q)) x [] e in
    let f = finish-done p.0 (blanks p.1) x [] p.3 in
    record { levels = d; whole = padded-front (blanks-front l) (value_finds d (blanks l) p.1 p.0 p.2) (blanks-front p.1) f.0 }
