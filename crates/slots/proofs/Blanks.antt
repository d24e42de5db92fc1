-- The text with nothing in it is the two quotation marks, and nothing else is: a character of a text takes a byte of its spelling at least, and
-- stands for a byte at least.
use mathlib.Core.Bool.{true, false}
use mathlib.Core.List.{List, [], ◌∷◌, ◌++◌}
use mathlib.Core.Path.{◌≡◌, refl, sym, ap, ◌∙◌}
use Prim.Native.Nat.{ℕ, zero, suc, ◌-◌, ◌<◌}
use native.Mathlib.Omega.{arith}
use lib.Dec.{eqb}
use lib.ListN.{length, get_or, drop, take, length-append, length-take}
use borrow.Author.Tests.{eq-eqb, eqb-true}
use Rattle.limits.specs.Ceilings.{depth}
use Rattle.notation.proofs.Booleans.{by_test, true-false}
use Rattle.notation.proofs.Lists.{no_cons}
use Rattle.lexeme.specs.declared.Char.{Char}
use Rattle.lexeme.specs.declared.Next.{Next}
use Rattle.lexeme.specs.declared.Next.TheVariants.{Quote, Character, Fault}
use Rattle.lexeme.specs.Read.{made}
use Rattle.lexeme.specs.Read.Read.{done}
use Rattle.lexeme.specs.Character.{paired, byte, bytes_of, next}
use Rattle.lexeme.specs.Strings.{string, decoded}
use Rattle.lexeme.specs.inner.Start.{Start, start}
use Rattle.lexeme.proofs.Rests.{first_byte}
use Rattle.lexeme.proofs.Steps.{bad-done, done-rest, made-done, string-quote, string-fault, string-character, string-empty}
use Rattle.lexeme.proofs.Starts.{string-byte}
use Rattle.lexeme.proofs.StrongPrefixes.{string-spelled}
use Rattle.text.proofs.Whole.{next-whole}
use Rattle.json_text.specs.Tree as tree
use Rattle.json_text.specs.Tree.{Json}
use Rattle.json_text.specs.Text.{value, value_by}
use Rattle.walk.specs.declared.ValueKind.TheVariants as kind
use Rattle.walk.specs.Part.{Whole, kind_of}
use Rattle.walk.specs.inner.Kind.{kind_from, kind_at}
use Rattle.walk.specs.inner.Skip.{skipped}
use Rattle.walk.proofs.Quotes.{quoted-mark}
use Rattle.walk.proofs.Skips.{skipped-string}
use Rattle.walk.proofs.Wholes.{whole-kind, string-read, whole-string, whole-some}
use Rattle.walk.proofs.Fronts.{skip-ends}
use Rattle.slots.specs.inner.Blank.{blank_text, BeginsBlank}

-- the first byte of a text
string-start : (t : Start) → kind_from t ≡ kind.String → t ≡ Start.string
string-start Start.string e = refl
string-start Start.number e = absurd (let z : ◌≡◌ {A = ℕ} 0 1 = cc in omega arith)
string-start Start.array e = absurd (let z : ◌≡◌ {A = ℕ} 0 1 = cc in omega arith)
string-start Start.object e = absurd (let z : ◌≡◌ {A = ℕ} 0 1 = cc in omega arith)
string-start Start.letter_t e = absurd (let z : ◌≡◌ {A = ℕ} 0 1 = cc in omega arith)
string-start Start.letter_f e = absurd (let z : ◌≡◌ {A = ℕ} 0 1 = cc in omega arith)
string-start Start.letter_n e = absurd (let z : ◌≡◌ {A = ℕ} 0 1 = cc in omega arith)
string-start Start.other e = absurd (let z : ◌≡◌ {A = ℕ} 0 1 = cc in omega arith)

start-quote : (b : ℕ) → eqb b 0x22 ≡ true → start b ≡ Start.string
unfolding start
start-quote b e = rw (start, e)

-- a text, read
read-text : (d b : ℕ) (l : List ℕ) → start b ≡ Start.string → value paired d (b ∷ l) ≡ made Json.string (string paired 0 l)
unfolding value value_by
read-text zero b l e = rw (string-byte b e)
read-text (suc d) b l e = rw (string-byte b e)

bytes-some : (x : Char) (y : List ℕ) → 0 < x.len → bytes_of x ++ y ≡ [] → ⊥
bytes-some x y h e = omega (arith, ap length e, length-append (bytes_of x) y, length-take x.len (x.b0 ∷ x.b1 ∷ x.b2 ∷ x.b3 ∷ []))

-- it has nothing in it only at its closing mark
nothing_read : (l : List ℕ) → string paired 0 l ≡ done [] [] → length l ≡ 1
nothing_read [] e = bad-done (sym (string-empty paired 0) ∙ e)
nothing_read (b ∷ r) e = go (next paired (b ∷ r)) refl
  where
    go : (o : Next) → next paired (b ∷ r) ≡ o → length (b ∷ r) ≡ 1
    go Quote h = ap (λ (z : List ℕ). length (b ∷ z)) (done-rest (sym (string-quote paired b r h) ∙ e))
    go (Fault k n) h = bad-done (sym (string-fault paired b r h) ∙ e)
    go (Character x) h =
        let m = made-done (λ y. bytes_of x ++ y) (string paired x.more r) [] [] (sym (string-character paired b r h) ∙ e) in
        absurd (bytes-some x m.0 (next-whole (b ∷ r) x h) m.2)

module _ {p : List ℕ} where
  text-start : {y : List ℕ} → Whole p (Json.string y) → start (get_or p 0 0) ≡ Start.string
  unfolding kind_at
  text-start w = string-start (start (get_or p 0 0)) (whole-kind w)

  blank-two : Whole p (Json.string []) → length p ≡ 2
  blank-two w = go p refl
    where
      go : (q : List ℕ) → p ≡ q → length p ≡ 2
      go [] e = absurd (omega (arith, whole-some w, ap length e))
      go (b ∷ l) e =
          let s : start b ≡ Start.string = ap (λ (z : List ℕ). start (get_or z 0 0)) (sym e) ∙ text-start w in
          let m = made-done Json.string (string paired 0 l) (Json.string []) [] (sym (read-text depth b l s) ∙ ap (value paired depth) (sym e) ∙ w.reads) in
          let y : m.0 ≡ [] = cc m.2 in
          omega (arith, ap length e, nothing_read l (m.1 ∙ ap (λ (z : List ℕ). done z []) y))

  two-blank : {y : List ℕ} → length p ≡ 2 → Whole p (Json.string y) → y ≡ []
  unfolding decoded
  two-blank h w = let n : length p - 2 ≡ 0 = omega arith in whole-string w ∙ rw n

  -- only a text begins with the mark
  unquoted : {x : Json} → (kind_of x ≡ kind.String → ⊥) → Whole p x → eqb (get_or p 0 0) 0x22 ≡ false
  unfolding kind_at
  unquoted n w = by_test (eqb (get_or p 0 0) 0x22) (λ t. absurd (n (sym (whole-kind w) ∙ ap kind_from (start-quote (get_or p 0 0) t)))) (λ t. t)

  pub long-blank : (x : Json) → Whole p x → (length p ≡ 2 → ⊥) → false ≡ blank_text x
  long-blank tree.null w n = refl
  long-blank (tree.boolean b) w n = refl
  long-blank (tree.number s) w n = refl
  long-blank (tree.string []) w n = absurd (n (blank-two w))
  long-blank (tree.string (b ∷ s)) w n = refl
  long-blank (tree.array is) w n = refl
  long-blank (tree.object ms) w n = refl

  pub short-blank : (x : Json) → Whole p x → length p ≡ 2 → eqb (get_or p 0 0) 0x22 ≡ blank_text x
  short-blank tree.null w h = unquoted (λ k. let z : ◌≡◌ {A = ℕ} 0 1 = cc in omega arith) w
  short-blank (tree.boolean b) w h = unquoted (λ k. let z : ◌≡◌ {A = ℕ} 0 1 = cc in omega arith) w
  short-blank (tree.number s) w h = unquoted (λ k. let z : ◌≡◌ {A = ℕ} 0 1 = cc in omega arith) w
  short-blank (tree.string []) w h = eq-eqb (get_or p 0 0) 0x22 (string-byte (get_or p 0 0) (text-start w))
  short-blank (tree.string (b ∷ s)) w h = no_cons (sym (two-blank h w))
  short-blank (tree.array is) w h = unquoted (λ k. let z : ◌≡◌ {A = ℕ} 0 1 = cc in omega arith) w
  short-blank (tree.object ms) w h = unquoted (λ k. let z : ◌≡◌ {A = ℕ} 0 1 = cc in omega arith) w

-- at the front of bytes: both marks stand there

closing_mark : (l : List ℕ) → length l ≡ 1 → string paired 0 l ≡ done [] [] → byte l 0 ≡ 0x22
closing_mark l n e = let s = string-spelled paired 0 l [] [] e in ap (λ (z : List ℕ). byte z 0) s.splits ∙ only s.part (omega (arith, ap length s.splits, length-append s.part (0x22 ∷ [])))
  where
    only : (q : List ℕ) → length q ≡ 0 → byte (q ++ (0x22 ∷ [])) 0 ≡ 0x22
    only [] h = refl
    only (b ∷ q) h = absurd (omega arith)

record Marks (p : List ℕ) : Type 0 where
  opening : byte p 0 ≡ 0x22
  closing : byte p 1 ≡ 0x22

marked : (n : ℕ) (p : List ℕ) → Whole (take n p) (Json.string []) → Marks p
marked zero p w = absurd (omega (arith, whole-some w))
marked (suc n) [] w = absurd (omega (arith, whole-some w))
marked (suc zero) (a ∷ p) w = absurd (omega (arith, blank-two w))
marked (suc (suc n)) (a ∷ []) w = absurd (omega (arith, blank-two w))
marked (suc (suc n)) (a ∷ b ∷ p) w =
    record { opening = string-byte a (text-start w); closing = closing_mark (b ∷ take n p) (omega (arith, blank-two w)) (string-read w) }

-- so no value is that text where they do not
unmarked : (p : List ℕ) → (Marks p → ⊥) → BeginsBlank p false
unmarked p none = record { ends = λ e. true-false e refl; is = λ e. true-false e refl; not = λ e n x w. go n x w }
  where
    go : (n : ℕ) (x : Json) → Whole (take n p) x → false ≡ blank_text x
    go n tree.null w = refl
    go n (tree.boolean b) w = refl
    go n (tree.number s) w = refl
    go n (tree.string []) w = absurd (none (marked n p w))
    go n (tree.string (b ∷ s)) w = refl
    go n (tree.array is) w = refl
    go n (tree.object ms) w = refl

both-marks : (p : List ℕ) → Marks p → BeginsBlank p true
both-marks [] m = absurd (omega (arith, m.opening))
both-marks (a ∷ []) m = absurd (omega (arith, m.closing))
both-marks (a ∷ b ∷ p) m =
    let e : skipped (a ∷ b ∷ p) ≡ p = skipped-string a (b ∷ p) (start-quote a (eq-eqb a 0x22 m.opening)) ∙ quoted-mark p m.closing in
    record {
      ends = λ t. skip-ends (a ∷ b ∷ p) 2 (omega (arith, ap length e));
      is = λ t x w. sym (eq-eqb a 0x22 m.opening) ∙ short-blank x w refl;
      not = λ t. true-false refl t;
    }

-- by the two bytes, as the code reads them
module _ (p : List ℕ) (a : ℕ) (first : a ≡ byte p 0) where
  pub other-first : (a ≡ 0x22 → ⊥) → BeginsBlank p false
  other-first n = unmarked p (λ m. n (first ∙ m.opening))

  pub by-second : (b : ℕ) → b ≡ byte (drop 1 p) 0 → a ≡ 0x22 → BeginsBlank p (eqb b 0x22)
  by-second b second e =
      by_test (eqb b 0x22)
      (λ t. rw t (both-marks p (record { opening = sym first ∙ e; closing = first_byte p 1 ∙ sym second ∙ eqb-true b 0x22 t })))
      (λ t. rw t (unmarked p (λ m. true-false (eq-eqb b 0x22 (second ∙ sym (first_byte p 1) ∙ m.closing)) t)))
