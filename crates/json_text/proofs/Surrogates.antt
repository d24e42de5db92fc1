-- A string's fault of kind 3 stands at an unpaired surrogate escape, and what stands before it, with the closing quotation mark, is read whole:
-- a character is told by the bytes that it takes, so those before the fault are read the same.
use mathlib.Core.Bool.{true, false}
use mathlib.Core.List.{List, [], ◌∷◌, ◌++◌}
use mathlib.Core.Path.{◌≡◌, refl, sym, ap, subst, ◌∙◌}
use Prim.Native.Nat.{ℕ, zero, suc, ◌≤◌, ◌<◌}
use native.Mathlib.Omega.{arith}
use lib.ListN.{length, drop, get_or-append}
use lib.Dec.{eqb}
use borrow.Author.Tests.{eqb-true}
use Rattle.notation.proofs.Booleans.{by_test}
use Rattle.word.specs.Kinds.{not_json, unpaired}
use Rattle.lexeme.specs.declared.Next.{Next}
use Rattle.lexeme.specs.declared.Next.TheVariants.{Quote, Character, Fault}
use Rattle.lexeme.specs.Read.Read.{done, bad}
use Rattle.lexeme.specs.Character.{byte, within, bytes_of, utf2, utf3, utf4, encoded, hex_value, hexadecimal, quad, low_of, trail, combined, alone, high, unit, unicode, short, escape, next, paired}
use Rattle.lexeme.specs.inner.Lead.{Lead, lead, next_by}
use Rattle.lexeme.specs.inner.Lead.Lead.{plain, quote, backslash, wrong, two, three_e0, three, three_ed, four_f0, four, four_f4}
use Rattle.lexeme.specs.Strings.{string}
use Rattle.lexeme.proofs.Steps.{done-bad, bad_kind, bad-rest, made-bad, made_reads, string-empty, string-inside, string-quote, string-fault, string-character}
use Rattle.lexeme.proofs.Local.{Agree, encoded-char, character-near}
use Rattle.lexeme.proofs.StrongPrefixes.{closes}
use Rattle.json_text.specs.Places.{Escape, Low, Unpaired}
use Rattle.json_text.proofs.Chars.{hex_back, quad-of}
use Rattle.json_text.proofs.Leads.{ranged}
use Rattle.lexeme.proofs.Leads.{next-by}
use Rattle.std.specs.Prelude.{Option, Some, None}

-- a fault of kind 3, if it is one, stands at the front
abbrev Lonely : List ℕ → Next → Type 0
Lonely l Quote = Unit {0}
Lonely l (Character x) = Unit {0}
Lonely l (Fault k n) = k ≡ unpaired → (n ≡ 0) × Unpaired l

other : {A : Type 0} → not_json ≡ unpaired → A
other e = absurd (omega arith)

encoded_lonely : (l : List ℕ) (v more : ℕ) → Lonely l (encoded v more)
encoded_lonely l v more = rw (encoded-char v more).is tt

-- a low surrogate escape is found after a high one
low_follows : {q p : List ℕ} (u : Low q p) → trail q ≡ Some u.value
unfolding trail low_of
low_follows u = go u.whole u.range
  where
    go : {v : ℕ} {q p : List ℕ} → Escape v q p → within 0xdc00 0xdfff v ≡ true → trail q ≡ Some v
    go (Escape.escape {a} {b} {c} {d} {q = p} h i j k) range = rw (quad-of a b c d p h i j k, range)

module _ (l : List ℕ) where
  utf2_lonely : Lonely l (utf2 l)
  unfolding utf2
  utf2_lonely = by_test (within 0x80 0xbf (byte l 1)) (λ a. rw a tt) (λ a. rw a other)

  module _ (lo hi : ℕ) where
    utf3_lonely : Lonely l (utf3 lo hi l)
    unfolding utf3
    utf3_lonely =
        by_test (within lo hi (byte l 1)) (λ a. by_test (within 0x80 0xbf (byte l 2)) (λ b. rw (a, b) tt) (λ b. rw (a, b) other)) (λ a. rw a other)

    utf4_lonely : Lonely l (utf4 lo hi l)
    unfolding utf4
    utf4_lonely =
        by_test (within lo hi (byte l 1))
        (λ a. by_test (within 0x80 0xbf (byte l 2))
        (λ b. by_test (within 0x80 0xbf (byte l 3)) (λ c. rw (a, b, c) tt) (λ c. rw (a, b, c) other)) (λ b. rw (a, b) other))
        (λ a. rw a other)

-- an escape of four digits
module _ (v : ℕ) (l q : List ℕ) (whole : Escape v l q) (rest : drop 6 l ≡ q) where
  high_lonely : within 0xd800 0xdbff v ≡ true → (t : Option ℕ) → trail q ≡ t → Lonely l (high paired v t)
  unfolding high alone
  high_lonely range (Some w) e = encoded_lonely l (combined v w) 11
  high_lonely range None e =
      λ i. (
        refl,
        Unpaired.high (record { value = v; whole = whole; range = range })
            (λ p u. let f : None ≡ Some u.value = sym e ∙ low_follows u in absurd (let z : ◌≡◌ {A = ℕ} 0 1 = cc in omega arith)),
      )

  unit_lonely : Lonely l (unit paired l v)
  unfolding unit alone
  unit_lonely =
      by_test (within 0xdc00 0xdfff v) (λ a. rw a (λ i. (refl, Unpaired.low (record { value = v; whole = whole; range = a })))) λ a.
      by_test (within 0xd800 0xdbff v) (λ b. rw (a, b) (high_lonely b (trail (drop 6 l)) (ap trail (sym rest)))) (λ b. rw (a, b) (encoded_lonely l v 5))

no_digit : hexadecimal 0 ≡ false
unfolding hexadecimal hex_value within
no_digit = refl

unicode_lonely : (m : List ℕ) → Lonely (0x5c ∷ 0x75 ∷ m) (unicode paired (0x5c ∷ 0x75 ∷ m) (quad m))
unfolding unicode quad
unicode_lonely [] = rw (no_digit, quad) other
unicode_lonely (a ∷ []) = by_test (hexadecimal a) (λ h. rw (h, no_digit, quad) other) (λ h. rw (h, quad) other)
unicode_lonely (a ∷ b ∷ []) =
    by_test (hexadecimal a) (λ h. by_test (hexadecimal b) (λ i. rw (h, i, no_digit, quad) other) (λ i. rw (h, i, quad) other)) (λ h. rw (h, quad) other)
unicode_lonely (a ∷ b ∷ c ∷ []) =
    by_test (hexadecimal a)
    (λ h. by_test (hexadecimal b)
    (λ i. by_test (hexadecimal c) (λ j. rw (h, i, j, no_digit, quad) other) (λ j. rw (h, i, j, quad) other)) (λ i. rw (h, i, quad) other))
    (λ h. rw (h, quad) other)
unicode_lonely (a ∷ b ∷ c ∷ d ∷ q) =
    by_test (hexadecimal a)
    (λ h. by_test (hexadecimal b)
    (λ i. by_test (hexadecimal c)
    (λ j. by_test (hexadecimal d)
    (λ k. rw (h, i, j, k, quad) (unit_lonely _ (0x5c ∷ 0x75 ∷ a ∷ b ∷ c ∷ d ∷ q) q (Escape.escape (hex_back a h) (hex_back b i) (hex_back c j) (hex_back d k)) refl))
    (λ k. rw (h, i, j, k, quad) other))
    (λ j. rw (h, i, j, quad) other))
    (λ i. rw (h, i, quad) other))
    (λ h. rw (h, quad) other)

escape_lonely : (m : List ℕ) → Lonely (0x5c ∷ m) (escape paired (0x5c ∷ m))
unfolding escape short
escape_lonely [] = other
escape_lonely (b ∷ q) =
    by_test (eqb b 0x75) (λ h. let e = eqb-true b 0x75 h in rw (h, escape) (rw e (unicode_lonely q)))
    (λ h. by_test (eqb (short b) 0) (λ i. rw (h, i, escape) other) (λ i. rw (h, i, escape) tt))

next_lonely : (l : List ℕ) → Lonely l (next paired l)
unfolding next_by
next_lonely [] = unfold next in other
next_lonely (b ∷ m) = subst (Lonely (b ∷ m)) (sym (next-by paired (b ∷ m))) (go (lead b) refl)
  where
    go : (t : Lead) → lead b ≡ t → Lonely (b ∷ m) (next_by paired (b ∷ m) t)
    go plain e = tt
    go quote e = tt
    go backslash e = let i : b ≡ 0x5c = ranged b e in rw i (escape_lonely m)
    go wrong e = other
    go two e = utf2_lonely (b ∷ m)
    go three_e0 e = utf3_lonely (b ∷ m) 0xa0 0xbf
    go three e = utf3_lonely (b ∷ m) 0x80 0xbf
    go three_ed e = utf3_lonely (b ∷ m) 0x80 0x9f
    go four_f0 e = utf4_lonely (b ∷ m) 0x90 0xbf
    go four e = utf4_lonely (b ∷ m) 0x80 0xbf
    go four_f4 e = utf4_lonely (b ∷ m) 0x80 0x8f

-- the fault of a string's rest, k bytes in
pub record Stuck (k : ℕ) (l r : List ℕ) : Type 0 where
  pub part : List ℕ
  pub splits : l ≡ part ++ r
  pub enough : k ≤ length part
  pub stands : Unpaired r
  pub decoded : List ℕ
  pub reads : string paired k (part ++ (0x22 ∷ [])) ≡ done decoded []

agree_part : (p q r : List ℕ) (n : ℕ) → n < length p → Agree n (p ++ q) (p ++ r)
agree_part p q r n h i g = get_or-append p q 0 i (omega arith) ∙ sym (get_or-append p r 0 i (omega arith))

pub string_stuck : (k : ℕ) (l r : List ℕ) → string paired k l ≡ bad unpaired r → Stuck k l r
string_stuck k [] r e = other (bad_kind (sym (string-empty paired k) ∙ e))
string_stuck (suc k) (b ∷ l) r e =
    let s = string_stuck k l r (sym (string-inside paired b l k) ∙ e) in
    record {
      part = b ∷ s.part;
      splits = ap (λ (m : List ℕ). b ∷ m) s.splits;
      enough = omega (arith, s.enough);
      stands = s.stands;
      decoded = s.decoded;
      reads = string-inside paired b (s.part ++ (0x22 ∷ [])) k ∙ s.reads;
    }
string_stuck zero (b ∷ l) r e = go (next paired (b ∷ l)) refl (λ k. string_stuck k l r)
  where
    go : (o : Next) → next paired (b ∷ l) ≡ o → ((k : ℕ) → string paired k l ≡ bad unpaired r → Stuck k l r) → Stuck 0 (b ∷ l) r
    go Quote h ih = done-bad (sym (string-quote paired b l h) ∙ e)
    go (Fault k n) h ih =
        let f = sym (string-fault paired b l h) ∙ e in
        let u = subst (Lonely (b ∷ l)) h (next_lonely (b ∷ l)) (bad_kind f) in
        let here : b ∷ l ≡ r = ap (λ (i : ℕ). drop i (b ∷ l)) (sym u.0) ∙ bad-rest f in
        record {
          part = [];
          splits = here;
          enough = omega arith;
          stands = subst Unpaired here u.1;
          decoded = [];
          reads = string-quote paired 0x22 [] (closes paired []);
        }
    go (Character x) h ih =
        let s = ih x.more (made-bad (λ y. bytes_of x ++ y) (string paired x.more l) unpaired r (sym (string-character paired b l h) ∙ e)) in
        let q = s.part ++ (0x22 ∷ []) in
        let n : x.more < length (b ∷ s.part) = omega (arith, s.enough) in
        let same : Agree x.more (b ∷ l) (b ∷ q) =
        subst (λ (m : List ℕ). Agree x.more (b ∷ m) (b ∷ q)) (sym s.splits) (agree_part (b ∷ s.part) r (0x22 ∷ []) x.more n) in
        record {
          part = b ∷ s.part;
          splits = ap (λ (m : List ℕ). b ∷ m) s.splits;
          enough = omega arith;
          stands = s.stands;
          decoded = bytes_of x ++ s.decoded;
          reads = string-character paired b q (character-near (b ∷ l) (b ∷ q) x (omega arith) h same) ∙ made_reads (λ y. bytes_of x ++ y) s.reads;
        }
