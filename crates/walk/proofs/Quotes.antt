-- A string that is read ends at the first quotation mark that no backslash escapes. Each character is passed byte by byte: after the two bytes that
-- begin an escape its bytes are hexadecimal digits or lie above 0x7f, so that none is a quotation mark or a backslash.
use mathlib.Core.Bool.{Bool, true, false}
use mathlib.Core.List.{List, [], ◌∷◌, ◌++◌}
use mathlib.Core.Path.{◌≡◌, refl, sym, ap, subst, ◌∙◌}
use Prim.Native.Nat.{ℕ, zero, suc, ◌+◌, ◌≤◌}
use native.Mathlib.Omega.{arith}
use lib.Dec.{eqb, ltb}
use lib.ListN.{length, drop, drop_of_length-le, length-drop}
use lib.Seq.{drop-drop}
use borrow.Author.Tests.{eqb-true, ltb-true, ltb-false}
use Rattle.notation.proofs.Booleans.{by_test, true-false}
use Rattle.notation.proofs.Lists.{at_cons}
use Rattle.lexeme.specs.declared.Next.{Next}
use Rattle.lexeme.specs.declared.Next.TheVariants.{Quote, Character, Fault}
use Rattle.lexeme.specs.Read.Read.{done}
use Rattle.lexeme.specs.Character.{paired, byte, bytes_of, within, utf2, utf3, utf4, encoded, hex_value, hexadecimal, quad, low_of, trail, combined, alone, high, unit, unicode, short, escape, next}
use Rattle.lexeme.specs.inner.Lead.{Lead, lead, next_by}
use Rattle.lexeme.specs.inner.Lead.Lead.{plain, quote, backslash, wrong, two, three_e0, three, three_ed, four_f0, four, four_f4}
use Rattle.lexeme.specs.Strings.{string}
use Rattle.lexeme.proofs.Steps.{bad-done, done-rest, made-done, string-empty, string-quote, string-fault, string-character, string-skip}
use Rattle.lexeme.proofs.Local.{choice, encoded-char, quote-byte}
use Rattle.walk.specs.inner.Skip.{quoted}
use Rattle.lexeme.proofs.Leads.{next-by}
use Rattle.std.specs.Prelude.{Result, Option, Ok, Err, Some, None}

-- a byte that a test admits is none that the test refuses
pub apart : (test : ℕ → Bool) (c : ℕ) → test c ≡ false → (b : ℕ) → test b ≡ true → eqb b c ≡ false
apart test c n b h = by_test (eqb b c) (λ e. true-false h (ap test (eqb-true b c e) ∙ n)) (λ e. e)

-- a byte that stands for itself: no quotation mark and no backslash
abbrev pub Itself : ℕ → Type 0
Itself b = (eqb b 0x22 ≡ false) × (eqb b 0x5c ≡ false)

pub itself : (test : ℕ → Bool) → test 0x22 ≡ false → test 0x5c ≡ false → (b : ℕ) → test b ≡ true → Itself b
itself test m n b h = (apart test 0x22 m b h, apart test 0x5c n b h)

-- a byte of a string, by what it is
module _ (l : List ℕ) where
  pub quoted-mark : {b : ℕ} → b ≡ 0x22 → quoted false (b ∷ l) ≡ l
  unfolding quoted
  quoted-mark e = rw e

  quoted-backslash : {b : ℕ} → b ≡ 0x5c → quoted false (b ∷ l) ≡ quoted true l
  unfolding quoted
  quoted-backslash e = rw e

  pub quoted_itself : (b : ℕ) → Itself b → quoted false (b ∷ l) ≡ quoted false l
  unfolding quoted
  quoted_itself b h = rw (quoted, h.0, h.1)

  quoted-escaped : (b : ℕ) → quoted true (b ∷ l) ≡ quoted false l
  unfolding quoted
  quoted-escaped b = refl

-- a string's rest from any place of a text on, also past its end
pub quoted-past : (e : Bool) (l : List ℕ) (i : ℕ) → length l ≤ i → quoted e (drop i l) ≡ []
unfolding quoted
quoted-past e l i h = ap (quoted e) (drop_of_length-le l h)

module _ (l : List ℕ) (i : ℕ) where
  one_on : (e f : Bool) → quoted e (byte l i ∷ drop (i + 1) l) ≡ quoted f (drop (i + 1) l) → quoted e (drop i l) ≡ quoted f (drop (i + 1) l)
  one_on e f h =
      by_test (ltb i (length l)) (λ t. ap (quoted e) (at_cons l i (ltb-true i (length l) t)) ∙ h)
      (λ t. let n : length l ≤ i = ltb-false i (length l) t in quoted-past e l i n ∙ sym (quoted-past f l (i + 1) (omega arith)))

  pub pass_itself : Itself (byte l i) → quoted false (drop i l) ≡ quoted false (drop (i + 1) l)
  pass_itself h = one_on false false (quoted_itself (drop (i + 1) l) (byte l i) h)

  pass_backslash : eqb (byte l i) 0x5c ≡ true → quoted false (drop i l) ≡ quoted true (drop (i + 1) l)
  pass_backslash h = one_on false true (quoted-backslash (drop (i + 1) l) (eqb-true (byte l i) 0x5c h))

  pass_escaped : quoted true (drop i l) ≡ quoted false (drop (i + 1) l)
  pass_escaped = one_on true false (quoted-escaped (drop (i + 1) l) (byte l i))

-- what a character's first byte tells
abbrev Tells : ℕ → Lead → Type 0
Tells b plain = Itself b
Tells b quote = Unit {0}
Tells b backslash = eqb b 0x5c ≡ true
Tells b wrong = Itself b
Tells b two = Itself b
Tells b three_e0 = Itself b
Tells b three = Itself b
Tells b three_ed = Itself b
Tells b four_f0 = Itself b
Tells b four = Itself b
Tells b four_f4 = Itself b

tells : (b : ℕ) → Tells b (lead b)
unfolding lead
tells b =
    by_test (eqb b 0x22) (λ e. rw e tt) λ e. rw e
    (by_test (eqb b 0x5c) (λ f. rw f f) λ f. rw f
    (choice (Tells b) (ltb b 0x20) (e, f)
    (choice (Tells b) (ltb b 0x80) (e, f)
    (choice (Tells b) (ltb b 0xc2) (e, f)
    (choice (Tells b) (ltb b 0xe0) (e, f)
    (choice (Tells b) (eqb b 0xe0) (e, f)
    (choice (Tells b) (eqb b 0xed) (e, f)
    (choice (Tells b) (ltb b 0xf0) (e, f)
    (choice (Tells b) (eqb b 0xf0) (e, f)
    (choice (Tells b) (ltb b 0xf4) (e, f)
    (choice (Tells b) (eqb b 0xf4) (e, f) (e, f))))))))))))

-- the first n bytes of the string that goes on with l are passed
abbrev Passed : ℕ → List ℕ → Type 0
Passed n l = quoted false l ≡ quoted false (drop n l)

abbrev CharacterPassed : List ℕ → Next → Type 0
CharacterPassed l Quote = Unit {0}
CharacterPassed l (Character x) = Passed (suc x.more) l
CharacterPassed l (Fault k n) = Unit {0}

abbrev QuadPassed : List ℕ → Result ℕ ℕ → Type 0
QuadPassed l (Ok v) = Passed 4 l
QuadPassed l (Err n) = Unit {0}

abbrev TrailPassed : List ℕ → Option ℕ → Type 0
TrailPassed l (Some w) = Passed 6 l
TrailPassed l None = Unit {0}

passed_more : (m n : ℕ) (l : List ℕ) → Passed m l → Passed n (drop m l) → Passed (m + n) l
passed_more m n l h k = h ∙ k ∙ ap (quoted false) (drop-drop n m l)

pub escape-begins : (l : List ℕ) → eqb (byte l 0) 0x5c ≡ true → Passed 2 l
escape-begins l h = pass_backslash l 0 h ∙ pass_escaped l 1

module _ (l : List ℕ) where
  encoded_passed : (v more : ℕ) → Passed (suc more) l → CharacterPassed l (encoded v more)
  encoded_passed v more h = let c = encoded-char v more in rw c.is (rw c.takes h)

  quad_passed : QuadPassed l (quad l)
  unfolding quad hexadecimal hex_value within
  quad_passed =
      by_test (hexadecimal (byte l 0)) (λ a. by_test (hexadecimal (byte l 1)) (λ b. by_test (hexadecimal (byte l 2)) (λ c. by_test (hexadecimal (byte l 3))
      (λ d. rw (a, b, c, d) (pass_itself l 0 (digit 0 a) ∙ pass_itself l 1 (digit 1 b) ∙ pass_itself l 2 (digit 2 c) ∙ pass_itself l 3 (digit 3 d)))
      (λ d. rw (a, b, c, d) tt)) (λ c. rw (a, b, c) tt)) (λ b. rw (a, b) tt)) (λ a. rw a tt)
    where
      digit : (i : ℕ) → hexadecimal (byte l i) ≡ true → Itself (byte l i)
      digit i = itself hexadecimal refl refl (byte l i)

  -- a byte that continues a character
  later : (i : ℕ) → within 0x80 0xbf (byte l i) ≡ true → Itself (byte l i)
  unfolding within
  later i = itself (within 0x80 0xbf) refl refl (byte l i)

  module _ (first : Itself (byte l 0)) where
    utf2_passed : CharacterPassed l (utf2 l)
    unfolding utf2
    utf2_passed = by_test (within 0x80 0xbf (byte l 1)) (λ a. rw a (pass_itself l 0 first ∙ pass_itself l 1 (later 1 a))) (λ a. rw a tt)

    module _ (lo hi : ℕ) (m : within lo hi 0x22 ≡ false) (n : within lo hi 0x5c ≡ false) where
      second : within lo hi (byte l 1) ≡ true → Itself (byte l 1)
      second = itself (within lo hi) m n (byte l 1)

      utf3_passed : CharacterPassed l (utf3 lo hi l)
      unfolding utf3
      utf3_passed =
          by_test (within lo hi (byte l 1)) (λ a. by_test (within 0x80 0xbf (byte l 2))
          (λ b. rw (a, b) (pass_itself l 0 first ∙ pass_itself l 1 (second a) ∙ pass_itself l 2 (later 2 b)))
          (λ b. rw (a, b) tt)) (λ a. rw a tt)

      utf4_passed : CharacterPassed l (utf4 lo hi l)
      unfolding utf4
      utf4_passed =
          by_test (within lo hi (byte l 1)) (λ a. by_test (within 0x80 0xbf (byte l 2)) (λ b. by_test (within 0x80 0xbf (byte l 3))
          (λ c. rw (a, b, c) (pass_itself l 0 first ∙ pass_itself l 1 (second a) ∙ pass_itself l 2 (later 2 b) ∙ pass_itself l 3 (later 3 c)))
          (λ c. rw (a, b, c) tt)) (λ b. rw (a, b) tt)) (λ a. rw a tt)

trail_passed : (l : List ℕ) → TrailPassed l (trail l)
unfolding trail low_of
trail_passed l =
    by_test (eqb (byte l 0) 0x5c)
    (λ a. by_test (eqb (byte l 1) 0x75) (λ b. rw (a, b) (go a (quad (drop 2 l)) (quad_passed (drop 2 l)))) (λ b. rw (a, b) tt))
    (λ a. rw a tt)
  where
    go : eqb (byte l 0) 0x5c ≡ true → (q : Result ℕ ℕ) → QuadPassed (drop 2 l) q → TrailPassed l (low_of q)
    go a (Err n) h = tt
    go a (Ok w) h = choice (TrailPassed l) (within 0xdc00 0xdfff w) (passed_more 2 4 l (escape-begins l a) h) tt

-- an escape, and any character
module _ (l : List ℕ) where
  unit_passed : Passed 6 l → (v : ℕ) → CharacterPassed l (unit paired l v)
  unfolding unit alone high
  unit_passed h v =
      by_test (within 0xdc00 0xdfff v) (λ a. rw a tt) λ a. rw a
      (by_test (within 0xd800 0xdbff v) (λ b. rw b (go (trail (drop 6 l)) (trail_passed (drop 6 l)))) λ b. rw b (encoded_passed l v 5 h))
    where
      go : (t : Option ℕ) → TrailPassed (drop 6 l) t → CharacterPassed l (high paired v t)
      go None k = tt
      go (Some w) k = encoded_passed l (combined v w) 11 (passed_more 6 6 l h k)

  escape_passed : eqb (byte l 0) 0x5c ≡ true → CharacterPassed l (escape paired l)
  unfolding escape unicode
  escape_passed h =
      by_test (eqb (byte l 1) 0x75) (λ a. rw a (go (quad (drop 2 l)) (quad_passed (drop 2 l)))) λ a. rw a
      (choice (CharacterPassed l) (eqb (short (byte l 1)) 0) tt (escape-begins l h))
    where
      go : (q : Result ℕ ℕ) → QuadPassed (drop 2 l) q → CharacterPassed l (unicode paired l q)
      go (Err n) k = tt
      go (Ok v) k = unit_passed (passed_more 2 4 l (escape-begins l h) k) v

  character_passed : CharacterPassed l (next paired l)
  unfolding next_by within
  character_passed = subst (CharacterPassed l) (sym (next-by paired l)) (go (lead (byte l 0)) (tells (byte l 0)))
    where
      go : (t : Lead) → Tells (byte l 0) t → CharacterPassed l (next_by paired l t)
      go plain h = pass_itself l 0 h
      go quote h = tt
      go backslash h = escape_passed h
      go wrong h = tt
      go two h = utf2_passed l h
      go three_e0 h = utf3_passed l h 0xa0 0xbf refl refl
      go three h = utf3_passed l h 0x80 0xbf refl refl
      go three_ed h = utf3_passed l h 0x80 0x9f refl refl
      go four_f0 h = utf4_passed l h 0x90 0xbf refl refl
      go four h = utf4_passed l h 0x80 0xbf refl refl
      go four_f4 h = utf4_passed l h 0x80 0x8f refl refl

-- a string, by the number of bytes that it has at most
string_bounded : (most : ℕ) (l y r : List ℕ) → length l ≤ most → string paired 0 l ≡ done y r → quoted false l ≡ r
string_bounded zero [] y r n e = bad-done (sym (string-empty paired 0) ∙ e)
string_bounded zero (b ∷ l) y r n e = absurd (omega arith)
string_bounded (suc most) [] y r n e = bad-done (sym (string-empty paired 0) ∙ e)
string_bounded (suc most) (b ∷ l) y r n e = go (next paired (b ∷ l)) refl (character_passed (b ∷ l)) (λ m. string_bounded most m)
  where
    go : (o : Next) → next paired (b ∷ l) ≡ o → CharacterPassed (b ∷ l) o
        → ((m z q : List ℕ) → length m ≤ most → string paired 0 m ≡ done z q → quoted false m ≡ q) → quoted false (b ∷ l) ≡ r
    go Quote h k ih = quoted-mark l (quote-byte paired b l h) ∙ done-rest (sym (string-quote paired b l h) ∙ e)
    go (Fault k n) h i ih = bad-done (sym (string-fault paired b l h) ∙ e)
    go (Character x) h k ih =
        let p = made-done (λ z. bytes_of x ++ z) (string paired x.more l) y r (sym (string-character paired b l h) ∙ e) in
        k ∙ ih (drop x.more l) p.0 r (omega (arith, length-drop x.more l)) (sym (string-skip paired x.more l) ∙ p.1)

pub string-quoted : (l y r : List ℕ) → string paired 0 l ≡ done y r → quoted false l ≡ r
string-quoted l y r e = string_bounded (length l) l y r (omega arith) e
