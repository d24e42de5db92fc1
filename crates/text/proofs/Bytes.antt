-- A text has bytes only, whatever its spelling is: a first byte past 255 begins no character, the bytes of UTF-8 that follow one are within their ranges, and
-- those of an escape are computed within theirs.
use mathlib.Core.List.{List, [], ◌∷◌, ◌++◌}
use mathlib.Core.Path.{◌≡◌, refl, sym, subst}
use Prim.Native.Nat.{ℕ, zero, suc, ◌≤◌, ◌<◌}
use native.Mathlib.Omega.{arith}
use lib.Dec.{eqb, leb, ltb}
use lib.ListN.{take, drop}
use borrow.Author.Tests.{ne_eqb, le-ltb, ltb-true, leb-true, leb-false}
use Rattle.notation.proofs.Booleans.{by_test}
use Rattle.lexeme.specs.declared.Char.{Char}
use Rattle.lexeme.specs.declared.Next.{Next}
use Rattle.lexeme.specs.declared.Next.TheVariants.{Quote, Character, Fault}
use Rattle.lexeme.specs.Character.{byte, bytes_of, within, utf2, utf3, utf4, encoded, quad, trail, combined, alone, high, unit, unicode, short, escape, next}
use Rattle.lexeme.specs.Character.Surrogates.{paired}
use Rattle.lexeme.specs.inner.Lead.{Lead, lead, next_by}
use Rattle.lexeme.specs.inner.Lead.Lead.{plain, quote, backslash, wrong, two, three_e0, three, three_ed, four_f0, four, four_f4}
use Rattle.lexeme.specs.Strings.{decoded}
use Rattle.lexeme.proofs.Leads.{next-by, next_led}
use Rattle.lexeme.proofs.Steps.{decoded-character}
use Rattle.text.specs.Text.{text_of}
use Rattle.text.specs.inner.Key.{Bytes}
use Rattle.text.proofs.Decoding.{text-quote, text-fault}
use Rattle.text.proofs.Steps.{within-most}
use Rattle.std.specs.Prelude.{Result, Option, Ok, Err, Some, None}

-- lists of bytes
pub bytes-none : Bytes []
bytes-none i = omega arith

bytes-more : (b : ℕ) (l : List ℕ) → b < 256 → Bytes l → Bytes (b ∷ l)
bytes-more b l g h zero = g
bytes-more b l g h (suc i) = h i

bytes_append : (x y : List ℕ) → Bytes x → Bytes y → Bytes (x ++ y)
bytes_append [] y g h = h
bytes_append (b ∷ x) y g h = bytes-more b (x ++ y) (g 0) (bytes_append x y (λ i. g (suc i)) h)

bytes_take : (n : ℕ) (x : List ℕ) → Bytes x → Bytes (take n x)
bytes_take zero x h = bytes-none
bytes_take (suc n) [] h = bytes-none
bytes_take (suc n) (b ∷ x) h = bytes-more b (take n x) (h 0) (bytes_take n x (λ i. h (suc i)))

pub bytes_drop : (n : ℕ) (x : List ℕ) → Bytes x → Bytes (drop n x)
bytes_drop zero x h = h
bytes_drop (suc n) [] h = bytes-none
bytes_drop (suc n) (b ∷ x) h = bytes_drop n x (λ i. h (suc i))

-- characters
abbrev Small : Next → Type 0
Small Quote = Unit {0}
Small (Fault k n) = Unit {0}
Small (Character x) = (x.b0 < 256) × (x.b1 < 256) × (x.b2 < 256) × (x.b3 < 256)

char-bytes : (x : Char) → Small (Character x) → Bytes (bytes_of x)
char-bytes x h =
    bytes_take x.len (x.b0 ∷ x.b1 ∷ x.b2 ∷ x.b3 ∷ [])
    (bytes-more x.b0 (x.b1 ∷ x.b2 ∷ x.b3 ∷ []) h.0 (bytes-more x.b1 (x.b2 ∷ x.b3 ∷ []) h.1 (bytes-more x.b2 (x.b3 ∷ []) h.2 (bytes-more x.b3 [] h.3 bytes-none))))

-- the code point of an escape
encoded-small : (v more : ℕ) → Small (encoded v more)
unfolding encoded
encoded-small v more =
    by_test (ltb v 0x80) (λ a. let h : v < 0x80 = ltb-true v 0x80 a in rw (a, encoded) (omega arith, omega arith, omega arith, omega arith)) λ a.
    by_test (ltb v 0x800) (λ b. let h : v < 0x800 = ltb-true v 0x800 b in rw (a, b, encoded) (omega arith, omega arith, omega arith, omega arith)) λ b.
    by_test (ltb v 0x10000) (λ c. let h : v < 0x10000 = ltb-true v 0x10000 c in rw (a, b, c, encoded) (omega arith, omega arith, omega arith, omega arith)) λ c.
    rw (a, b, c, encoded) (omega arith, omega arith, omega arith, omega arith)

high_small : (v : ℕ) (t : Option ℕ) → Small (high paired v t)
unfolding high alone
high_small v None = tt
high_small v (Some w) = encoded-small (combined v w) 11

short-small : (b : ℕ) → short b < 256
unfolding short
short-small b =
    by_test (eqb b 0x22) (λ e. rw (e, short) (omega arith)) λ e.
    by_test (eqb b 0x5c) (λ f. rw (e, f, short) (omega arith)) λ f.
    by_test (eqb b 0x2f) (λ g. rw (e, f, g, short) (omega arith)) λ g.
    by_test (eqb b 0x62) (λ h. rw (e, f, g, h, short) (omega arith)) λ h.
    by_test (eqb b 0x66) (λ i. rw (e, f, g, h, i, short) (omega arith)) λ i.
    by_test (eqb b 0x6e) (λ j. rw (e, f, g, h, i, j, short) (omega arith)) λ j.
    by_test (eqb b 0x72) (λ k. rw (e, f, g, h, i, j, k, short) (omega arith)) λ k.
    by_test (eqb b 0x74) (λ l. rw (e, f, g, h, i, j, k, l, short) (omega arith)) λ l. rw (e, f, g, h, i, j, k, l, short) (omega arith)

module _ (l : List ℕ) where
  unit-small : (v : ℕ) → Small (unit paired l v)
  unfolding unit alone
  unit-small v =
      by_test (within 0xdc00 0xdfff v) (λ a. rw (a, unit) tt) λ a.
      by_test (within 0xd800 0xdbff v) (λ b. rw (a, b, unit) (high_small v (trail (drop 6 l)))) λ b. rw (a, b, unit) (encoded-small v 5)

  unicode-small : (q : Result ℕ ℕ) → Small (unicode paired l q)
  unfolding unicode
  unicode-small (Err n) = tt
  unicode-small (Ok v) = unit-small v

  escape-small : Small (escape paired l)
  unfolding escape
  escape-small =
      by_test (eqb (byte l 1) 0x75) (λ a. rw (a, escape) (unicode-small (quad (drop 2 l)))) λ a.
      by_test (eqb (short (byte l 1)) 0) (λ b. rw (a, b, escape) tt) λ b. rw (a, b, escape) (short-small (byte l 1), omega arith, omega arith, omega arith)

  -- UTF-8 after a first byte
  module _ (first : byte l 0 < 256) where
    utf2-small : Small (utf2 l)
    unfolding utf2
    utf2-small =
        by_test (within 0x80 0xbf (byte l 1))
        (λ a. let m : byte l 1 ≤ 0xbf = within-most 0x80 0xbf (byte l 1) a in rw (a, utf2) (first, omega arith, omega arith, omega arith)) λ a. rw (a, utf2) tt

    module _ (lo hi : ℕ) (most : hi ≤ 0xbf) where
      utf3-small : Small (utf3 lo hi l)
      unfolding utf3
      utf3-small =
          by_test (within lo hi (byte l 1)) (λ a.
          by_test (within 0x80 0xbf (byte l 2)) (λ b.
          let m : byte l 1 ≤ hi = within-most lo hi (byte l 1) a in
          let n : byte l 2 ≤ 0xbf = within-most 0x80 0xbf (byte l 2) b in
          rw (a, b, utf3) (first, omega arith, omega arith, omega arith)) λ b. rw (a, b, utf3) tt)
          λ a. rw (a, utf3) tt

      utf4-small : Small (utf4 lo hi l)
      unfolding utf4
      utf4-small =
          by_test (within lo hi (byte l 1)) (λ a.
          by_test (within 0x80 0xbf (byte l 2)) (λ b.
          by_test (within 0x80 0xbf (byte l 3)) (λ c.
          let m : byte l 1 ≤ hi = within-most lo hi (byte l 1) a in
          let n : byte l 2 ≤ 0xbf = within-most 0x80 0xbf (byte l 2) b in
          let o : byte l 3 ≤ 0xbf = within-most 0x80 0xbf (byte l 3) c in
          rw (a, b, c, utf4) (first, omega arith, omega arith, omega arith)) λ c. rw (a, b, c, utf4) tt)
          λ b. rw (a, b, utf4) tt)
          λ a. rw (a, utf4) tt

    by-small : (t : Lead) → Small (next_by paired l t)
    unfolding next_by
    by-small plain = (first, omega arith, omega arith, omega arith)
    by-small quote = tt
    by-small backslash = escape-small
    by-small wrong = tt
    by-small two = utf2-small
    by-small three_e0 = utf3-small 0xa0 0xbf (omega arith)
    by-small three = utf3-small 0x80 0xbf (omega arith)
    by-small three_ed = utf3-small 0x80 0x9f (omega arith)
    by-small four_f0 = utf4-small 0x90 0xbf (omega arith)
    by-small four = utf4-small 0x80 0xbf (omega arith)
    by-small four_f4 = utf4-small 0x80 0x8f (omega arith)

-- a first byte past 255
lead_large : (b : ℕ) → 256 ≤ b → lead b ≡ wrong
unfolding lead
lead_large b h =
    rw (
      lead,
      ne_eqb b 0x22 (λ (e : b ≡ 0x22). omega arith),
      ne_eqb b 0x5c (λ (e : b ≡ 0x5c). omega arith),
      le-ltb b 0x20 (omega arith),
      le-ltb b 0x80 (omega arith),
      le-ltb b 0xc2 (omega arith),
      le-ltb b 0xe0 (omega arith),
      ne_eqb b 0xe0 (λ (e : b ≡ 0xe0). omega arith),
      ne_eqb b 0xed (λ (e : b ≡ 0xed). omega arith),
      le-ltb b 0xf0 (omega arith),
      ne_eqb b 0xf0 (λ (e : b ≡ 0xf0). omega arith),
      le-ltb b 0xf4 (omega arith),
      ne_eqb b 0xf4 (λ (e : b ≡ 0xf4). omega arith),
    )

next_small : (l : List ℕ) → Small (next paired l)
unfolding next_by
next_small l =
    by_test (leb 256 (byte l 0)) (λ t. subst Small (sym (next_led paired l (lead_large (byte l 0) (leb-true 256 (byte l 0) t)))) tt) λ t.
    subst Small (sym (next-by paired l)) (by-small l (leb-false 256 (byte l 0) t) (lead (byte l 0)))

-- by what stands at the front, where the rest is known to be so
module _ (b : ℕ) (r : List ℕ) (rest : (k : ℕ) → Bytes (decoded paired k r)) where
  front_bytes : (o : Next) → next paired (b ∷ r) ≡ o → Bytes (text_of (b ∷ r))
  front_bytes Quote e = subst Bytes (sym (text-quote (b ∷ r) e)) bytes-none
  front_bytes (Fault k n) e = subst Bytes (sym (text-fault (b ∷ r) k n e)) bytes-none
  front_bytes (Character x) e =
      subst Bytes (sym (decoded-character paired b r e)) (bytes_append (bytes_of x) (decoded paired x.more r) (char-bytes x (subst Small e (next_small (b ∷ r)))) (rest x.more))

-- k bytes into a character
decoded-bytes : (k : ℕ) (l : List ℕ) → Bytes (decoded paired k l)
unfolding decoded
decoded-bytes k [] = bytes-none
decoded-bytes (suc k) (b ∷ r) = decoded-bytes k r
decoded-bytes zero (b ∷ r) = front_bytes b r (λ k. decoded-bytes k r) (next paired (b ∷ r)) refl

pub text-bytes : (spelled : List ℕ) → Bytes (text_of spelled)
text-bytes spelled = decoded-bytes 0 spelled
