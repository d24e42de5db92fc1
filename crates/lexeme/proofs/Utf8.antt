-- UTF-8 over all scalar values: the two directions, and escapes, whose digits make a value below 65,536 or the two halves of one past it.
use mathlib.Core.Bool.{true, false}
use mathlib.Core.List.{List, ◌++◌}
use mathlib.Core.Path.{◌≡◌, refl, sym, ap, subst, ◌∙◌}
use Prim.Native.Nat.{ℕ, ◌+◌, ◌-◌, ◌*◌, ◌/◌, ◌%◌, ◌≤◌, ◌<◌}
use native.Mathlib.Omega.{arith}
use lib.ListN.{length, drop}
use lib.Dec.{eqb, ltb}
use borrow.Author.Tests.{eqb-true, eqb-false, ltb-true, ltb-false}
use Rattle.notation.proofs.Booleans.{by_test, true-false}
use Rattle.lexeme.specs.declared.Char.{Char}
use Rattle.lexeme.specs.declared.Next.{Next}
use Rattle.lexeme.specs.declared.Next.TheVariants.{Quote, Character, Fault}
use Rattle.lexeme.specs.Character.{Surrogates, paired, byte, within, char1, bytes_of, encoded, hex_value, hexadecimal, quad, low_of, trail, combined, alone, high, unit, unicode, short, escape, next}
use Rattle.lexeme.specs.Utf8.{Scalar, Unescaped, bytes_in, utf8, code_point, Escape, Agreement}
use Rattle.lexeme.proofs.Local.{encoded-char, choice}
use Rattle.lexeme.proofs.StrongPrefixes.{closes}
use Rattle.lexeme.proofs.Utf8Reads.{between, bounds, below, above, reads, single, control, escapes}
use Rattle.lexeme.proofs.Utf8Values.{decodes, unique, encoded1, unescaped}
use Rattle.std.specs.Prelude.{Result, Option, Ok, Err, Some, None}

-- four digits make a value of four digits
abbrev Small : Result ℕ ℕ → Type 0
Small (Ok v) = v < 0x10000
Small (Err n) = Unit {0}

digit-small : (b : ℕ) → hexadecimal b ≡ true → hex_value b < 16
unfolding hexadecimal
digit-small b e = ltb-true (hex_value b) 16 e

quad-small : (l : List ℕ) → Small (quad l)
unfolding quad
quad-small l =
    by_test (hexadecimal (byte l 0)) (λ a. rw a
    (by_test (hexadecimal (byte l 1)) (λ b. rw b
    (by_test (hexadecimal (byte l 2)) (λ c. rw c
    (by_test (hexadecimal (byte l 3)) (λ d. rw d
    (let i = digit-small (byte l 0) a in let j = digit-small (byte l 1) b in
    let k = digit-small (byte l 2) c in let m = digit-small (byte l 3) d in omega arith))
    (λ d. rw d tt))) (λ c. rw c tt))) (λ b. rw b tt))) (λ a. rw a tt)

-- a range in another that a number is not in
narrower : (lo hi lo' hi' b : ℕ) → lo ≤ lo' → hi' ≤ hi → within lo hi b ≡ false → within lo' hi' b ≡ false
narrower lo hi lo' hi' b h k n =
    by_test (within lo' hi' b) (λ e. let p = bounds lo' hi' b e in true-false (between lo hi b (omega arith) (omega arith)) n) (λ e. e)

module _ (ρ : Surrogates) (v : ℕ) (l : List ℕ) (e : Escape v l) where
  escape-unit : next ρ l ≡ unit ρ l v
  unfolding next escape unicode
  escape-unit = rw (e.backslash, e.letter, e.digits)

  value-small : v < 0x10000
  value-small = rw e.digits at (quad-small (drop 2 l))

  escaped : within 0xd800 0xdfff v ≡ false → Scalar v × (next ρ l ≡ encoded v 5)
  unfolding unit
  escaped n =
      let s = value-small in (
        record { most = omega arith; no_surrogate = n },
        escape-unit ∙ rw (narrower 0xd800 0xdfff 0xdc00 0xdfff v (omega arith) (omega arith) n, narrower 0xd800 0xdfff 0xd800 0xdbff v (omega arith) (omega arith) n),
      )

low-trail : (w : ℕ) (l : List ℕ) → Escape w l → within 0xdc00 0xdfff w ≡ true → trail l ≡ Some w
unfolding trail low_of
low-trail w l e i = rw (e.backslash, e.letter, e.digits, i)

combined-scalar : (v w : ℕ) → Scalar (combined v w)
unfolding combined
combined-scalar v w = record { most = omega arith; no_surrogate = above 0xd800 0xdfff (0x10000 + v % 1024 * 1024 + w % 1024) (omega arith) }

pair : (ρ : Surrogates) (v w : ℕ) (l : List ℕ) → Escape v l → within 0xd800 0xdbff v ≡ true → Escape w (drop 6 l) → within 0xdc00 0xdfff w ≡ true
    → Scalar (combined v w) × (next ρ l ≡ encoded (combined v w) 11)
unfolding unit high
pair ρ v w l e i f j =
    let p = bounds 0xd800 0xdbff v i in
    (combined-scalar v w, escape-unit ρ v l e ∙ rw (below 0xdc00 0xdfff v (omega arith), i, low-trail w (drop 6 l) f j))

halves : (v : ℕ) → 0x10000 ≤ v → v ≤ 0x10ffff
    → (within 0xd800 0xdbff (0xd7c0 + v / 1024) ≡ true) × (within 0xdc00 0xdfff (0xdc00 + v % 1024) ≡ true) × (combined (0xd7c0 + v / 1024) (0xdc00 + v % 1024) ≡ v)
unfolding combined
halves v h k = (
  between 0xd800 0xdbff (0xd7c0 + v / 1024) (omega arith) (omega arith),
  between 0xdc00 0xdfff (0xdc00 + v % 1024) (omega arith) (omega arith),
  omega arith,
)

encodes : (v more : ℕ) → bytes_in (encoded v more) ≡ utf8 v
unfolding utf8 bytes_in encoded
encodes v more =
    by_test (ltb v 0x80) (λ a. rw a refl) λ a.
    by_test (ltb v 0x800) (λ b. rw (a, b) refl) λ b.
    by_test (ltb v 0x10000) (λ c. rw (a, b, c) refl) λ c. rw (a, b, c) refl

alike : (ρ : Surrogates) (v more : ℕ) (l r : List ℕ) → Unescaped v → next ρ l ≡ encoded v more → bytes_in (next ρ l) ≡ bytes_in (next ρ (utf8 v ++ r))
alike ρ v more l r u e = ap bytes_in e ∙ encodes v more ∙ sym (encodes v (length (utf8 v) - 1)) ∙ sym (ap bytes_in (reads ρ v u r))

-- every character by stage A's rule
abbrev Coded : Next → Type 0
Coded Quote = Unit {0}
Coded (Character x) = Scalar (code_point (bytes_of x)) × (utf8 (code_point (bytes_of x)) ≡ bytes_of x)
Coded (Fault k n) = Unit {0}

-- it is the encoding of v
coded : (v more : ℕ) (x : Char) → Scalar v → Character x ≡ encoded v more → Coded (Character x)
unfolding bytes_in
coded v more x s e =
    let b : bytes_of x ≡ utf8 v = ap bytes_in e ∙ encodes v more in
    let d : code_point (bytes_of x) ≡ v = ap code_point b ∙ decodes v s in
    (subst Scalar (sym d) s, ap utf8 d ∙ sym b)

encoded-coded : (v more : ℕ) → Scalar v → Coded (encoded v more)
encoded-coded v more s = let c = encoded-char v more in rw c.is (coded v more c.char s (sym c.is))

short-small : (b : ℕ) → short b < 0x80
unfolding short
short-small b =
    choice (λ n. n < 0x80) (eqb b 0x22) (omega arith)
    (choice (λ n. n < 0x80) (eqb b 0x5c) (omega arith)
    (choice (λ n. n < 0x80) (eqb b 0x2f) (omega arith)
    (choice (λ n. n < 0x80) (eqb b 0x62) (omega arith)
    (choice (λ n. n < 0x80) (eqb b 0x66) (omega arith)
    (choice (λ n. n < 0x80) (eqb b 0x6e) (omega arith)
    (choice (λ n. n < 0x80) (eqb b 0x72) (omega arith)
    (choice (λ n. n < 0x80) (eqb b 0x74) (omega arith) (omega arith))))))))

short-coded : (v more : ℕ) → v < 0x80 → Coded (char1 v more)
short-coded v more h =
    subst Coded (encoded1 v more h) (encoded-coded v more (record { most = omega arith; no_surrogate = below 0xd800 0xdfff v (omega arith) }))

pair-coded : (v : ℕ) (t : Option ℕ) → Coded (high paired v t)
unfolding high alone
pair-coded v None = tt
pair-coded v (Some w) = encoded-coded (combined v w) 11 (combined-scalar v w)

neither : (v : ℕ) → within 0xdc00 0xdfff v ≡ false → within 0xd800 0xdbff v ≡ false → within 0xd800 0xdfff v ≡ false
neither v a b =
    by_test (within 0xd800 0xdfff v)
    (λ e. let p = bounds 0xd800 0xdfff v e in
    by_test (ltb v 0xdc00)
    (λ h. let q = ltb-true v 0xdc00 h in true-false (between 0xd800 0xdbff v p.0 (omega arith)) b)
    (λ h. true-false (between 0xdc00 0xdfff v (ltb-false v 0xdc00 h) p.1) a))
    (λ e. e)

unicode-coded : (l : List ℕ) (d : Result ℕ ℕ) → Small d → Coded (unicode paired l d)
unfolding unicode unit alone
unicode-coded l (Err n) s = tt
unicode-coded l (Ok v) s =
    by_test (within 0xdc00 0xdfff v) (λ a. rw a tt) λ a.
    by_test (within 0xd800 0xdbff v) (λ b. rw (a, b) (pair-coded v (trail (drop 6 l)))) λ b.
    rw (a, b) (encoded-coded v 5 (record { most = omega arith; no_surrogate = neither v a b }))

escape-coded : (l : List ℕ) → Coded (escape paired l)
unfolding escape
escape-coded l =
    by_test (eqb (byte l 1) 0x75) (λ a. rw a (unicode-coded l (quad (drop 2 l)) (quad-small (drop 2 l)))) λ a.
    by_test (eqb (short (byte l 1)) 0) (λ b. rw (a, b) tt) λ b. rw (a, b) (short-coded (short (byte l 1)) 1 (short-small (byte l 1)))

spelled : (l : List ℕ) (x : Char) → next paired l ≡ Character x → Coded (Character x)
unfolding next
spelled l x e =
    by_test (eqb (byte l 0) 0x5c)
    (λ a. let i : next paired l ≡ escape paired l = rw (eqb-true (byte l 0) 0x5c a) in subst Coded (sym i ∙ e) (escape-coded l))
    (λ a. let s = unescaped paired l x (eqb-false (byte l 0) 0x5c a) e in coded (code_point (bytes_of x)) _ x s.unescaped.scalar s.encoding)

pub agreement : Agreement
agreement =
    record {
      decodes = decodes;
      unique = unique;
      reads = reads;
      single = single;
      control = control;
      quote = closes;
      backslash = escapes;
      unescaped = unescaped;
      encodes = encodes;
      escaped = escaped;
      pair = pair;
      alike = alike;
      spelled = spelled;
      halves = halves;
    }
