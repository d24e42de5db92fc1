-- The ways through the definitions of hexadecimal digits, one equation for each, and how few digits can stand before a fault.
use mathlib.Core.Bool.{Bool, true}
use mathlib.Core.List.{List}
use mathlib.Core.Path.{◌≡◌, sym, ◌∙◌, subst}
use Prim.Native.Nat.{ℕ, ◌≤◌, ◌<◌, ◌+◌, ◌-◌, ◌*◌}
use native.Mathlib.Omega.{arith}
use borrow.Author.Tests.{lt-ltb, ltb-true}
use Rattle.notation.proofs.Booleans.{by_test}
use Rattle.lexeme.specs.Character.{byte, within, hex_value, hexadecimal, quad}
use Rattle.std.specs.Prelude.{Result, Ok, Err, Some, None, ltb}
use Rattle.character.specs.inner.Digit.{digit}

pub hex_digit : (b : ℕ) {t : Bool} → t ≡ within 0x30 0x39 b → t ≡ true → b - 0x30 ≡ hex_value b
unfolding hex_value
hex_digit b e h = rw (sym e ∙ h, hex_value)

-- four digits by their values
module _ (l : List ℕ) {v : ℕ} (d : v ≡ hex_value (byte l 0)) (p : v < 16) {w : ℕ} (e : w ≡ hex_value (byte l 1)) (q : w < 16)
    {x : ℕ} (f : x ≡ hex_value (byte l 2)) (r : x < 16) {y : ℕ} (g : y ≡ hex_value (byte l 3)) where
  yes : (b : ℕ) {n : ℕ} → n ≡ hex_value b → n < 16 → hexadecimal b ≡ true
  unfolding hexadecimal
  yes b i h = lt-ltb (hex_value b) 16 (omega arith)

  pub quad-whole : y < 16 → Ok (v * 4096 + w * 256 + x * 16 + y) ≡ quad l
  unfolding quad
  quad-whole h = rw (yes (byte l 0) d p, yes (byte l 1) e q, yes (byte l 2) f r, yes (byte l 3) g h, d, e, f, g, quad)

pub digit_is : (b : ℕ) {d : ℕ} → Some d ≡ digit b → (d ≡ hex_value b) × (d < 16)
unfolding hexadecimal
digit_is b {d} e =
    by_test (ltb (hex_value b) 16) (λ h.
    let w : Some d ≡ Some (hex_value b) = rw h at e in
    let i : d ≡ hex_value b = cc in (i, omega (arith, ltb-true (hex_value b) 16 h))) (λ h.
    let w : Some d ≡ None = rw h at e in absurd cc)

-- fewer than four digits, or a number of four
abbrev Few : Result ℕ ℕ → Type 0
Few (Err n) = n ≤ 3
Few (Ok v) = v < 0x10000

digit-small : (b : ℕ) → hexadecimal b ≡ true → hex_value b < 16
unfolding hexadecimal
digit-small b h = ltb-true (hex_value b) 16 h

few : (l : List ℕ) → Few (quad l)
unfolding quad
few l =
    by_test (hexadecimal (byte l 0)) (λ a.
    by_test (hexadecimal (byte l 1)) (λ b.
    by_test (hexadecimal (byte l 2)) (λ c.
    by_test (hexadecimal (byte l 3)) (λ d. rw (a, b, c, d, quad) (omega (arith, digit-small _ a, digit-small _ b, digit-small _ c, digit-small _ d)))
    λ d. rw (a, b, c, d, quad) (omega arith))
    λ c. rw (a, b, c, quad) (omega arith))
    λ b. rw (a, b, quad) (omega arith))
    λ a. rw (a, quad) (omega arith)

pub quad_fits : (l : List ℕ) {q : Result ℕ ℕ} {v : ℕ} → q ≡ quad l → q ≡ Ok v → v < 0x10000
quad_fits l e f = subst Few (sym e ∙ f) (few l)

pub quad_few : (l : List ℕ) {q : Result ℕ ℕ} {n : ℕ} → q ≡ quad l → q ≡ Err n → n ≤ 3
quad_few l e f = subst Few (sym e ∙ f) (few l)
