-- The fewest decimal digits that hold a number are its numeral.
use mathlib.Core.List.{List, [], ◌∷◌, ◌++◌}
use mathlib.Core.Path.{◌≡◌, sym, ap, subst, ◌∙◌}
use Prim.Native.Nat.{ℕ, zero, suc, ◌-◌, ◌/◌, ◌%◌, ◌^◌, ◌≤◌, ◌<◌}
use native.Mathlib.Nat.{pow-suc, one-le-pow}
use native.Mathlib.Omega.{arith}
use borrow.Author.Tests.{lt-ltb, le-ltb}
use Rattle.io.specs.Digits.{last_digits, hex_digit_ascii, IsDigitCount}
use Rattle.folder.specs.Line.{digit, numeral_within, numeral}

glyph_digit : (n : ℕ) → n < 10 → hex_digit_ascii n ≡ digit n
glyph_digit n h = rw (lt-ltb n 10 h)

-- a number's last digit, below ten too
ones : (n : ℕ) → n < 10 → hex_digit_ascii (n % 10) ≡ digit n
ones n h = let e : n % 10 ≡ n = omega arith in rw e (glyph_digit n h)

-- the two ways through a numeral
within-one : (bound n : ℕ) → n < 10 → numeral_within (suc bound) n ≡ digit n ∷ []
unfolding numeral_within
within-one bound n h = rw (lt-ltb n 10 h, numeral_within)

within_more : (bound n : ℕ) → 10 ≤ n → numeral_within (suc bound) n ≡ numeral_within bound (n / 10) ++ digit (n % 10) ∷ []
unfolding numeral_within
within_more bound n h = rw (le-ltb n 10 h, numeral_within)

spelt : (k bound n : ℕ) → n < 10 ^ suc k → (0 < k → 10 ^ k ≤ n) → n ≤ bound → last_digits 10 (suc k) n ≡ numeral_within bound n
unfolding numeral_within
spelt zero zero n h g b = ap (λ (d : ℕ). d ∷ []) (ones n (omega arith))
spelt zero (suc bound) n h g b = let l : n < 10 = omega arith in ap (λ (d : ℕ). d ∷ []) (ones n l) ∙ sym (within-one bound n l)
spelt (suc k) zero n h g b =
    let p = one-le-pow (suc k) 10 (omega arith) in let q = g (omega arith) in absurd (omega arith)
spelt (suc k) (suc bound) n h g b =
    let p = one-le-pow k 10 (omega arith) in
    let q = g (omega arith) in
    let r = pow-suc 10 k in
    let s = pow-suc 10 (suc k) in
    let d : n % 10 < 10 = omega arith in
    let u : n / 10 < 10 ^ suc k = omega arith in
    let v : 10 ^ k ≤ n / 10 = omega arith in
    let w : 10 ≤ n = omega arith in
    ap (λ (l : List ℕ). l ++ hex_digit_ascii (n % 10) ∷ []) (spelt k bound (n / 10) u (λ z. v) (omega arith))
    ∙ ap (λ (x : ℕ). numeral_within bound (n / 10) ++ x ∷ []) (glyph_digit (n % 10) d)
    ∙ sym (within_more bound n w)

pub numeral_fewest : (n k : ℕ) → IsDigitCount 10 1 n k → last_digits 10 k n ≡ numeral n
numeral_fewest n zero f = absurd (omega (arith, f.0))
numeral_fewest n (suc k) f =
    let e : suc k - 1 ≡ k = omega arith in spelt k n n f.1 (λ z. subst (λ (m : ℕ). 10 ^ m ≤ n) e (f.2 (omega arith))) (omega arith)
