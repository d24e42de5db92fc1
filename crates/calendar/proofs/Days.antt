-- The days before a year, without a walk over the years. The multiples of 4 below a year, of 100 and of 400, are one more for the next year where this one
-- is a multiple; and the same three tests say how many days it has. So both sides of the law grow alike from year to year. Each of the three numbers has its
-- own law, as `omega` does not take them at once.
use mathlib.Core.Bool.{Bool}
use mathlib.Core.Path.{◌≡◌, refl, sym, ap, ◌∙◌}
use Prim.Native.Nat.{ℕ, zero, suc, ◌+◌, ◌*◌, ◌%◌, ◌-◌, ◌/◌, ◌≤◌}
use native.Mathlib.Omega.{arith}
use lib.Dec.{eqb}
use borrow.Author.Tests.{eqb-true, eqb-false, eq-eqb}
use Rattle.notation.specs.Choice.{◌⇒◌else◌}
use Rattle.notation.proofs.Booleans.{by_test}
use Rattle.calendar.specs.Calendar.{leap, year_days, days_before}
use Rattle.calendar.specs.Counted.{Counted}

abbrev count : ℕ → ℕ
count y = 365 * y + (y + 3) / 4 + (y + 399) / 400 - (y + 99) / 100

-- one where a test holds
abbrev one : Bool → ℕ
one t = t ⇒ 1 else 0

-- how many multiples are below the next year
more_4 : (y : ℕ) → (suc y + 3) / 4 ≡ (y + 3) / 4 + one (eqb (y % 4) 0)
more_4 y =
    by_test (eqb (y % 4) 0) (λ t. let h = eqb-true (y % 4) 0 t in rw t (omega arith)) λ t. let h = eqb-false (y % 4) 0 t in rw t (omega arith)

more_100 : (y : ℕ) → (suc y + 99) / 100 ≡ (y + 99) / 100 + one (eqb (y % 100) 0)
more_100 y =
    by_test (eqb (y % 100) 0) (λ t. let h = eqb-true (y % 100) 0 t in rw t (omega arith)) λ t. let h = eqb-false (y % 100) 0 t in rw t (omega arith)

more_400 : (y : ℕ) → (suc y + 399) / 400 ≡ (y + 399) / 400 + one (eqb (y % 400) 0)
more_400 y =
    by_test (eqb (y % 400) 0) (λ t. let h = eqb-true (y % 400) 0 t in rw t (omega arith)) λ t. let h = eqb-false (y % 400) 0 t in rw t (omega arith)

-- a multiple of 400 is one of 100, and that one of 4
hundreds : (y : ℕ) → y % 400 ≡ 0 → y % 100 ≡ 0
hundreds y h = omega arith

fours : (y : ℕ) → y % 100 ≡ 0 → y % 4 ≡ 0
fours y h = omega arith

-- the days of a year by the three tests
year-is : (y : ℕ) → year_days y + one (eqb (y % 100) 0) ≡ 365 + one (eqb (y % 4) 0) + one (eqb (y % 400) 0)
unfolding leap
year-is y =
    by_test (eqb (y % 100) 0)
    (λ t. let e = eq-eqb (y % 4) 0 (fours y (eqb-true (y % 100) 0 t)) in by_test (eqb (y % 400) 0) (λ u. rw (t, e, u)) λ u. rw (t, e, u))
    λ t. by_test (eqb (y % 400) 0) (λ u. absurd (eqb-false (y % 100) 0 t (hundreds y (eqb-true (y % 400) 0 u))))
    λ u. by_test (eqb (y % 4) 0) (λ v. rw (t, u, v)) λ v. rw (t, u, v)

-- multiples of 100 are fewer than what they are taken off
fewer : (y : ℕ) → (y + 99) / 100 ≤ 365 * y + (y + 3) / 4 + (y + 399) / 400
fewer y = let h : (y + 99) / 100 ≤ y = omega arith in omega arith

-- a year's step, with any numbers for the quotients
joined : (y a b c a' b' c' d : ℕ) → c ≤ 365 * y + a + b → d + c' + a + b ≡ 365 + a' + b' + c → 365 * suc y + a' + b' - c' ≡ 365 * y + a + b - c + d
joined y a b c a' b' c' d h e = omega arith

next-year : (y : ℕ) → count (suc y) ≡ count y + year_days y
next-year y =
    joined y _ _ _ _ _ _ (year_days y) (fewer y) (rw (more_4 y, more_100 y, more_400 y) (omega (arith, year-is y)))

pub days_closed : (y : ℕ) → days_before y ≡ count y
unfolding days_before
days_closed zero = refl
days_closed (suc y) = ap (λ n. n + year_days y) (days_closed y) ∙ sym (next-year y)

-- 400 years on
module _ (y : ℕ) where
  on_4 : (y + 400 + 3) / 4 ≡ (y + 3) / 4 + 100
  on_4 = omega arith

  on_100 : (y + 400 + 99) / 100 ≡ (y + 99) / 100 + 4
  on_100 = omega arith

  on_400 : (y + 400 + 399) / 400 ≡ (y + 399) / 400 + 1
  on_400 = omega arith

  apart : (a b c : ℕ) → c ≤ 365 * y + a + b → 365 * (y + 400) + (a + 100) + (b + 1) - (c + 4) ≡ 365 * y + a + b - c + 146_097
  apart a b c h = omega arith

  days_cycle : days_before (y + 400) ≡ days_before y + 146_097
  days_cycle = days_closed (y + 400) ∙ rw (on_4, on_100, on_400) (apart _ _ _ (fewer y)) ∙ ap (λ n. n + 146_097) (sym (days_closed y))

pub counted : Counted
counted = record { closed = days_closed; cycle = days_cycle; epoch = days_closed 1970 }
