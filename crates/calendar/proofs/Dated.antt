-- Four digits are at most 9,999, so no year of the form is refused, and the tests that are left are on the day. Of a year's months February alone has other
-- days where it is a leap year, one more, as the year has.
use mathlib.Core.Bool.{true}
use mathlib.Core.List.{List}
use mathlib.Core.Path.{◌≡◌}
use Prim.Native.Nat.{ℕ, ◌≤◌}
use native.Mathlib.Omega.{arith}
use lib.Dec.{leb}
use lib.ListN.{length, take, drop}
use borrow.Author.Tests.{leb-true, le-leb}
use Rattle.notation.specs.Ascii.{bytes}
use Rattle.notation.proofs.Booleans.{by_test, and_both}
use Rattle.decimal.specs.Decimals.{value_of}
use Rattle.calendar.specs.Calendar.{leap, months, month_days, real_date, year_days}
use Rattle.calendar.specs.Written.{has_form, date_form, date_in, is_date}
use Rattle.calendar.specs.Dated.{InMonth, days_to, Dated}
use Rattle.calendar.proofs.Forms.{form_length, form_part}
use Rattle.calendar.proofs.Dates.{two_at, four-first}

-- two digits, and four
two-most : (s : List ℕ) (at : ℕ) → has_form (bytes "00") (take 2 (drop at s)) ≡ true → value_of (take 2 (drop at s)) ≤ 99
two-most s at e = let d = two_at s at e in omega (arith, d.tens, d.ones, d.value)

year-most : (s : List ℕ) → has_form date_form s ≡ true → (date_in s).year ≤ 9_999
year-most s e =
    let l : 4 ≤ length s = omega (arith, form_length date_form s e) in
    omega (arith, four-first s l, two-most s 0 (form_part 0 2 date_form s e), two-most s 2 (form_part 2 2 date_form s e))

accepted : (s : List ℕ) → has_form date_form s ≡ true → InMonth (date_in s) → is_date s ≡ true
unfolding is_date real_date
accepted s e m = rw (e, le-leb _ _ (year-most s e), le-leb _ _ m.least, le-leb _ _ m.most, is_date, real_date)

only : (s : List ℕ) → is_date s ≡ true → (has_form date_form s ≡ true) × InMonth (date_in s)
unfolding is_date real_date
only s e =
    let d = date_in s in
    let (f, r) = and_both (has_form date_form s) _ e in
    let (y, t) = and_both (leb d.year 9_999) _ r in
    let (a, b) = and_both (leb 1 d.day) _ t in
    (f, record { least = leb-true 1 d.day a; most = leb-true d.day (month_days d.year d.month) b })

year : (y : ℕ) → days_to y 12 ≡ year_days y
unfolding days_to month_days months
year y = by_test (leap y) (λ t. rw (t, days_to, month_days)) (λ t. rw (t, days_to, month_days))

pub dated : Dated
dated = record { accepted = accepted; only = only; year = year }
