-- What dates promise: a text of their form is a date exactly where its day is one of its month's, and the months have the days of their year.
use Rattle.std.specs.Prelude.{true, List, ◌≡◌, ℕ, zero, suc, ◌+◌, ◌≤◌}
use Rattle.calendar.specs.declared.Date.{Date}
use Rattle.calendar.specs.Calendar.{month_days, year_days}
use Rattle.calendar.specs.Written.{has_form, date_form, date_in, is_date}

-- the day is one of its month's in that year
pub record InMonth (d : Date) : Type 0 where
  pub least : 1 ≤ d.day
  pub most : d.day ≤ month_days d.year d.month

-- the days of the first n months of a year
unfoldable pub days_to : (y n : ℕ) → ℕ
days_to y zero = 0
days_to y (suc n) = days_to y n + month_days y (suc n)

pub record Dated : Type 0 where
  pub accepted : (s : List ℕ) → has_form date_form s ≡ true → InMonth (date_in s) → is_date s ≡ true
  pub only : (s : List ℕ) → is_date s ≡ true → (has_form date_form s ≡ true) × InMonth (date_in s)
  pub year : (y : ℕ) → days_to y 12 ≡ year_days y
