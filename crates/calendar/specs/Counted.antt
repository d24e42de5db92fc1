-- What the count of days before a year promises.
use Rattle.std.specs.Prelude.{◌≡◌, ℕ, ◌+◌, ◌-◌, ◌*◌, ◌/◌}
use Rattle.calendar.specs.Calendar.{days_before}

pub record Counted : Type 0 where
  -- for each year before 365 days, one more where 4 divides it and one more where 400 does, one less where 100 does; all three divide 0000
  pub closed : (y : ℕ) → days_before y ≡ 365 * y + (y + 3) / 4 + (y + 399) / 400 - (y + 99) / 100
  -- the calendar comes round in 400 years
  pub cycle : (y : ℕ) → days_before (y + 400) ≡ days_before y + 146_097
  -- the day of 1970-01-01
  pub epoch : days_before 1970 ≡ 719_528
