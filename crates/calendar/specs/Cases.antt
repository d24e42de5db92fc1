-- Dates, computed.
use Rattle.std.specs.Prelude.{Bool, true, false, List, [], ◌∷◌, refl, ℕ, Option, None, Some}
use Prim.Native.String.{String}
use Rattle.notation.specs.Ascii.{bytes}
use Rattle.notation.specs.Case.{Case, Answers}
use Rattle.text.specs.Text.{text_of}
use Rattle.decimal.specs.Cases.{deciding}
use Rattle.calendar.specs.declared.Date.{Date}
use Rattle.calendar.specs.Calendar.{leap, months, month_days, real_date, days_before}
use Rattle.calendar.specs.Written.{admits, has_form, is_date, date_of}

-- opens every definition of this layer
unfoldable pub dating : Unit {0}
unfolding deciding leap months month_days real_date days_before admits has_form is_date date_of
dating = tt

abbrev leaps : List (Case ℕ Bool)
leaps =
    ("4 divides it", 2024, true) ∷
    ("4 does not", 2023, false) ∷
    ("100 divides it", 1900, false) ∷
    ("400 divides it", 2000, true) ∷
    ("the first year", 0, true) ∷
    ("the first that 4 divides and that is none", 100, false) ∷
    []

leaps-answered : Answers leap leaps
unfolding dating
leaps-answered = refl

-- the days of a month of a year
abbrev lengths : List (Case (ℕ × ℕ) ℕ)
lengths =
    ("January", (2023, 1), 31) ∷
    ("February", (2023, 2), 28) ∷
    ("February of a leap year", (2024, 2), 29) ∷
    ("April of a leap year", (2024, 4), 30) ∷
    ("August, behind July", (2023, 8), 31) ∷
    ("December", (2023, 12), 31) ∷
    ("no month", (2024, 0), 0) ∷
    ("a month too many", (2024, 13), 0) ∷
    []

lengths-answered : Answers (λ c. month_days c.0 c.1) lengths
unfolding dating
lengths-answered = refl

-- whether a string is a date, by what it spells
abbrev dates : List (Case String Bool)
dates =
    ("29 February, 4 divides the year", "2024-02-29", true) ∷
    ("29 February, 400 divides the year", "2000-02-29", true) ∷
    ("29 February of the first year", "0000-02-29", true) ∷
    ("29 February, 100 divides the year", "1900-02-29", false) ∷
    ("29 February, 4 does not divide the year", "2023-02-29", false) ∷
    ("the first day", "0000-01-01", true) ∷
    ("the last day", "9999-12-31", true) ∷
    ("month 0", "2024-00-10", false) ∷
    ("month 13", "2024-13-01", false) ∷
    ("day 0", "2024-01-00", false) ∷
    ("day 31 of April", "2024-04-31", false) ∷
    ("day 32", "2024-12-32", false) ∷
    ("an escaped digit", "202\\u0034-01-01", true) ∷
    ("an escaped hyphen", "2024\\u002d01-01", true) ∷
    ("nine bytes, a day of one digit", "2024-01-1", false) ∷
    ("nine bytes, a year of three digits", "999-01-01", false) ∷
    ("eleven bytes", "2024-01-011", false) ∷
    ("a blank behind", "2024-01-01 ", false) ∷
    ("a blank before", " 2024-01-01", false) ∷
    ("a blank for a digit", "2024-01- 1", false) ∷
    ("a year with a sign", "-024-01-01", false) ∷
    ("other marks", "2024/01/01", false) ∷
    ("the day first", "01-01-2024", false) ∷
    ("a letter", "2024-0a-01", false) ∷
    ("a time behind it", "2024-01-01T00:00:00Z", false) ∷
    ("no bytes", "", false) ∷
    []

dates-answered : Answers (λ s. is_date (text_of (bytes s))) dates
unfolding dating
dates-answered = refl

abbrev date : ℕ → ℕ → ℕ → Date
date year month day = record { year = year; month = month; day = day }

-- which date a text is
abbrev read : List (Case String (Option Date))
read =
    ("a date", "2024-02-29", Some (date 2024 2 29)) ∷
    ("digits that are 0", "0009-01-01", Some (date 9 1 1)) ∷
    ("no real date", "2024-02-30", None) ∷
    ("of no form", "2024-2-29", None) ∷
    []

read-answered : Answers (λ s. date_of (bytes s)) read
unfolding dating
read-answered = refl

-- the days before a year
abbrev counts : List (Case ℕ ℕ)
counts =
    ("the first", 0, 0) ∷
    ("one leap year", 1, 366) ∷
    ("two of five", 5, 1_827) ∷
    ("25 of 101", 101, 36_890) ∷
    ("400 years", 400, 146_097) ∷
    []

counts-answered : Answers days_before counts
unfolding dating
counts-answered = refl
