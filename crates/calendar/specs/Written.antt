-- Dates as they are written, by decoded bytes: YYYY-MM-DD and nothing else, and a real date: document 02, W1, "start_date".
use Rattle.std.specs.Prelude.{Bool, true, false, List, [], ◌∷◌, ℕ, eqb, take, drop, Option, None, Some}
use Rattle.notation.specs.Choice.{◌⇒◌else◌, ◌and◌}
use Rattle.notation.specs.Ascii.{bytes}
use Rattle.lexeme.specs.Numbers.{digit}
use Rattle.decimal.specs.Decimals.{value_of}
use Rattle.calendar.specs.declared.Date.{Date}
use Rattle.calendar.specs.Calendar.{real_date}

-- a form, byte by byte: 0 stands for any digit, every other byte for itself
unfoldable pub admits : (f b : ℕ) → Bool
admits f b = eqb f 0x30 ⇒ digit b else eqb b f

-- a byte of the form beside a byte
abbrev pub admitted : ℕ × ℕ → Bool
admitted p = admits p.0 p.1

unfoldable pub has_form : (form s : List ℕ) → Bool
has_form [] [] = true
has_form [] (b ∷ s) = false
has_form (f ∷ form) [] = false
has_form (f ∷ form) (b ∷ s) = admits f b and has_form form s

-- the date that a text of its form spells, and whether a text is such a date and a real one
abbrev pub date_form : List ℕ
date_form = bytes "0000-00-00"

abbrev pub date_in : List ℕ → Date
date_in s = record { year = value_of (take 4 s); month = value_of (take 2 (drop 5 s)); day = value_of (take 2 (drop 8 s)) }

unfoldable pub is_date : List ℕ → Bool
is_date s = has_form date_form s and real_date (date_in s).year (date_in s).month (date_in s).day

-- the date that a text is
unfoldable pub date_of : List ℕ → Option Date
date_of s = is_date s ⇒ Some (date_in s) else None
