-- A price in quotation marks, byte by byte of its text: how far the text is an unsigned number without exponent, and its digits so far.
-- `proofs/Priced` shows that this is the price of the whole text.
use Rattle.std.specs.Prelude.{false, List, [], ◌∷◌, ℕ, ◌+◌, ◌-◌, ◌*◌, ◌^◌, ◌<◌, min, eqb, leb, ltb, Result, Ok, Err}
use Rattle.notation.specs.Choice.{◌⇒◌else◌, ◌and◌}
use Rattle.lexeme.specs.Numbers.{digit}
use Rattle.decimal.specs.declared.spelling.Run.{Run}
use Rattle.decimal.specs.declared.quoted.Phase.{Phase}
use Rattle.decimal.specs.declared.quoted.Phase.TheVariants.{Start, Zero, Whole, Part, Lost}
use Rattle.decimal.specs.declared.quoted.Progress.{Progress}
use Rattle.decimal.specs.Decimals.{whole_digits, part_digits}
use Rattle.decimal.specs.inner.Spelling.{made}
use Rattle.decimal.specs.declared.Decimal.{Decimal}
use Rattle.decimal.specs.declared.PriceError.{PriceError}
use Rattle.decimal.specs.declared.PriceError.TheVariants.{Unformed, NoNumber}

abbrev pub none : Run
none = record { value = 0; count = 0 }

-- a run with one digit more; past `most` digits it only tells that there are too many
unfoldable pub longer : ℕ → Run → ℕ → Run
longer most r b =
    ltb r.count most ⇒ record { value = r.value * 10 + (b - 0x30); count = r.count + 1 } else
    record { value = r.value; count = most + 1 }

abbrev pub progress : Phase → Run → Run → Progress
progress phase whole part = record { phase = phase; whole = whole; part = part }

abbrev pub start : Progress
start = progress Start none none

abbrev pub lost : Progress
lost = progress Lost none none

-- what a first digit begins
unfoldable pub beginning : ℕ → Phase
beginning b = eqb b 0x30 ⇒ Zero else Whole

unfoldable pub on_digit : Progress → ℕ → Phase → Progress
on_digit p b Start = progress (beginning b) (longer whole_digits p.whole b) p.part
on_digit p b Zero = lost
on_digit p b Whole = progress Whole (longer whole_digits p.whole b) p.part
on_digit p b Part = progress Part p.whole (longer part_digits p.part b)
on_digit p b Lost = lost

unfoldable pub on_point : Progress → Phase → Progress
on_point p Start = lost
on_point p Zero = progress Part p.whole p.part
on_point p Whole = progress Part p.whole p.part
on_point p Part = lost
on_point p Lost = lost

unfoldable pub step : Progress → ℕ → Progress
step p b =
    digit b ⇒ on_digit p b p.phase else
    eqb b 0x2e ⇒ on_point p p.phase else lost

unfoldable pub steps : Progress → List ℕ → Progress
steps p [] = p
steps p (b ∷ r) = steps (step p b) r

-- the price of the digits so far, and of all the text so far
unfoldable pub price_so : Progress → Result Decimal PriceError
price_so p =
    leb p.whole.count whole_digits and leb p.part.count part_digits ⇒
    Ok (made false p.whole.value p.part.value p.part.count) else Err Unformed

unfoldable pub finished : Progress → Phase → Result Decimal PriceError
finished p Start = Err NoNumber
finished p Zero = price_so p
finished p Whole = price_so p
finished p Part = eqb p.part.count 0 ⇒ Err NoNumber else price_so p
finished p Lost = Err NoNumber

-- the values stay within their digits
pub record Held (p : Progress) : Type 0 where
  pub whole : p.whole.value < 10 ^ min p.whole.count whole_digits
  pub part : p.part.value < 10 ^ min p.part.count part_digits
