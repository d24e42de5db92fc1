-- What the code reads off a spelling step by step: a run of digits, and what a fraction's bytes make of the whole number before them.
use Rattle.std.specs.Prelude.{Bool, true, false, not, List, [], ◌∷◌, map, ℕ, ◌+◌, ◌-◌, ◌*◌, ◌^◌, eqb, leb, length, Option, Some, None}
use Rattle.notation.specs.Choice.{◌⇒◌else◌, ◌and◌}
use Rattle.radix.specs.Radix.{number_from}
use Rattle.lexeme.specs.Numbers.{digit}
use Rattle.decimal.specs.declared.Decimal.{Decimal}
use Rattle.decimal.specs.declared.spelling.Run.{Run}
use Rattle.decimal.specs.Decimals.{part_digits, tens}

-- the digits at the front
unfoldable pub front : List ℕ → List ℕ
front [] = []
front (b ∷ r) = elim (digit b) [ true ↦ b ∷ front r | false ↦ [] ]

-- the number that digits spell after the number v of the digits before them
unfoldable pub value_from : ℕ → List ℕ → ℕ
value_from v ds = number_from v (tens ds) (map (λ b. b - 0x30) ds)

-- the run of digits at the front, after a run of n digits and the value v
unfoldable pub run_from : ℕ → ℕ → List ℕ → Run
run_from v n l = record { value = value_from v (front l); count = n + length (front l) }

-- a number in the form, of its whole part and of n digits behind the point with the value v
unfoldable pub made : Bool → ℕ → ℕ → ℕ → Decimal
made negative whole v n =
    record { negative = negative and not (eqb (whole + v) 0); whole = whole; part = v * 10 ^ (part_digits - n) }

-- the number whose point stands before l
unfoldable pub fraction_of : Bool → ℕ → List ℕ → Option Decimal
fraction_of negative whole l =
    leb (length l) part_digits and eqb (length (front l)) (length l) ⇒
    Some (made negative whole (value_from 0 (front l)) (length l)) else None
