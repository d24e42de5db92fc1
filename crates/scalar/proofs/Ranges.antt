-- A number's form and range, an equation for each way through the definitions.
use mathlib.Core.Bool.{Bool, true, false}
use mathlib.Core.List.{List, [], ◌∷◌}
use mathlib.Core.Path.{◌≡◌, sym, ap, ◌∙◌}
use Prim.Native.Nat.{ℕ}
use Rattle.std.specs.Option.{is_some}
use Rattle.word.specs.Kinds.{number_form, out_of_range}
use Rattle.decimal.specs.declared.Decimal.{Decimal}
use Rattle.decimal.specs.declared.Amount.{Amount}
use Rattle.decimal.specs.Exact.{natural, money_of}
use Rattle.scalar.specs.Scalars.{unless, formed_kinds, any_money, price_money, pricing}
use Rattle.std.specs.Prelude.{Option, Result, Some, None, Ok, Err}
use Rattle.decimal.specs.declared.PriceError.{PriceError}
use Rattle.decimal.specs.declared.PriceError.TheVariants.{Unformed, NoNumber}

-- money
module _ (d : Decimal) where
  is_money : (a : Amount) → money_of d ≡ Some a → true ≡ any_money d
  unfolding any_money
  is_money a e = rw (any_money, e)

  no_money : money_of d ≡ None → false ≡ any_money d
  unfolding any_money
  no_money e = rw (any_money, e)

  pub money_some : (m : Option Amount) → m ≡ money_of d → is_some m ≡ any_money d
  money_some None e = no_money (sym e)
  money_some (Some a) e = is_money a (sym e)

  pub price-below : natural d ≡ false → false ≡ price_money d
  unfolding price_money
  price-below e = rw e

  pub price_money_lem : natural d ≡ true → any_money d ≡ price_money d
  unfolding price_money
  price_money_lem e = rw e

-- what a test of the exact value says, of a number and of a price in quotation marks
module _ {r : List ℕ} (d : Decimal) (kept : Bool) (says : unless kept out_of_range ≡ r) where
  pub formed-value : (test : Decimal → Bool) {n : Option Decimal} → n ≡ Some d → kept ≡ test d → formed_kinds test n ≡ r
  unfolding formed_kinds
  formed-value test e k = ap (formed_kinds test) e ∙ ap (λ (t : Bool). unless t out_of_range) (sym k) ∙ says

  pub pricing-value : {n : Result Decimal PriceError} → n ≡ Ok d → kept ≡ price_money d → pricing n ≡ r
  unfolding pricing
  pricing-value e k = ap pricing e ∙ ap (λ (t : Bool). unless t out_of_range) (sym k) ∙ says

pub formed-unformed : (test : Decimal → Bool) {n : Option Decimal} → n ≡ None → formed_kinds test n ≡ number_form ∷ []
unfolding formed_kinds
formed-unformed test e = ap (formed_kinds test) e

pub pricing-unformed : {n : Result Decimal PriceError} → n ≡ Err Unformed → pricing n ≡ number_form ∷ []
unfolding pricing
pricing-unformed e = ap pricing e

pub pricing-none : {n : Result Decimal PriceError} → n ≡ Err NoNumber → pricing n ≡ out_of_range ∷ []
unfolding pricing
pricing-none e = ap pricing e
