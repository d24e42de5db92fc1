-- A single value breaks rules of the kinds of stage B alone, by cases of what it is judged by.
use mathlib.Core.Bool.{Bool, true, false, not}
use mathlib.Core.List.{List, [], ◌∷◌}
use Prim.Native.Nat.{ℕ}
use native.Mathlib.Omega.{arith}
use lib.Dec.{ltb}
use lib.ListN.{length}
use Rattle.limits.specs.Ceilings.{id_bytes}
use Rattle.notation.specs.Choice.{◌⇒◌else◌}
use Rattle.json_text.specs.Tree as tree
use Rattle.json_text.specs.Tree.{Json}
use Rattle.decimal.specs.declared.Decimal.{Decimal}
use Rattle.decimal.specs.Decimals.{number_of, has_point, price_of}
use Rattle.decimal.specs.Exact.{natural, portion, in_range}
use Rattle.calendar.specs.Written.{is_date}
use Rattle.text.specs.Text.{same}
use Rattle.schema.specs.Shape as sort
use Rattle.schema.specs.Shape.{Sort}
use Rattle.scalar.specs.Scalars.{unless, formed_kinds, any_money, price_money, pricing, any_word, currency, number_kinds, text_kinds, boolean_kinds, kinds_of, sort_kinds}
use Rattle.judge.specs.Bounds.{OfStageB}
use Rattle.judge.proofs.Holds.{All, none, only}
use Rattle.std.specs.Prelude.{Option, Result, Some, None, Ok, Err}
use Rattle.decimal.specs.declared.PriceError.{PriceError}
use Rattle.decimal.specs.declared.PriceError.TheVariants.{Unformed, NoNumber}

abbrev pub AllStageB : List ℕ → Type 0
AllStageB ks = All OfStageB ks

pub unless-kinds : (t : Bool) (kind : ℕ) → OfStageB kind → AllStageB (unless t kind)
unless-kinds true kind h = none
unless-kinds false kind h = only h

formed-kinds : (test : Decimal → Bool) (x : Option Decimal) → AllStageB (formed_kinds test x)
unfolding formed_kinds
formed-kinds test (Some d) = unless-kinds (test d) _ (omega arith)
formed-kinds test None = only (omega arith)

pricing-kinds : (x : Result Decimal PriceError) → AllStageB (pricing x)
unfolding pricing
pricing-kinds (Ok d) = unless-kinds (price_money d) _ (omega arith)
pricing-kinds (Err Unformed) = only (omega arith)
pricing-kinds (Err NoNumber) = only (omega arith)

-- an integer has no point
integer-kinds : (t : Bool) (x : Option Decimal) → AllStageB (t ⇒ 7 ∷ [] else formed_kinds natural x)
integer-kinds true x = only (omega arith)
integer-kinds false x = formed-kinds natural x

number-kinds : (σ : Sort) (s : List ℕ) → AllStageB (number_kinds σ s)
unfolding sort_kinds
number-kinds sort.timestamp s = integer-kinds (has_point s) (number_of s)
number-kinds sort.integer s = integer-kinds (has_point s) (number_of s)
number-kinds sort.amount s = formed-kinds natural (number_of s)
number-kinds sort.portion s = formed-kinds portion (number_of s)
number-kinds sort.latitude s = formed-kinds (in_range 90) (number_of s)
number-kinds sort.longitude s = formed-kinds (in_range 180) (number_of s)
number-kinds sort.any_number s = none
number-kinds sort.money s = formed-kinds any_money (number_of s)
number-kinds sort.price s = formed-kinds price_money (number_of s)
number-kinds sort.boolean s = only (omega arith)
number-kinds sort.text s = only (omega arith)
number-kinds sort.id s = only (omega arith)
number-kinds sort.currency s = only (omega arith)
number-kinds sort.date s = only (omega arith)
number-kinds (sort.exactly t) s = only (omega arith)
number-kinds (sort.word ws) s = only (omega arith)

text-kinds : (σ : Sort) (s : List ℕ) → AllStageB (text_kinds σ s)
unfolding sort_kinds
text-kinds sort.timestamp s = only (omega arith)
text-kinds sort.integer s = only (omega arith)
text-kinds sort.amount s = only (omega arith)
text-kinds sort.portion s = only (omega arith)
text-kinds sort.latitude s = only (omega arith)
text-kinds sort.longitude s = only (omega arith)
text-kinds sort.any_number s = only (omega arith)
text-kinds sort.money s = only (omega arith)
text-kinds sort.price s = pricing-kinds (price_of s)
text-kinds sort.boolean s = only (omega arith)
text-kinds sort.text s = none
text-kinds sort.id s = unless-kinds (not (ltb id_bytes (length s))) _ (omega arith)
text-kinds sort.currency s = unless-kinds (currency s) _ (omega arith)
text-kinds sort.date s = unless-kinds (is_date s) _ (omega arith)
text-kinds (sort.exactly t) s = unless-kinds (same s t) _ (omega arith)
text-kinds (sort.word ws) s = unless-kinds (any_word ws s) _ (omega arith)

boolean-kinds : (σ : Sort) → AllStageB (boolean_kinds σ)
unfolding sort_kinds
boolean-kinds sort.timestamp = only (omega arith)
boolean-kinds sort.integer = only (omega arith)
boolean-kinds sort.amount = only (omega arith)
boolean-kinds sort.portion = only (omega arith)
boolean-kinds sort.latitude = only (omega arith)
boolean-kinds sort.longitude = only (omega arith)
boolean-kinds sort.any_number = only (omega arith)
boolean-kinds sort.money = only (omega arith)
boolean-kinds sort.price = only (omega arith)
boolean-kinds sort.boolean = none
boolean-kinds sort.text = only (omega arith)
boolean-kinds sort.id = only (omega arith)
boolean-kinds sort.currency = only (omega arith)
boolean-kinds sort.date = only (omega arith)
boolean-kinds (sort.exactly t) = only (omega arith)
boolean-kinds (sort.word ws) = only (omega arith)

pub value-kinds : (σ : Sort) (x : Json) → AllStageB (kinds_of σ x)
unfolding kinds_of
value-kinds σ tree.null = only (omega arith)
value-kinds σ (tree.boolean b) = boolean-kinds σ
value-kinds σ (tree.number s) = number-kinds σ s
value-kinds σ (tree.string s) = text-kinds σ s
value-kinds σ (tree.array is) = only (omega arith)
value-kinds σ (tree.object ms) = only (omega arith)
