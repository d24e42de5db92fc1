-- A single value against its sort: document 01, "Numbers", "Field table" and the paragraph on strings; of dates document 02, W1. The kinds that it breaks.
use Rattle.std.specs.Prelude.{Bool, true, false, not, List, [], ◌∷◌, ℕ, eqb, ltb, length, Option, Result, Some, None, Ok, Err}
use Rattle.limits.specs.Ceilings.{id_bytes}
use Rattle.notation.specs.Choice.{◌⇒◌else◌, ◌and◌}
use Rattle.word.specs.Kinds.{wrong_type, number_form, out_of_range}
use Rattle.lexeme.specs.Character.{within}
use Rattle.json_text.specs.Tree as tree
use Rattle.json_text.specs.Tree.{Json}
use Rattle.decimal.specs.declared.Decimal.{Decimal}
use Rattle.decimal.specs.Decimals.{number_of, has_point, price_of}
use Rattle.decimal.specs.Exact.{natural, portion, in_range, money_of}
use Rattle.calendar.specs.Written.{is_date}
use Rattle.text.specs.Text.{same, same_word}
use Rattle.schema.specs.Shape as sort
use Rattle.schema.specs.Shape.{Sort}
use Rattle.decimal.specs.declared.PriceError.{PriceError}
use Rattle.decimal.specs.declared.PriceError.TheVariants.{Unformed, NoNumber}

-- one kind where the test fails
abbrev pub unless : Bool → ℕ → List ℕ
unless true kind = []
unless false kind = kind ∷ []

-- a number in the form of listed numbers, against a test of its exact value
unfoldable pub formed_kinds : (Decimal → Bool) → Option Decimal → List ℕ
formed_kinds test (Some d) = unless (test d) out_of_range
formed_kinds test None = number_form ∷ []

unfoldable pub any_money : Decimal → Bool
any_money d = elim (money_of d) [ Some a ↦ true | None ↦ false ]

unfoldable pub price_money : Decimal → Bool
price_money d = natural d and any_money d

unfoldable pub pricing : Result Decimal PriceError → List ℕ
pricing (Ok d) = unless (price_money d) out_of_range
pricing (Err Unformed) = number_form ∷ []
pricing (Err NoNumber) = out_of_range ∷ []

-- one of the words, whatever the case
unfoldable pub any_word : List (List ℕ) → List ℕ → Bool
any_word [] s = false
any_word (w ∷ ws) s = same_word s w ⇒ true else any_word ws s

-- what a sort finds wrong with a number by its spelling, with a string by its text, with true and false
pub record Kinds : Type 0 where
  pub of_number : List ℕ → List ℕ
  pub of_text : List ℕ → List ℕ
  pub of_boolean : List ℕ

-- a sort of numbers, and one of strings
abbrev pub numbers : (List ℕ → List ℕ) → Kinds
numbers kinds = record { of_number = kinds; of_text = λ s. wrong_type ∷ []; of_boolean = wrong_type ∷ [] }

abbrev pub strings : (List ℕ → List ℕ) → Kinds
strings kinds = record { of_number = λ s. wrong_type ∷ []; of_text = kinds; of_boolean = wrong_type ∷ [] }

-- an integer first of all has no point
abbrev pub whole : List ℕ → List ℕ
whole s = has_point s ⇒ wrong_type ∷ [] else formed_kinds natural (number_of s)

-- every byte is a capital
unfoldable pub capitals : List ℕ → Bool
capitals [] = true
capitals (b ∷ x) = within 0x41 0x5a b and capitals x

-- a currency: three capital letters
unfoldable pub currency : List ℕ → Bool
currency x = eqb (length x) 3 and capitals x

-- sort by sort
unfoldable pub sort_kinds : Sort → Kinds
sort_kinds sort.timestamp = numbers whole
sort_kinds sort.integer = numbers whole
sort_kinds sort.amount = numbers (λ s. formed_kinds natural (number_of s))
sort_kinds sort.portion = numbers (λ s. formed_kinds portion (number_of s))
sort_kinds sort.latitude = numbers (λ s. formed_kinds (in_range 90) (number_of s))
sort_kinds sort.longitude = numbers (λ s. formed_kinds (in_range 180) (number_of s))
sort_kinds sort.any_number = numbers (λ s. [])
sort_kinds sort.money = numbers (λ s. formed_kinds any_money (number_of s))
sort_kinds sort.price =
    record { of_number = λ s. formed_kinds price_money (number_of s); of_text = λ s. pricing (price_of s); of_boolean = wrong_type ∷ [] }
sort_kinds sort.boolean = record { of_number = λ s. wrong_type ∷ []; of_text = λ s. wrong_type ∷ []; of_boolean = [] }
sort_kinds sort.text = strings (λ s. [])
sort_kinds sort.id = strings (λ s. unless (not (ltb id_bytes (length s))) out_of_range)
sort_kinds sort.currency = strings (λ s. unless (currency s) out_of_range)
sort_kinds sort.date = strings (λ s. unless (is_date s) out_of_range)
sort_kinds (sort.exactly t) = strings (λ s. unless (same s t) out_of_range)
sort_kinds (sort.word ws) = strings (λ s. unless (any_word ws s) out_of_range)

abbrev pub number_kinds : Sort → List ℕ → List ℕ
number_kinds σ s = (sort_kinds σ).of_number s

abbrev pub text_kinds : Sort → List ℕ → List ℕ
text_kinds σ s = (sort_kinds σ).of_text s

abbrev pub boolean_kinds : Sort → List ℕ
boolean_kinds σ = (sort_kinds σ).of_boolean

-- a value against a sort; null, arrays and objects are of no sort
unfoldable pub kinds_of : Sort → Json → List ℕ
kinds_of σ tree.null = wrong_type ∷ []
kinds_of σ (tree.boolean b) = boolean_kinds σ
kinds_of σ (tree.number s) = number_kinds σ s
kinds_of σ (tree.string s) = text_kinds σ s
kinds_of σ (tree.array is) = wrong_type ∷ []
kinds_of σ (tree.object ms) = wrong_type ∷ []
