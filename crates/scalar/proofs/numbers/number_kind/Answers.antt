-- Each letter that a number may have names a sort, and every other letter a sort that no number is of.
-- every other letter
use mathlib.Core.Logic.{inl, inr}
use mathlib.Core.Path.{refl}
use borrow.Author.Rules.{rules}
use Rattle.schema.proofs.Letters.{sort_from}
use Rattle.scalar.specs.Scalars.{number_kinds, sort_kinds}
use Rattle.scalar.specs.inner.Bounds.{in_bounds}
use Rattle.scalar.proofs.Sorts.{by-letter, no_number}
use Rattle.scalar.proofs.numbers.number_kind.Goals as goal

pub returns-in_default : goal.returns-in_default
returns-in_default c =
    no_number _ (search rules) (search rules) (search rules) (search rules) (search rules) (search rules) (search rules) (search rules) (search rules)

pub returns-in-84 : goal.returns-in-84
unfolding sort_kinds sort_from in_bounds
returns-in-84 c = elim c.in-84.is [
  | inl e ↦ by-letter number_kinds _ _ e (λ ws. c.integer_kind.ensures)
  | inr e ↦ by-letter number_kinds _ _ e (λ ws. c.integer_kind.ensures)
]

pub returns-in-70 : goal.returns-in-70
unfolding sort_kinds sort_from in_bounds
returns-in-70 c = by-letter number_kinds _ _ c.in-70.is (λ ws. c.formed_kind.ensures)

pub returns-in-37 : goal.returns-in-37
unfolding sort_kinds sort_from in_bounds
returns-in-37 c = by-letter number_kinds _ _ c.in-37.is (λ ws. c.formed_kind-in-37.ensures)

pub returns-in-121 : goal.returns-in-121
unfolding sort_kinds sort_from in_bounds
returns-in-121 c = by-letter number_kinds _ _ c.in-121.is (λ ws. c.formed_kind-in-121.ensures)

pub returns-in-120 : goal.returns-in-120
unfolding sort_kinds sort_from in_bounds
returns-in-120 c = by-letter number_kinds _ _ c.in-120.is (λ ws. c.formed_kind-in-120.ensures)

pub returns-in-122 : goal.returns-in-122
unfolding sort_kinds sort_from in_bounds
returns-in-122 c = by-letter number_kinds _ _ c.in-122.is (λ ws. refl)

pub returns-in-109 : goal.returns-in-109
unfolding sort_kinds sort_from in_bounds
returns-in-109 c = by-letter number_kinds _ _ c.in-109.is (λ ws. c.formed_kind-in-109.ensures)

pub returns-in-112 : goal.returns-in-112
unfolding sort_kinds sort_from in_bounds
returns-in-112 c = by-letter number_kinds _ _ c.in-112.is (λ ws. c.formed_kind-in-112.ensures)

pub integer_kind-requires : goal.integer_kind-requires
unfolding sort_kinds sort_from in_bounds
integer_kind-requires c = search rules

pub formed_kind-requires : goal.formed_kind-requires
unfolding sort_kinds sort_from in_bounds
formed_kind-requires c = search rules

pub formed_kind-requires-in-37 : goal.formed_kind-requires-in-37
unfolding sort_kinds sort_from in_bounds
formed_kind-requires-in-37 c = search rules

pub formed_kind-requires-in-121 : goal.formed_kind-requires-in-121
unfolding sort_kinds sort_from in_bounds
formed_kind-requires-in-121 c = search rules

pub formed_kind-requires-in-120 : goal.formed_kind-requires-in-120
unfolding sort_kinds sort_from in_bounds
formed_kind-requires-in-120 c = search rules

pub formed_kind-requires-in-109 : goal.formed_kind-requires-in-109
unfolding sort_kinds sort_from in_bounds
formed_kind-requires-in-109 c = search rules

pub formed_kind-requires-in-112 : goal.formed_kind-requires-in-112
unfolding sort_kinds sort_from in_bounds
formed_kind-requires-in-112 c = search rules
