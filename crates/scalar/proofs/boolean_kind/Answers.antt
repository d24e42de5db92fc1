-- One letter names the sort of true and false.
use mathlib.Core.List.{[]}
use mathlib.Core.Path.{refl}
use Rattle.schema.proofs.Letters.{sort_from}
use Rattle.scalar.specs.Scalars.{boolean_kinds, sort_kinds}
use Rattle.scalar.proofs.Sorts.{by-letter, no-boolean}
use Rattle.scalar.proofs.boolean_kind.Goals as goal

pub returns-then-letter-eq-BOOLEAN : goal.returns-then-letter-eq-BOOLEAN
unfolding sort_kinds sort_from
returns-then-letter-eq-BOOLEAN c = by-letter (λ σ s. boolean_kinds σ) [] _ c.if-letter-eq-BOOLEAN.true (λ ws. refl)

pub returns-else-letter-eq-BOOLEAN : goal.returns-else-letter-eq-BOOLEAN
returns-else-letter-eq-BOOLEAN c = no-boolean c.if-letter-eq-BOOLEAN.false
