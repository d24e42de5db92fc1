-- A spelling in the form has a byte. A sign goes first, and the rest is a number without one.
use mathlib.Core.Bool.{true}
use mathlib.Core.Path.{ap, ◌∙◌}
use native.Mathlib.Omega.{arith}
use Rattle.lexeme.specs.Numbers.{digits}
use Rattle.decimal.specs.Decimals.{behind_whole}
use Rattle.decimal.proofs.Spelled.{number-some, number-minus, number-plain, part-from}
use Rattle.decimal.proofs.spelling.formed_decimal.Goals as goal

pub bounds-s-0 : goal.bounds-s-0
bounds-s-0 c = omega (arith, number-some c.args.s.now c.requires)

pub slice_bounds-formed_unsigned-count : goal.slice_bounds-formed_unsigned-count
slice_bounds-formed_unsigned-count c = omega (arith, number-some c.args.s.now c.requires)

pub slice_bounds-formed_unsigned-start : goal.slice_bounds-formed_unsigned-start
slice_bounds-formed_unsigned-start c = omega (arith, number-some c.args.s.now c.requires)

pub formed_unsigned-requires : goal.formed_unsigned-requires
formed_unsigned-requires c =
    let s = c.args.s.now in
    rw (part-from s 1) (c.requires.0, number-minus s (number-some s c.requires) c.if-s-eq45.true ∙ c.requires.1)

pub returns-then-s-eq45 : goal.returns-then-s-eq45
returns-then-s-eq45 c =
    let s = c.args.s.now in
    c.formed_unsigned.ensures ∙ ap (λ z. behind_whole true (digits z)) (part-from s 1) ∙ number-minus s (number-some s c.requires) c.if-s-eq45.true

pub formed_unsigned-requires-else-s-eq45 : goal.formed_unsigned-requires-else-s-eq45
formed_unsigned-requires-else-s-eq45 c =
    let s = c.args.s.now in (c.requires.0, number-plain s (number-some s c.requires) c.if-s-eq45.false ∙ c.requires.1)

pub returns-else-s-eq45 : goal.returns-else-s-eq45
returns-else-s-eq45 c =
    let s = c.args.s.now in c.formed_unsigned-else-s-eq45.ensures ∙ number-plain s (number-some s c.requires) c.if-s-eq45.false
