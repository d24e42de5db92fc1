-- Two digits behind \u00 that make a number below 128 are the character; any other case is answered by 128, which says nothing.
use mathlib.Core.Path.{ap, ◌∙◌}
use Prim.Native.Nat.{◌+◌}
use lib.ListN.{get_or}
use Rattle.lexeme.specs.Character.{hex_value}
use Rattle.character.proofs.Digits.{digit_is}
use Rattle.text.proofs.Escapes.{no-escape, escape-low, octal}
use native.Mathlib.Omega.{arith}
use Rattle.text.proofs.ascii.escaped.Goals as goal

pub returns-then-not-opens_low : goal.returns-then-not-opens_low
returns-then-not-opens_low c = no-escape _

pub overflow_add-c : goal.overflow_add-c
overflow_add-c c = omega (arith, (c.opens_low.ensures c.if-not-opens_low.false).room)

pub bounds-s-at : goal.bounds-s-at
bounds-s-at c = omega (arith, (c.opens_low.ensures c.if-not-opens_low.false).room)

pub returns-then-c-lt48 : goal.returns-then-c-lt48
returns-then-c-lt48 c = no-escape _

pub overflow_add-at : goal.overflow_add-at
overflow_add-at c = omega (arith, (c.opens_low.ensures c.if-not-opens_low.false).room)

pub bounds-s-at-2 : goal.bounds-s-at-2
bounds-s-at-2 c = omega (arith, (c.opens_low.ensures c.if-not-opens_low.false).room)

pub returns-in_default : goal.returns-in_default
returns-in_default c = no-escape _

pub overflow_mul-result : goal.overflow_mul-result
overflow_mul-result c = omega (arith, c.if-c-gt55.false)

pub overflow_cast-result : goal.overflow_cast-result
overflow_cast-result c = omega (arith, (digit_is _ c.in-Some.ensures).1)

pub overflow_add-result : goal.overflow_add-result
overflow_add-result c = omega (arith, (digit_is _ c.in-Some.ensures).1, c.if-c-gt55.false)

pub returns : goal.returns
returns c h =
    escape-low c.args.s.now c.args.at (c.opens_low.ensures c.if-not-opens_low.false)
    (octal (get_or c.args.s.now (c.args.at + 4) 0) c.if-c-lt48.false c.if-c-gt55.false) ((digit_is _ c.in-Some.ensures).0 ∙ ap hex_value c.from.ensures)
    (omega (arith, c.if-c-gt55.false)) (omega (arith, (digit_is _ c.in-Some.ensures).1))
