-- Of two faults the second is answered where the derived order has it before the first, which is where the definition's `before` has it.
use mathlib.Core.Bool.{Bool}
use mathlib.Core.Path.{◌≡◌, sym, ap, ap₂, ◌∙◌}
use Rattle.std.proofs.Common.{is_lt}
use Rattle.fault.specs.Fault.{before, lesser}
use Rattle.fault.proofs.Order.{cmp_before}
use Rattle.fault.proofs.Leasts.{lesser-first, lesser-second}
use Rattle.fault.proofs.lesser.Goals as goal

pub returns-then-is_lt : goal.returns-then-is_lt
returns-then-is_lt c =
    let x = c.in-Some.x in let y = c.in-Some-b.y in
    let earlier : before y x ≡ c.is_lt.result = sym (cmp_before y x) ∙ ap is_lt (sym c.cmp.ensures) ∙ sym c.is_lt.ensures in
    sym (ap₂ lesser c.in-Some.is c.in-Some-b.is ∙ lesser-second x y (earlier ∙ c.if-is_lt.true))

pub returns-else-is_lt : goal.returns-else-is_lt
returns-else-is_lt c =
    let x = c.in-Some.x in let y = c.in-Some-b.y in
    let earlier : before y x ≡ c.is_lt.result = sym (cmp_before y x) ∙ ap is_lt (sym c.cmp.ensures) ∙ sym c.is_lt.ensures in
    sym (ap₂ lesser c.in-Some.is c.in-Some-b.is ∙ lesser-first x y (earlier ∙ c.if-is_lt.false))
