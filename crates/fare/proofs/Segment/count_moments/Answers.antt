-- The division counts what lies below the bound.
use mathlib.Core.Path.{sym, ◌∙◌}
use Prim.Native.Nat.{◌-◌}
use native.Mathlib.Nat.{div-le_self}
use native.Mathlib.Omega.{arith}
use Rattle.fare.proofs.Moments.{bound_most, count_none, count-once, count-many, moments-below}
use Rattle.fare.proofs.Segment.count_moments.Goals as goal

pub returns-then-bound-self : goal.returns-then-bound-self
returns-then-bound-self c =
    sym (count_none _ _ _ c.if-bound-self.true) ∙ moments-below c.args.self _ _ c.bound-bound.ensures

pub returns-then-self-eq0 : goal.returns-then-self-eq0
returns-then-self-eq0 c =
    sym (count-once _ _ _ c.if-bound-self.false c.if-self-eq0.true) ∙ moments-below c.args.self _ _ c.bound-bound.ensures

pub overflow_add-result : goal.overflow_add-result
overflow_add-result c =
    let a = c.args in
    omega (arith, c.bound-bound.ensures, bound_most a.self a.ride, div-le_self (c.bound-bound.result - 1 - a.self.start) a.self.interval)

pub returns-else-self-eq0 : goal.returns-else-self-eq0
returns-else-self-eq0 c =
    sym (count-many _ _ _ c.if-bound-self.false c.if-self-eq0.false)
    ∙ moments-below c.args.self _ _ c.bound-bound.ensures
