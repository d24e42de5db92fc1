-- `nth_span` counts the items down.
use borrow.Author.Rules.{rules}
use mathlib.Core.List.{List}
use mathlib.Core.Path.{sym, ap, ◌∙◌}
use native.Mathlib.Omega.{arith}
use Rattle.walk.specs.declared.Item.{Item}
use Rattle.walk.specs.Walk.{items_of}
use Rattle.walk.proofs.Left.{comes_start, comes_end, comes_here, comes_more}
use Rattle.document.specs.Spans.{nth}
use Rattle.document.proofs.Along.{nth-none, nth-zero, nth_here, nth-later}
use Rattle.document.proofs.nth_span.Goals as goal

pub returns-then-n-eq0 : goal.returns-then-n-eq0
returns-then-n-eq0 c h =
    let a = c.args in let l = items_of a.p.now in
    sym (ap (nth a.from l) c.if-n-eq0.true ∙ nth-zero a.from l)

pub loop-m-init : goal.loop-m-init
loop-m-init c = let a = c.args in (search rules, λ h. comes_start (λ (l : List Item). nth a.from l a.n) (λ i. h))

pub returns : goal.returns
returns c h = sym (nth-none _ c.loop-m.left) ∙ comes_end (c.loop-m.invariant.1 h) c.pass_item.ensures c.in_default.is

pub overflow_add-result : goal.overflow_add-result
overflow_add-result c = let m = c.pass_item.ensures.placed c.in-Some.m c.in-Some.is in let h = c.requires in omega arith

pub overflow_add-result-then-left-eq1 : goal.overflow_add-result-then-left-eq1
overflow_add-result-then-left-eq1 c = let m = c.pass_item.ensures.placed c.in-Some.m c.in-Some.is in let h = c.requires in omega arith

pub returns-then-left-eq1 : goal.returns-then-left-eq1
returns-then-left-eq1 c h =
    comes_here (c.loop-m.invariant.1 h) c.pass_item.ensures c.in-Some.is (λ l. ap (nth _ _) c.if-left-eq1.true ∙ nth_here _ c.in-Some.m l)

pub loop-m-smaller : goal.loop-m-smaller
loop-m-smaller c = let m = c.pass_item.ensures.placed c.in-Some.m c.in-Some.is in omega arith

pub loop-m-preserved : goal.loop-m-preserved
loop-m-preserved c = (
  omega arith,
  λ h. comes_more (c.loop-m.invariant.1 h) c.pass_item.ensures c.in-Some.is _ (λ l. nth-later _ c.in-Some.m l c.loop-m.left c.loop-m.invariant.0 c.if-left-eq1.false),
)
