-- `find` walks along the members of an object, and passes over no other value.
use mathlib.Core.Path.{◌≡◌, sym, subst, ◌∙◌}
use native.Mathlib.Omega.{arith}
use Rattle.walk.specs.Walk.{member_at}
use Rattle.walk.specs.Part.{Whole}
use Rattle.walk.specs.inner.Along.{AlongMembers}
use Rattle.walk.proofs.Folds.{member_steps, members-start, walk_more, walk_end}
use Rattle.walk.proofs.Memberless.{first-object}
use Rattle.slots.specs.declared.Found.TheVariants.{Missing}
use Rattle.slots.specs.Found.{noted, found_in}
use Rattle.document.proofs.First.{found_none}
use Rattle.document.proofs.find.Goals as goal
use Rattle.std.specs.Prelude.{Some}

pub returns-then-first-ne123 : goal.returns-then-first-ne123
returns-then-first-ne123 c x w = let a = c.args in found_none a.p.now a.name.now w (λ z. c.if-first-ne123.true (c.first.ensures ∙ z))

pub loop-m-init : goal.loop-m-init
unfolding found_in
loop-m-init c x w =
    let a = c.args in let p = a.p.now in
    let (ms, e) = first-object w (sym c.first.ensures ∙ c.if-first-ne123.false) in
    (AlongMembers.start (subst (Whole p) e w), members-start p (noted p a.name.now) Missing)

pub returns : goal.returns
returns c x w =
    let a = c.args in let p = a.p.now in
    let (along, left) = c.loop-m.invariant x w in
    walk_end (member_steps p) (noted p a.name.now) c.loop-m.found c.loop-m.at (found_in p a.name.now)
    (sym (c.pass_member.ensures.same along) ∙ c.in_default.is) left

pub slice_bounds-text_is-count : goal.slice_bounds-text_is-count
slice_bounds-text_is-count c = let m = c.pass_member.ensures.placed c.in-Some.m c.in-Some.is in omega arith

pub slice_bounds-text_is-start : goal.slice_bounds-text_is-start
slice_bounds-text_is-start c = let m = c.pass_member.ensures.placed c.in-Some.m c.in-Some.is in omega arith

pub slice_bounds-text_is-end : goal.slice_bounds-text_is-end
slice_bounds-text_is-end c = let m = c.pass_member.ensures.placed c.in-Some.m c.in-Some.is in omega arith

pub loop-m-smaller : goal.loop-m-smaller
loop-m-smaller c = let m = c.pass_member.ensures.placed c.in-Some.m c.in-Some.is in omega arith

pub loop-m-preserved-then-text_is : goal.loop-m-preserved-then-text_is
loop-m-preserved-then-text_is c x w =
    let a = c.args in let p = a.p.now in let m = c.in-Some.m in
    let (along, left) = c.loop-m.invariant x w in
    let found : member_at p c.loop-m.at ≡ Some m = sym (c.pass_member.ensures.same along) ∙ c.in-Some.is in
    rw c.one_more-found.ensures
    (AlongMembers.next along found, rw (sym c.text_is.ensures ∙ c.if-text_is.true) at (walk_more (member_steps p) (noted p a.name.now) c.loop-m.found c.loop-m.at _ m found left))

pub loop-m-preserved : goal.loop-m-preserved
loop-m-preserved c x w =
    let a = c.args in let p = a.p.now in let m = c.in-Some.m in
    let (along, left) = c.loop-m.invariant x w in
    let found : member_at p c.loop-m.at ≡ Some m = sym (c.pass_member.ensures.same along) ∙ c.in-Some.is in
    (AlongMembers.next along found, rw (sym c.text_is.ensures ∙ c.if-text_is.false) at (walk_more (member_steps p) (noted p a.name.now) c.loop-m.found c.loop-m.at _ m found left))
