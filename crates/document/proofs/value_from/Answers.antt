-- `value_from` goes along the members, up to the first of the name.
use mathlib.Core.Path.{sym, subst, ◌∙◌}
use native.Mathlib.Omega.{arith}
use Rattle.walk.specs.inner.Along.{NamePassed, MemberPassed}
use Rattle.walk.proofs.Passing.{member-absent}
use Rattle.walk.proofs.Cuts.{part-rest}
use Rattle.document.proofs.First.{unmet_none, unmet_start, unmet_end, unmet_here, unmet_next, from-none, from-here}
use Rattle.document.proofs.value_from.Goals.{in-Some+else-text_is+in_default-pass_value, in_default}
use Rattle.document.proofs.value_from.Goals as goal

pub returns-then-first-ne123 : goal.returns-then-first-ne123
returns-then-first-ne123 c =
    let a = c.args in
    from-none a.p.now a.name.now _ c.cut.ensures (unmet_none a.p.now a.name.now (λ z. c.if-first-ne123.true (c.first.ensures ∙ z)))

pub loop-n-init : goal.loop-n-init
loop-n-init c = let a = c.args in unmet_start a.p.now a.name.now (sym c.first.ensures ∙ c.if-first-ne123.false)

pub returns : goal.returns
returns c =
    let a = c.args in let p = a.p.now in
    from-none p a.name.now _ c.cut-2.ensures (unmet_end p a.name.now c.loop-n.at c.loop-n.invariant
    (elim c.match-pass_name.branch [
      | in-Some+else-text_is+in_default-pass_value w ↦
          subst (MemberPassed p c.loop-n.at) w.in_default-pass_value.is
          (w.pass_value.ensures c.loop-n.at (subst (NamePassed p c.loop-n.at) w.in-Some.is c.pass_name.ensures))
      | in_default w ↦ member-absent p c.loop-n.at (subst (NamePassed p c.loop-n.at) w.in_default.is c.pass_name.ensures)
    ]))

-- where a front was found

pub slice_bounds-text_is-count : goal.slice_bounds-text_is-count
slice_bounds-text_is-count c = let m = c.pass_name.ensures.placed c.in-Some.n c.in-Some.is in omega arith

pub slice_bounds-text_is-start : goal.slice_bounds-text_is-start
slice_bounds-text_is-start c = let m = c.pass_name.ensures.placed c.in-Some.n c.in-Some.is in omega arith

pub slice_bounds-text_is-end : goal.slice_bounds-text_is-end
slice_bounds-text_is-end c = let m = c.pass_name.ensures.placed c.in-Some.n c.in-Some.is in omega arith

pub slice_bounds-result-count : goal.slice_bounds-result-count
slice_bounds-result-count c = let m = c.pass_name.ensures.placed c.in-Some.n c.in-Some.is in omega arith

pub slice_bounds-result-start : goal.slice_bounds-result-start
slice_bounds-result-start c = let m = c.pass_name.ensures.placed c.in-Some.n c.in-Some.is in omega arith

pub slice_bounds-result-end : goal.slice_bounds-result-end
slice_bounds-result-end c = let m = c.pass_name.ensures.placed c.in-Some.n c.in-Some.is in omega arith

pub returns-then-text_is : goal.returns-then-text_is
returns-then-text_is c =
    let a = c.args in let p = a.p.now in let n = c.in-Some.n in
    from-here p a.name.now _ n.value (part-rest p n.value)
    (unmet_here p a.name.now c.loop-n.at c.loop-n.invariant n (subst (NamePassed c.args.p.now c.loop-n.at) c.in-Some.is c.pass_name.ensures) (sym c.text_is.ensures ∙ c.if-text_is.true))

pub loop-n-smaller : goal.loop-n-smaller
loop-n-smaller c =
    let whole = c.pass_value.ensures c.loop-n.at (subst (NamePassed c.args.p.now c.loop-n.at) c.in-Some.is c.pass_name.ensures) in
    let m = whole.placed c.in-Some-pass_value.m c.in-Some-pass_value.is in omega arith

pub loop-n-preserved : goal.loop-n-preserved
loop-n-preserved c =
    let a = c.args in let p = a.p.now in
    let passed = subst (NamePassed c.args.p.now c.loop-n.at) c.in-Some.is c.pass_name.ensures in
    unmet_next p a.name.now c.loop-n.at c.loop-n.invariant c.in-Some.n passed (sym c.text_is.ensures ∙ c.if-text_is.false)
    c.in-Some-pass_value.m (subst (MemberPassed p c.loop-n.at) c.in-Some-pass_value.is (c.pass_value.ensures c.loop-n.at passed))
