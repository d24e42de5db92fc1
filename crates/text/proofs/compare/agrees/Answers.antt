-- What is left of the text and of the plain bytes agrees as the whole does; each turn takes a byte off both.
use mathlib.Core.List.{map}
use mathlib.Core.Path.{sym, ap, ◌∙◌}
use Prim.Native.Nat.{◌<◌}
use native.Mathlib.Omega.{arith}
use lib.ListN.{length, drop, drop_of_length-le}
use Rattle.notation.proofs.Lists.{at_cons}
use Rattle.text.specs.inner.Walk.{agreeing, cased}
use Rattle.text.proofs.Decoding.{left_at, no_byte, one_byte}
use Rattle.text.proofs.Steps.{same-short, same-differ, same_next, ends-plain}
use Rattle.text.proofs.compare.agrees.Goals as goal

pub returns-in_default : goal.returns-in_default
returns-in_default c =
    let q = c.args in
    let w = c.loop-j in
    let f = map (cased q.fold) in
    let h : w.j < length q.plain.now = omega arith in
    sym (same-short (ap f (at_cons q.plain.now w.j h)) (ap f (no_byte _ _ c.next_byte.ensures c.in_default.is))) ∙ w.invariant

pub returns-then-not-alike : goal.returns-then-not-alike
returns-then-not-alike c =
    let q = c.args in
    let w = c.loop-j in
    let f = map (cased q.fold) in
    let h : w.j < length q.plain.now = omega arith in
    let e = one_byte _ _ _ _ c.next_byte.ensures c.in-Some.is in
    sym (same-differ (ap f (at_cons q.plain.now w.j h)) (ap f e) (sym c.alike.ensures ∙ c.if-not-alike.true)) ∙ w.invariant

pub loop-j-preserved : goal.loop-j-preserved
loop-j-preserved c =
    let q = c.args in
    let w = c.loop-j in
    let f = map (cased q.fold) in
    let h : w.j < length q.plain.now = omega arith in
    let e = one_byte _ _ _ _ c.next_byte.ensures c.in-Some.is in
    sym (same_next (ap f (at_cons q.plain.now w.j h)) (ap f e) (sym c.alike.ensures ∙ c.if-not-alike.false)) ∙ w.invariant

pub returns : goal.returns
returns c =
    let q = c.args in
    let w = c.loop-j in
    c.ended.ensures ∙ ends-plain q.fold _ (drop_of_length-le q.plain.now {i = w.j} (omega arith)) ∙ w.invariant

pub loop-j-init : goal.loop-j-init
loop-j-init c = let q = c.args in
    ap (λ x. agreeing q.fold x (drop q.from q.plain.now)) (left_at q.spelled.now q.from _ c.cursor_at-c.ensures)
