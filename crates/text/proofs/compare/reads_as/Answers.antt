-- As long as bytes stand for themselves, what is left of both agrees as the whole does; from another byte on the general comparison decides.
use mathlib.Core.List.{map}
use mathlib.Core.Path.{sym, ap, ◌∙◌}
use native.Mathlib.Omega.{arith}
use lib.ListN.{length, drop_of_length-le}
use borrow.Author.Tests.{le-leb}
use Rattle.notation.proofs.Lists.{at_cons}
use Rattle.text.specs.inner.Walk.{cased}
use Rattle.text.proofs.Decoding.{text-end, text-plain}
use Rattle.text.proofs.Lengths.{agreeing-longer}
use Rattle.text.proofs.Steps.{same-long, same-differ, same_next, ends_at}
use Rattle.text.proofs.compare.reads_as.Goals as goal
use Rattle.text.proofs.compare.reads_as.Goals.{then-plain-i-via-then-plain-i, then-plain-i-via-else-plain-i+then-not-alike}

pub returns-then-plain-i : goal.returns-then-plain-i
returns-then-plain-i c =
    let q = c.args in let i = c.loop-i.i in
    let f = map (cased q.fold) in
    let e = text-plain q.spelled.now i (omega arith) (sym c.is_plain.ensures ∙ c.if-not-is_plain.false) in
    elim c.then-plain-i.branch [
      | then-plain-i-via-then-plain-i w ↦
          sym (same-long (ap f e) (ap f (drop_of_length-le q.plain.now {i = i} w.if-plain-i.true))) ∙ c.loop-i.invariant.1
      | then-plain-i-via-else-plain-i+then-not-alike w ↦
          sym (same-differ (ap f (at_cons q.plain.now i (omega arith))) (ap f e) (sym w.alike.ensures ∙ w.if-not-alike.true)) ∙ c.loop-i.invariant.1
    ]

pub loop-i-preserved : goal.loop-i-preserved
loop-i-preserved c =
    let q = c.args in let i = c.loop-i.i in
    let f = map (cased q.fold) in
    let e = text-plain q.spelled.now i (omega arith) (sym c.is_plain.ensures ∙ c.if-not-is_plain.false) in
    (omega arith, sym (same_next (ap f (at_cons q.plain.now i (omega arith))) (ap f e) (sym c.alike.ensures ∙ c.if-not-alike.false)) ∙ c.loop-i.invariant.1)

pub returns : goal.returns
returns c =
    let q = c.args in let i = c.loop-i.i in
    sym (le-leb (length q.plain.now) i (omega arith)) ∙ ends_at q.fold q.plain.now i (text-end q.spelled.now i (omega arith)) ∙ c.loop-i.invariant.1

pub returns-then-spelled-plain : goal.returns-then-spelled-plain
returns-then-spelled-plain c = let q = c.args in sym (agreeing-longer q.fold q.spelled.now q.plain.now c.if-spelled-plain.true)

pub returns-then-not-is_plain : goal.returns-then-not-is_plain
returns-then-not-is_plain c = c.agrees.ensures ∙ c.loop-i.invariant.1
