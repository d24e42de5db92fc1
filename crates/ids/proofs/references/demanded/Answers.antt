-- What is needed and not given breaks the condition, and nothing else does.
use mathlib.Core.Bool.{Bool, true}
use mathlib.Core.Path.{sym, ap, ◌∙◌}
use native.Mathlib.Omega.{arith}
use borrow.Author.Tests.{lt-ltb, le-ltb, eqb-true, eqb-false}
use Rattle.document.specs.inner.Values.{there_by}
use Rattle.ids.specs.References.{demanded}
use Rattle.ids.proofs.references.demanded.Goals.{else-needed-via-then-needed+else-is_empty, else-needed-via-else-needed}
use Rattle.ids.proofs.references.demanded.Goals as goal

pub returns-then-is_empty : goal.returns-then-is_empty
returns-then-is_empty c =
    let a = c.args in let e = eqb-true _ 0 (sym c.is_empty.ensures ∙ c.if-is_empty.true) in
    sym (ap (λ (t : Bool). demanded t (there_by a.value.now)) c.if-needed.true ∙ ap (demanded true) (le-ltb 0 _ (omega (arith, e))))

pub returns-else-needed : goal.returns-else-needed
returns-else-needed c =
    let a = c.args in
    elim c.else-needed.branch [
      | else-needed-via-then-needed+else-is_empty w ↦
          let e = eqb-false _ 0 (sym w.is_empty.ensures ∙ w.if-is_empty.false) in
          sym (ap (λ (t : Bool). demanded t (there_by a.value.now)) w.if-needed.true ∙ ap (demanded true) (lt-ltb 0 _ (omega (arith, e))))
      | else-needed-via-else-needed w ↦ sym (ap (λ (t : Bool). demanded t (there_by a.value.now)) w.if-needed.false)
    ]
