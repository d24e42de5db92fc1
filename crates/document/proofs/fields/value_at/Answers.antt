-- What was found stands there whole, and is given as it stands unless it is blank; it is a part of the object, in any bytes.
use mathlib.Core.List.{[]}
use mathlib.Core.Path.{sym, ap, subst, ◌∙◌}
use native.Mathlib.Omega.{arith}
use lib.ListN.{length}
use Rattle.notation.specs.Choice.{◌⇒◌else◌}
use Rattle.walk.specs.Walk.{part}
use Rattle.walk.specs.Part.{part_tree}
use Rattle.slots.specs.inner.Blank.{blank_text}
use Rattle.document.specs.inner.Values.{found_bytes, FoundWhole}
use Rattle.document.proofs.Sizes.{part-short}
use Rattle.document.proofs.fields.value_at.Goals as goal

pub returns-in-Missing : goal.returns-in-Missing
returns-in-Missing c =
    let p = c.args.p.now in
    (λ w. c.no_bytes.ensures ∙ sym (ap (found_bytes p) c.in-Missing.is), omega (arith, ap length c.no_bytes.ensures))

pub returns-in-Once : goal.returns-in-Once
returns-in-Once c =
    let p = c.args.p.now in let from = c.in-Once.from in let upto = c.in-Once.upto in (
      λ w.
          c.unless_blank.ensures.0 (part_tree (part p from upto)) (rw c.cut.ensures (subst (FoundWhole p) c.in-Once.is w))
          ∙ ap (λ z. blank_text (part_tree (part p from upto)) ⇒ [] else z) c.cut.ensures
          ∙ sym (ap (found_bytes p) c.in-Once.is),
      omega (arith, c.unless_blank.ensures.1, ap length c.cut.ensures, part-short p from upto),
    )

pub returns-in-Twice : goal.returns-in-Twice
returns-in-Twice c =
    let p = c.args.p.now in
    (λ w. c.no_bytes-in-Twice.ensures ∙ sym (ap (found_bytes p) c.in-Twice.is), omega (arith, ap length c.no_bytes-in-Twice.ensures))
