-- `check_ids` names the first record whose id is used before, in the files whose records have ids, and leaves these noted.
use mathlib.Core.Path.{◌≡◌, sym, ap, subst, ◌∙◌}
use native.Mathlib.Omega.{arith}
use Rattle.notation.proofs.Booleans.{true-false}
use Rattle.fault.specs.Outcome.{outcome_of}
use Rattle.fault.specs.inner.Narrow.{Narrow}
use Rattle.ids.specs.inner.Ids.{id_field}
use Rattle.ids.proofs.Picked.{has-ids, no-ids}
use Rattle.clean.proofs.Repeated.{repeats-none}
use Rattle.clean.proofs.Judged.{blamed-narrow}
use Rattle.clean.proofs.check_ids.Goals as goal

pub returns-then-id_field-eq0 : goal.returns-then-id_field-eq0
returns-then-id_field-eq0 c =
    let a = c.args in let e : id_field a.sheet ≡ 0 = sym c.id_field.ensures ∙ c.if-id_field-eq0.true in
    let none = no-ids a.sheet e in (ap (outcome_of a.file) (sym (repeats-none a.sheet none _)), λ h i. true-false i none)

pub note_file-requires : goal.note_file-requires
note_file-requires c =
    let x = c.requires in
    (has-ids c.args.sheet (λ e. c.if-id_field-eq0.false (c.id_field.ensures ∙ e)), x.0, x.1, x.2)

pub outcome_of-requires : goal.outcome_of-requires
outcome_of-requires c =
    let sheet = c.args.sheet in
    subst Narrow (sym c.blame.ensures) (blamed-narrow (id_field sheet) c.note_file.result (omega arith))

pub returns : goal.returns
returns c =
    let file = c.args.file in
    (c.outcome_of.ensures ∙ ap (outcome_of file) (c.blame.ensures ∙ sym c.note_file.ensures.0), c.note_file.ensures.1)
