use mathlib.Core.Path.{◌≡◌, refl, sym, ap, ◌∙◌}
use mathlib.Core.Bool.{false}
use borrow.Author.Tests.{le-ltb}
use Rattle.slots.specs.declared.Found.{Found}
use Rattle.slots.specs.declared.Found.TheVariants.{Missing, Once, Twice}
use Rattle.slots.specs.inner.Slots.{is_missing}
use Rattle.slots.proofs.Filled.{new_here, new-past}
use Rattle.slots.proofs.Slots.is_new.Goals as goal

met : (o : Found) → (o ≡ Missing → ⊥) → false ≡ is_missing o
met Missing n = absurd (n refl)
met (Once a e) n = refl
met Twice n = refl

pub returns-in-Missing : goal.returns-in-Missing
returns-in-Missing c = sym (new_here c.args.self.now c.args.row c.if-row-lt-ROWS.true ∙ ap is_missing c.in-Missing.is)

pub returns-in_default : goal.returns-in_default
returns-in_default c = met _ c.in_default.not-Missing ∙ sym (new_here c.args.self.now c.args.row c.if-row-lt-ROWS.true)

pub returns-else-row-lt-ROWS : goal.returns-else-row-lt-ROWS
returns-else-row-lt-ROWS c = le-ltb _ _ c.if-row-lt-ROWS.false ∙ sym (new-past c.args.self.now c.args.row c.if-row-lt-ROWS.false)
