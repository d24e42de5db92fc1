-- The first point is there and is the last one, and the area sum is not zero.
use mathlib.Core.Path.{sym, ◌∙◌}
use Rattle.geometry.proofs.Outlines.{sound-end}
use Rattle.geometry.proofs.Outline.is_sound.Goals as goal

pub returns-then-eq : goal.returns-then-eq
returns-then-eq c =
    rw (c.is_zero.ensures, c.area_sum.ensures) (sound-end c.args.self (sym c.if-eq.true ∙ c.eq.ensures))

pub returns-else-eq : goal.returns-else-eq
returns-else-eq c = c.if-eq.false ∙ sound-end c.args.self (sym c.if-eq.false ∙ c.eq.ensures)
