-- By whether the ids are the same.
use mathlib.Core.Path.{sym, ap, ◌∙◌}
use Prim.Native.Nat.{◌+◌}
use Rattle.notation.specs.Choice.{◌⇒◌else◌}
use Rattle.sorting.proofs.repeat.repeat_at.Goals as goal

pub returns-then-same : goal.returns-then-same
returns-then-same c =
    c.counted.ensures ∙ sym (ap (λ t. t ⇒ c.args.j + 1 else 0) (sym c.same.ensures ∙ c.if-same.true))

pub returns-else-same : goal.returns-else-same
returns-else-same c = sym (ap (λ t. t ⇒ c.args.j + 1 else 0) (sym c.same.ensures ∙ c.if-same.false))
