-- The difference that stops at zero is cast, and there is room for it.
use mathlib.Core.Path.{sym, ap, ◌∙◌}
use mir.Syntax.{w64}
use mir.ValLaws.{to_z_pos}
use native.Mathlib.Omega.{arith}
use lib.IntN.{pos}
use Rattle.fare.proofs.Worth.{clamped-difference}
use Rattle.fare.proofs.Sum.amount.Goals as goal

pub overflow_cast-result : goal.overflow_cast-result
overflow_cast-result c = record { sfits = omega arith }

pub returns : goal.returns
returns c =
    let s = c.args.self in
    to_z_pos w64 _ (omega arith) ∙ ap pos c.excess.ensures ∙ sym (clamped-difference s.added s.taken)
