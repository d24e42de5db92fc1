-- An object is read up to the last byte that is no blank, and any other value up to where passing over it ends.
use mathlib.Core.Path.{sym, ap, ◌∙◌}
use Prim.Native.Nat.{◌-◌}
use lib.ListN.{length, drop}
use Rattle.limits.specs.Ceilings.{depth}
use Rattle.walk.proofs.Skips.{skip-value}
use Rattle.walk.proofs.Tails.{tail-once, object-tail}
use Rattle.walk.proofs.tail.last_end.Goals as goal

pub returns-then-first-eq123 : goal.returns-then-first-eq123
returns-then-first-eq123 c x t reads empty =
    let a = c.args in
    tail-once c.solid_end.ensures (object-tail a.s.now a.at x t reads (sym c.first.ensures ∙ c.if-first-eq123.true) empty)

pub returns : goal.returns
returns c x t reads empty =
    let a = c.args in
    c.skip_value.ensures ∙ ap (λ l. length a.s.now - length l) (skip-value depth x (drop a.at a.s.now) t reads)
