-- The run of the first twelve bytes, or of all where there are fewer.
use mathlib.Core.Path.{ap, ◌∙◌}
use Prim.Native.Nat.{ℕ}
use native.Mathlib.Omega.{arith}
use lib.ListN.{take, length-take}
use Rattle.decimal.specs.inner.Spelling.{run_from}
use Rattle.decimal.proofs.spelling.whole_run.Goals as goal

pub returns : goal.returns
returns c =
    c.of.ensures ∙ ap (λ (m : ℕ). run_from 0 0 (take m c.args.s.now)) c.min.ensures

pub slice_bounds-of-end : goal.slice_bounds-of-end
slice_bounds-of-end c = simp length-take (omega arith)

pub of-requires : goal.of-requires
of-requires c = simp length-take (omega arith)
