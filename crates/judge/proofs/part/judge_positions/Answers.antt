-- What is no array has the wrong type; an array is judged by its positions.
use mathlib.Core.Path.{◌∙◌}
use Prim.Native.Nat.{◌≤◌}
use native.Mathlib.Omega.{arith}
use lib.ListN.{length, take, length-take}
use Rattle.limits.specs.Ceilings.{file_bytes}
use Rattle.walk.proofs.Fronts.{skip-ends, ends-cut}
use Rattle.judge.proofs.Numbered.{positions-are, no-positions}
use Rattle.judge.proofs.part.judge_positions.Goals as goal

pub returns-then-brackets-ne-ARRAY : goal.returns-then-brackets-ne-ARRAY
returns-then-brackets-ne-ARRAY c =
    let a = c.args in
    (c.passed.ensures.0, no-positions a.place a.field a.p.now c.passed.result.end c.brackets.ensures c.if-brackets-ne-ARRAY.true (c.passed.ensures.1 ∙ c.broken.ensures))

pub returns : goal.returns
returns c =
    let a = c.args in (
      skip-ends a.p.now _ c.skip_value-end.ensures,
      positions-are a.place a.field a.p.now c.skip_value-end.result c.brackets.ensures c.if-brackets-ne-ARRAY.false c.judge_coordinates.ensures,
    )

pub slice_bounds-judge_coordinates-end : goal.slice_bounds-judge_coordinates-end
slice_bounds-judge_coordinates-end c =
    let p = c.args.p.now in
    ends-cut p c.skip_value-end.result (skip-ends p _ c.skip_value-end.ensures)

pub judge_coordinates-requires : goal.judge_coordinates-requires
judge_coordinates-requires c =
    let p = c.args.p.now in
    let h : length (take c.skip_value-end.result p) ≤ file_bytes = omega (arith, c.requires, length-take c.skip_value-end.result p) in h
