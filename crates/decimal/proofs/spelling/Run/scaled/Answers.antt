-- Each turn makes up for one digit that the run lacks; the value stays below 10 ^ n, and n at most eighteen.
use mathlib.Core.Path.{refl, ◌∙◌}
use Prim.Native.Nat.{◌≤◌, ◌<◌, ◌^◌}
use native.Mathlib.Omega.{arith}
use Rattle.radix.proofs.Digits.{one_more_lem, at_most}
use Rattle.decimal.proofs.Spelled.{scale_next, scale_end}
use Rattle.decimal.proofs.spelling.Run.scaled.Goals as goal

pub overflow_mul-v : goal.overflow_mul-v
overflow_mul-v c =
    let l = c.loop in
    let j : l.counter ≤ 17 = omega arith in
    let h : l.v < 10 ^ 17 = at_most 10 (omega arith) j l.invariant.1 in
    omega arith

pub loop-preserved : goal.loop-preserved
loop-preserved c =
    let l = c.loop in
    let z : 0 < 10 = omega arith in
    (omega arith, omega (arith, one_more_lem 10 l.counter l.invariant.1 z), scale_next l.v l.counter c.loop-test.true ∙ l.invariant.2)

pub returns : goal.returns
returns c = let l = c.loop in scale_end l.v l.counter c.loop-test.false ∙ l.invariant.2

pub loop-init : goal.loop-init
loop-init c = (c.requires.0, c.requires.1, refl)
