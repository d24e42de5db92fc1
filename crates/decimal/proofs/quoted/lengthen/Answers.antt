-- A run of fewer than eighteen digits is below 10 ^ 17, so one digit more fits.
use Prim.Native.Nat.{◌≤◌, ◌<◌, ◌^◌, min}
use native.Mathlib.Omega.{arith}
use Rattle.radix.proofs.Digits.{at_most}
use Rattle.decimal.proofs.Runs.{digit-range}
use Rattle.decimal.proofs.Progress.{longer-more, longer-full}
use Rattle.decimal.proofs.quoted.lengthen.Goals as goal

pub overflow_mul-result : goal.overflow_mul-result
overflow_mul-result c =
    let j : min c.args.run.count c.args.most ≤ 17 = omega (arith, c.if-run-most.true, c.requires.0) in
    let h : c.args.run.value < 10 ^ 17 = at_most 10 (omega arith) j c.requires.2 in
    omega arith

pub overflow_add-result : goal.overflow_add-result
overflow_add-result c =
    let j : min c.args.run.count c.args.most ≤ 17 = omega (arith, c.if-run-most.true, c.requires.0) in
    let h : c.args.run.value < 10 ^ 17 = at_most 10 (omega arith) j c.requires.2 in
    omega (arith, digit-range c.args.b c.requires.1)

pub returns-then-run-most : goal.returns-then-run-most
returns-then-run-most c =
    rw c.digit_value.ensures (longer-more c.args.most c.args.run c.args.b c.if-run-most.true)

pub returns-else-run-most : goal.returns-else-run-most
returns-else-run-most c = longer-full c.args.most c.args.run c.args.b c.if-run-most.false
