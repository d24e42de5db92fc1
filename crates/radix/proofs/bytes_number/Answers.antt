-- The loop keeps the number of the bytes that it passed, which is below 256 ^ i and so never leaves 64 bits: there are at most eight
-- bytes. What is left then decides the whole (`Bytes`).
use mathlib.Core.Path.{sym, ◌∙◌}
use Prim.Native.Nat.{◌≤◌, ◌<◌, ◌^◌}
use native.Mathlib.Omega.{arith}
use Rattle.radix.proofs.Bytes.{number-start, number-next, number-end}
use Rattle.radix.proofs.Digits.{one_more_lem, at_most}
use Rattle.radix.proofs.bytes_number.Goals as goal

pub overflow_mul-n : goal.overflow_mul-n
overflow_mul-n c =
    let l = c.loop-b in
    let j : l.b-index ≤ 7 = omega arith in
    let h : l.n < 256 ^ 7 = at_most 256 (omega arith) j l.invariant.0 in
    omega arith

pub loop-b-init : goal.loop-b-init
loop-b-init c = (omega arith, number-start _)

pub loop-b-preserved : goal.loop-b-preserved
loop-b-preserved c =
    let l = c.loop-b in (
      one_more_lem 256 l.b-index l.invariant.0 (omega (arith, c.type_inv.s l.b-index)),
      rw (c.from.ensures, ← number-next _ l.b-index l.n c.loop-b-test.true) l.invariant.1,
    )

pub returns : goal.returns
returns c =
    let l = c.loop-b in
    sym (number-end _ l.b-index l.n c.loop-b-test.false) ∙ l.invariant.1
