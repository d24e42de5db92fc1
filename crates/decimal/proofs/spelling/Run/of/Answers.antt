-- The loop keeps the value of the digits that it passed, which is below 10 ^ count and so never leaves 64 bits: there are at most
-- eighteen. What is left then decides the whole run.
use mathlib.Core.Bool.{true}
use mathlib.Core.Path.{◌≡◌, refl, sym, ◌∙◌}
use Prim.Native.Nat.{◌≤◌, ◌<◌, ◌^◌}
use native.Mathlib.Omega.{arith}
use lib.ListN.{length, get_or}
use Rattle.lexeme.specs.Numbers.{digit}
use Rattle.radix.proofs.Digits.{one_more_lem, at_most}
use Rattle.decimal.proofs.Runs.{digit-range, run_end, run_stop, run_next}
use Rattle.decimal.proofs.spelling.Run.of.Goals as goal

pub returns-then-not-is_digit : goal.returns-then-not-is_digit
returns-then-not-is_digit c =
    let s = c.args.s.now in
    run_stop s c.loop-count.count c.loop-count.value c.loop-count-test.true
    (sym c.is_digit.ensures ∙ c.if-not-is_digit.true) ∙ c.loop-count.invariant.2

pub overflow_mul-value : goal.overflow_mul-value
overflow_mul-value c =
    let l = c.loop-count in
    let j : l.count ≤ 17 = omega arith in
    let h : l.value < 10 ^ 17 = at_most 10 (omega arith) j l.invariant.1 in
    omega arith

pub overflow_add-value : goal.overflow_add-value
overflow_add-value c =
    let l = c.loop-count in
    let j : l.count ≤ 17 = omega arith in
    let h : l.value < 10 ^ 17 = at_most 10 (omega arith) j l.invariant.1 in
    omega (arith, digit-range (get_or c.args.s.now l.count 0) (sym c.is_digit.ensures ∙ c.if-not-is_digit.false))

pub loop-count-preserved : goal.loop-count-preserved
loop-count-preserved c =
    let l = c.loop-count in
    let s = c.args.s.now in
    let d : digit (get_or s l.count 0) ≡ true = sym c.is_digit.ensures ∙ c.if-not-is_digit.false in
    let h : c.digit_value.result < 10 = omega (arith, digit-range (get_or s l.count 0) d) in (
      omega arith,
      one_more_lem 10 l.count l.invariant.1 h,
      rw (c.digit_value.ensures, ← run_next s l.count l.value c.loop-count-test.true d) l.invariant.2,
    )

pub returns : goal.returns
returns c =
    let l = c.loop-count in
    let e : l.count ≡ length c.args.s.now = omega arith in
    rw (← e) (run_end c.args.s.now l.count l.value c.loop-count-test.false ∙ l.invariant.2)

pub loop-count-init : goal.loop-count-init
loop-count-init c = (omega arith, omega arith, refl)
