-- `string_end` ends past the closing mark, where nine bytes have it: the bytes before the first mark are passed at once. Else it goes on from there.
use borrow.Author.Tests.{ltb-false}
use Prim.Native.Nat.{◌+◌, ◌-◌, ◌≤◌}
use mathlib.Core.Bool.{false}
use mathlib.Core.Path.{sym, ap, ◌∙◌}
use native.Mathlib.Omega.{arith}
use lib.ListN.{length}
use Rattle.lexeme.proofs.Rests.{place_at}
use Rattle.walk.specs.inner.Mark.{string_mark}
use Rattle.walk.specs.inner.Skip.{quoted}
use Rattle.walk.proofs.Ends.{string-closes}
use Rattle.walk.proofs.Runs.{run_within, run_passed, string_passes}
use Rattle.walk.proofs.skip.string_end.Goals as goal

pub returns-then-s-at-eq34 : goal.returns-then-s-at-eq34
returns-then-s-at-eq34 c =
    let s = c.args.s.now in let at = c.args.at in
    let far : at + 9 ≤ length s = ltb-false _ _ (sym c.lacks.ensures ∙ c.if-lacks.false) in
    rw (string-closes s at (omega arith) c.if-s-at-eq34.true) (place_at s (at + 1) (omega arith))

-- the bytes before the first mark
pub overflow_add-j : goal.overflow_add-j
overflow_add-j c =
    let s = c.args.s.now in let at = c.args.at in
    let far : at + 9 ≤ length s = ltb-false _ _ (sym c.lacks.ensures ∙ c.if-lacks.false) in
    omega (arith, run_within string_mark s at _ (omega arith) c.before_string_mark.ensures)

pub bounds-s-j : goal.bounds-s-j
bounds-s-j c =
    let s = c.args.s.now in let at = c.args.at in
    let far : at + 9 ≤ length s = ltb-false _ _ (sym c.lacks.ensures ∙ c.if-lacks.false) in
    omega (arith, run_within string_mark s at _ (omega arith) c.before_string_mark.ensures)

pub returns-then-s-j-eq34 : goal.returns-then-s-j-eq34
returns-then-s-j-eq34 c =
    let s = c.args.s.now in let at = c.args.at in let n = c.before_string_mark.result in
    let far : at + 9 ≤ length s = ltb-false _ _ (sym c.lacks.ensures ∙ c.if-lacks.false) in
    let h : n ≤ 8 = run_within string_mark s at n (omega arith) c.before_string_mark.ensures in
    rw (run_passed string_mark s at n (omega arith) c.before_string_mark.ensures (quoted false) string_passes
    ∙ string-closes s (at + n) (omega arith) c.if-s-j-eq34.true) (place_at s (at + n + 1) (omega arith))

pub returns : goal.returns
returns c =
    let s = c.args.s.now in let at = c.args.at in
    let far : at + 9 ≤ length s = ltb-false _ _ (sym c.lacks.ensures ∙ c.if-lacks.false) in
    c.string_end_wordwise-2.ensures
    ∙ ap (λ l. length s - length l) (sym (run_passed string_mark s at _ (omega arith) c.before_string_mark.ensures (quoted false) string_passes))
