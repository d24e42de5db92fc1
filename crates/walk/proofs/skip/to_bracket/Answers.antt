-- `to_bracket` passes over what is no bracket: the loop's invariant is that brackets are closed from each place on as they are from the first. It stays at
-- the first place only before what may be a bracket, or where the text is near its end.
use borrow.Author.Tests.{ltb-true, ltb-false}
use Prim.Native.Nat.{ℕ, suc, ◌+◌, ◌≤◌}
use mathlib.Core.Bool.{true}
use mathlib.Core.Path.{◌≡◌, sym, ap, ◌∙◌}
use native.Mathlib.Omega.{arith}
use lib.Dec.{ltb}
use lib.ListN.{drop}
use Rattle.notation.proofs.Booleans.{by_test, true-false}
use Rattle.lexeme.specs.Character.{byte}
use Rattle.walk.specs.inner.Mark.{bracket_like, bracket_mark}
use Rattle.walk.specs.inner.Skip.{outside, enclosed}
use Rattle.walk.proofs.Ends.{ended, brackets-string}
use Rattle.walk.proofs.Runs.{run_within, run_ends, run_passed, bracket_passes, mark_like}
use Rattle.walk.proofs.skip.to_bracket.Goals as goal

pub loop-i-preserved-then-n-eq8 : goal.loop-i-preserved-then-n-eq8
loop-i-preserved-then-n-eq8 c =
    let s = c.args.s.now in let i = c.loop-i.i in (
      omega arith,
      λ n.
          c.loop-i.invariant.1 n
          ∙ run_passed bracket_mark s i _ (omega arith) c.before_bracket_mark-n.ensures (enclosed (suc n) outside) (bracket_passes n)
          ∙ ap (λ k. enclosed (suc n) outside (drop (i + k) s)) c.if-n-eq8.true,
    )

-- a mark
pub overflow_add-j : goal.overflow_add-j
overflow_add-j c = omega (arith, run_within bracket_mark c.args.s.now c.loop-i.i _ (omega arith) c.before_bracket_mark-n.ensures)

pub bounds-s-j : goal.bounds-s-j
bounds-s-j c = omega (arith, run_within bracket_mark c.args.s.now c.loop-i.i _ (omega arith) c.before_bracket_mark-n.ensures)

pub returns-then-s-j-ne34 : goal.returns-then-s-j-ne34
returns-then-s-j-ne34 c =
    let a = c.args in let s = a.s.now in let i = c.loop-i.i in let m = c.before_bracket_mark-n.result in let j = i + m in
    let h : m ≤ 8 = run_within bracket_mark s i m (omega arith) c.before_bracket_mark-n.ensures in
    let mark : bracket_like (byte s j) ≡ true =
    mark_like (byte s j) (run_ends bracket_mark s i m (omega arith) c.before_bracket_mark-n.ensures (omega arith)) c.if-s-j-ne34.true in
    record {
      same =
          λ n.
          c.loop-i.invariant.1 n
          ∙ run_passed bracket_mark s i m (omega arith) c.before_bracket_mark-n.ensures (enclosed (suc n) outside) (bracket_passes n);
      from = omega arith;
      later = λ k l.
          by_test (ltb a.at j) (λ t. ltb-true a.at j t)
          (λ t. let e : j ≡ a.at = omega (arith, ltb-false a.at j t) in true-false (ap (λ (i : ℕ). bracket_like (byte s i)) (sym e) ∙ mark) l);
    }

-- a string
pub loop-i-smaller : goal.loop-i-smaller
loop-i-smaller c =
    let s = c.args.s.now in let m = c.before_bracket_mark-n.result in let j = c.loop-i.i + m in
    let h : m ≤ 8 = run_within bracket_mark s c.loop-i.i m (omega arith) c.before_bracket_mark-n.ensures in
    omega (arith, (ended s (j + 1) c.string_end-i.result c.string_end-i.ensures).from (omega arith))

pub loop-i-preserved : goal.loop-i-preserved
loop-i-preserved c =
    let s = c.args.s.now in let i = c.loop-i.i in let m = c.before_bracket_mark-n.result in let j = i + m in
    let h : m ≤ 8 = run_within bracket_mark s i m (omega arith) c.before_bracket_mark-n.ensures in
    let e = ended s (j + 1) c.string_end-i.result c.string_end-i.ensures in (
      omega (arith, e.from (omega arith)),
      λ n.
          c.loop-i.invariant.1 n
          ∙ run_passed bracket_mark s i m (omega arith) c.before_bracket_mark-n.ensures (enclosed (suc n) outside) (bracket_passes n)
          ∙ brackets-string s j n (omega arith) _ c.if-s-j-ne34.false e,
    )
