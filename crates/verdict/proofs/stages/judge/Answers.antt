-- `judge` goes from stage A to the later ones, and the first broken rule of a set may be looked for so.
use mathlib.Core.Path.{◌≡◌, sym, ◌∙◌}
use Prim.Native.Nat.{ℕ}
use native.Mathlib.Omega.{arith}
use Rattle.verdict.specs.inner.Stages.{staged}
use Rattle.notation.proofs.Tried.{handed_on}
use Rattle.verdict.proofs.ByFile.{verdict-staged}
use Rattle.verdict.proofs.stages.judge.Goals as goal

-- stage A is not stage B
pub first_in-requires : goal.first_in-requires
first_in-requires c e = let z : ◌≡◌ {A = ℕ} 0 1 = cc in absurd (omega arith)

pub judge_read-requires : goal.judge_read-requires
judge_read-requires c = sym c.first_in.ensures ∙ c.in_ok-first_in.was

pub returns-in_err-first_in : goal.returns-in_err-first_in
unfolding staged
returns-in_err-first_in c = handed_on _ _ c.from_residual.ensures.1 ∙ rw (verdict-staged, sym c.first_in.ensures ∙ c.in_err-first_in.was)

pub returns : goal.returns
unfolding staged
returns c = rw (verdict-staged, sym c.first_in.ensures ∙ c.in_ok-first_in.was) c.judge_read.ensures
