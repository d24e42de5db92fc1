-- `pass_value` skips the value: where nothing is skipped there is no member.
use native.Mathlib.Omega.{arith}
use Rattle.walk.proofs.Passing.{member_unpassed, member_passed}
use Rattle.walk.proofs.pass_value.Goals as goal

pub returns-then-value_end-n : goal.returns-then-value_end-n
returns-then-value_end-n c at f = member_unpassed _ _ _ c.skip_value-value_end.ensures at f c.if-value_end-n.true

pub returns : goal.returns
returns c at f =
    member_passed _ _ _ c.skip_value-value_end.ensures at f (omega arith) _ c.next_place.ensures
