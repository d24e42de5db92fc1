-- What is left of the segments decides what all come to.
use Rattle.fare.proofs.Charging.{charging-start, charging-end, charging_payable, charging-more}
use Rattle.fare.proofs.Sum.with_all.Goals as goal

pub loop-s-init : goal.loop-s-init
loop-s-init c = charging-start c.requires

pub with_charge-sum-requires : goal.with_charge-sum-requires
with_charge-sum-requires c = charging_payable c.loop-s.invariant c.requires _ c.loop-s-test.true

pub loop-s-preserved : goal.loop-s-preserved
loop-s-preserved c = rw c.with_charge-sum.ensures (charging-more c.loop-s.invariant c.requires _ c.loop-s-test.true)

pub returns : goal.returns
returns c = rw (c.is_past.ensures, charging-end c.loop-s.invariant c.loop-s-test.false)
