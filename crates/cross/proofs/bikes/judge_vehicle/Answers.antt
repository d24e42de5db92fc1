-- `judge_vehicle` joins what field 45 breaks in two ways, and what field 46 breaks by the type that 45 names.
use Rattle.cross.proofs.Joined.{both, breaks, joined}
use Rattle.cross.proofs.bikes.judge_vehicle.Goals as goal

pub returns : goal.returns
returns c =
    let place = c.args.place in
    both _ _ c.lesser-2.ensures
    (joined place 45 _ _ c.lesser.ensures
    (breaks place 45 c.demanded.result c.broken-a.ensures c.demanded.ensures)
    (breaks place 45 c.refers_in.result c.broken-b.ensures c.refers_in.ensures))
    (breaks place 46 c.demanded_in.result c.broken-c.ensures c.demanded_in.ensures)
