-- `judge_docks` joins what field 30 breaks, and what field 32 breaks by the station that 30 names.
use Rattle.cross.proofs.Joined.{both, breaks}
use Rattle.cross.proofs.statuses.judge_docks.Goals as goal

pub returns : goal.returns
returns c =
    let place = c.args.place in
    both _ _ c.lesser.ensures (breaks place 30 c.refers_in.result c.broken-a.ensures c.refers_in.ensures)
    (breaks place 32 c.demanded_in.result c.broken-b.ensures c.demanded_in.ensures)
