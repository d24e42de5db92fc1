-- `judge_position` joins what fields 41 and 42 break.
use lib.ListN.{length}
use Rattle.cross.proofs.Joined.{both, breaks}
use Rattle.cross.proofs.Fielded.{none-there}
use Rattle.cross.proofs.bikes.judge_position.Goals as goal

pub returns : goal.returns
returns c =
    rw (← none-there (length c.args.station.now))
    (both _ _ c.lesser.ensures (breaks _ 41 c.demanded.result c.broken-a.ensures c.demanded.ensures)
    (breaks _ 42 c.demanded-2.result c.broken-b.ensures c.demanded-2.ensures))
