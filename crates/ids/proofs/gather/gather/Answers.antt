-- A column is written over the first one in order, and back to where it was.
use Rattle.ids.proofs.Gathers.{gathered}
use Rattle.ids.proofs.gather.gather.Goals as goal

pub returns : goal.returns
returns c = let x = c.requires in gathered x.0 x.1 c.take_column.ensures c.put_back.ensures

pub take_column-requires : goal.take_column-requires
take_column-requires c = c.requires

pub put_back-requires : goal.put_back-requires
put_back-requires c = let x = c.requires in (x.0.few, x.1, c.take_column.ensures.long)
