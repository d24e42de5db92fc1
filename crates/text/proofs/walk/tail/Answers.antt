-- The bytes move up by one place. Of the four places no more than three are left.
use Rattle.text.proofs.Decoding.{tail_min}
use Rattle.text.proofs.walk.tail.Goals as goal

pub returns : goal.returns
returns c = tail_min c.args.x c.min.ensures c.saturating_sub.ensures
