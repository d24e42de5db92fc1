-- A clear integer is in the form.
use Rattle.quote.proofs.Cleared.{integer-clear}
use Rattle.quote.proofs.Ways.{integer-read}
use Rattle.quote.proofs.numbers.integer_in.Goals as goal

pub returns : goal.returns
returns c = integer-read c.args.q.now (integer-clear c.requires).0 _ c.formed_decimal-d.ensures

pub formed_decimal-d-requires : goal.formed_decimal-d-requires
formed_decimal-d-requires c = let n = integer-clear c.requires in (n.1, n.2)
