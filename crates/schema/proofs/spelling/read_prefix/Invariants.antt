use lib.ListN.{drop}
use Rattle.text.specs.Text.{text_of}
use Rattle.text.proofs.Filling.{Filled}
use Rattle.schema.proofs.spelling.read_prefix.Given as goal

abbrev pub invariant-loop-count : goal.invariant-loop-count
invariant-loop-count l = Filled (text_of l.spelled) l.bytes (text_of (drop l.i l.spelled)) l.count
