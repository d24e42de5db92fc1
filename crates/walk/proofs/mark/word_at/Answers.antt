-- `word_at` sums what its bytes count for.
use native.Mathlib.Omega.{arith}
use Rattle.walk.proofs.Marks.{eight-at}
use Rattle.walk.proofs.mark.word_at.Goals as goal

pub returns : goal.returns
returns c = let a = c.args in omega (arith, eight-at a.s.now a.at (omega arith), c.from_le_bytes.ensures)
