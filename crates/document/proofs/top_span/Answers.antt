-- The value stands behind the blanks, and ends where nothing but blanks follows; without a byte there is none.
use native.Mathlib.Omega.{arith}
use Rattle.document.proofs.Along.{top-there, top-absent}
use Rattle.document.proofs.top_span.Goals as goal

pub returns-then-s-from : goal.returns-then-s-from
returns-then-s-from c h = top-absent _ _ c.skip_blanks-from.ensures h c.if-s-from.true

pub returns : goal.returns
returns c h = top-there _ _ c.skip_blanks-from.ensures _ h (omega arith) c.last_end.ensures
