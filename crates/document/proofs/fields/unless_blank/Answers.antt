-- By whether the value is the text with nothing in it.
use mathlib.Core.Path.{ap}
use native.Mathlib.Omega.{arith}
use lib.ListN.{length}
use Rattle.document.proofs.fields.unless_blank.Goals as goal

pub returns-then-is_blank_text : goal.returns-then-is_blank_text
returns-then-is_blank_text c =
    (λ x w. rw (← c.is_blank_text.ensures x w, c.if-is_blank_text.true) c.no_bytes.ensures, omega (arith, ap length c.no_bytes.ensures))

pub returns : goal.returns
returns c = (λ x w. rw (← c.is_blank_text.ensures x w, c.if-is_blank_text.false), omega arith)
