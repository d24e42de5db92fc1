-- `is_blank_text` goes by the length and the first byte of a whole value.
use borrow.Author.Tests.{ne_eqb}
use Rattle.slots.proofs.Blanks.{long-blank, short-blank}
use Rattle.slots.proofs.is_blank_text.Goals as goal

pub returns-then-p-eq-BLANK_BYTES : goal.returns-then-p-eq-BLANK_BYTES
returns-then-p-eq-BLANK_BYTES c x w = short-blank x w c.if-p-eq-BLANK_BYTES.true

pub returns-else-p-eq-BLANK_BYTES : goal.returns-else-p-eq-BLANK_BYTES
returns-else-p-eq-BLANK_BYTES c x w =
    rw (ne_eqb _ _ c.if-p-eq-BLANK_BYTES.false) (long-blank x w c.if-p-eq-BLANK_BYTES.false)
