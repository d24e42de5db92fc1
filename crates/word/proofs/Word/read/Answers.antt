-- A word has just its form's size, and then its number decides.
use borrow.Author.Tests.{eq-eqb, ne_eqb}
use Rattle.radix.specs.Fields.{unpacked}
use Rattle.word.specs.Word.{read, read_word}
use Rattle.word.proofs.Word.read.Goals as goal

pub returns-then-bytes-ne-SIZE : goal.returns-then-bytes-ne-SIZE
unfolding read_word read
returns-then-bytes-ne-SIZE c = rw (ne_eqb _ _ c.if-bytes-ne-SIZE.true)

pub returns : goal.returns
unfolding read_word read unpacked
returns c = rw (eq-eqb _ _ c.if-bytes-ne-SIZE.false, ← c.bytes_number.ensures) c.judge.ensures
