-- Each part is the digit of its field: the number, less the bits of the fields below, and of that the field's own.
use Rattle.radix.specs.Radix.{digits, weight}
use Rattle.word.proofs.Word.parts.Goals as goal

pub returns : goal.returns
unfolding digits weight
returns c = cc
