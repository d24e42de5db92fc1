-- The fields go in one behind the other, as the number of digits is defined.
use Rattle.radix.specs.Radix.{number, number_from}
use Rattle.word.proofs.Word.number.Goals as goal

pub returns : goal.returns
unfolding number number_from
returns c = cc
