-- A digit is at least 0x30.
use Rattle.decimal.proofs.Runs.{digit-range}
use Rattle.decimal.proofs.spelling.digit_value.Goals as goal

pub overflow_sub-b : goal.overflow_sub-b
overflow_sub-b c = (digit-range c.args.b c.requires).0
