-- A form's 0 admits the digits.
use native.Mathlib.Omega.{arith}
use Rattle.std.proofs.lemmas.Grind.{common_steps}
use Rattle.lexeme.specs.Character.{within}
use Rattle.lexeme.specs.Numbers.{digit}
use Rattle.calendar.specs.Written.{admits}
use Rattle.calendar.proofs.written.is_admitted.Goals as goal

pub returns-then-form-eq48 : goal.returns-then-form-eq48
unfolding admits digit within
returns-then-form-eq48 c = grind (arith, common_steps)

pub returns-else-form-eq48 : goal.returns-else-form-eq48
unfolding admits
returns-else-form-eq48 c = grind (arith, common_steps)
