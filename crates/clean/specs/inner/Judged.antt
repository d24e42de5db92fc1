-- A file of which stage A finds this, by the rules on coordinates that hold.
use Rattle.std.specs.Prelude.{List, ℕ, Result}
use Rattle.schema.specs.Shape.{Shape}
use Rattle.rings.specs.Rings.{coordinates_found}
use Rattle.clean.specs.Clean.{judged_by}
use Rattle.lexeme.specs.declared.SyntaxError.{SyntaxError}
use Rattle.fault.specs.Outcome.{Outcome}

abbrev pub judged : Shape → (file : ℕ) → List ℕ → Result (Unit {0}) SyntaxError → Outcome
judged = judged_by coordinates_found
