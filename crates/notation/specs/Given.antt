-- A value that need not be there.
use Rattle.std.specs.Prelude.{Bool, true, false, Option, Some, None}

abbrev pub given : {A : Type 0} → Option A → Bool
given None = false
given (Some x) = true
