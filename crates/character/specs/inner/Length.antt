-- How far a string goes on past what stands at a place.
use Rattle.std.specs.Prelude.{ℕ, ◌+◌, Option, Some, None}
use Rattle.lexeme.specs.declared.Next.{Next}
use Rattle.lexeme.specs.declared.Next.TheVariants.{Quote, Character, Fault}

-- the bytes that a character takes as it is spelled; none of the closing quote and of a fault
abbrev pub taken : Next → Option ℕ
taken Quote = None
taken (Character x) = Some (1 + x.more)
taken (Fault kind n) = None
