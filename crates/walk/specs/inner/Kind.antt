-- The kind that a value's first byte says.
use Rattle.std.specs.Prelude.{List, ℕ, get_or}
use Rattle.lexeme.specs.inner.Start.{Start, start}
use Rattle.walk.specs.declared.ValueKind.{ValueKind}
use Rattle.walk.specs.declared.ValueKind.TheVariants as kind

abbrev pub kind_from : Start → ValueKind
kind_from Start.string = kind.String
kind_from Start.number = kind.Number
kind_from Start.array = kind.Array
kind_from Start.object = kind.Object
kind_from Start.letter_t = kind.Boolean
kind_from Start.letter_f = kind.Boolean
kind_from Start.letter_n = kind.Null
kind_from Start.other = kind.Null

unfoldable pub kind_at : List ℕ → ValueKind
kind_at p = kind_from (start (get_or p 0 0))
