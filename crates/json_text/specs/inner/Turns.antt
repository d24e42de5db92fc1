-- How reading elements goes on, as the code answers it: by places of the whole text s.
use Rattle.std.specs.Prelude.{ℕ, ◌-◌, List, length, drop, Result, Ok, Err}
use Rattle.word.specs.Kinds.{not_json}
use Rattle.lexeme.specs.declared.SyntaxError.{SyntaxError}
use Rattle.lexeme.specs.Read.{wrong_at}
use Rattle.json_text.specs.declared.element.Turn.{Turn}
use Rattle.json_text.specs.declared.element.Turn.TheVariants.{Closed, Next}
use Rattle.json_text.specs.Text.{After, after}
use Rattle.json_text.specs.Text.After.{closed, more, wrong}

unfoldable pub turn_at : List ℕ → After → Result Turn SyntaxError
turn_at s (closed q) = Ok (Closed (length s - length q))
turn_at s (more q) = Ok (Next (length s - length q))
turn_at s (wrong q) = wrong_at not_json (length s - length q)

-- after an element whose reading ended so
unfoldable pub turn : List ℕ → ℕ → Result ℕ SyntaxError → Result Turn SyntaxError
turn s close (Err w) = Err w
turn s close (Ok offset) = turn_at s (after close (drop offset s))
