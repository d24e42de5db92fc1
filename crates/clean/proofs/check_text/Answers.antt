-- `check_text` tells what the reader finds. The offset fits, since a file that is read is no longer than the ceiling.
use mathlib.Core.Path.{sym, ap, ◌∙◌}
use native.Mathlib.Omega.{arith}
use Rattle.clean.specs.Clean.{syntax_outcome}
use Rattle.clean.proofs.Judged.{offset_fits}
use Rattle.clean.proofs.check_text.Goals as goal
use Rattle.std.specs.Prelude.{Err}

pub overflow_cast-e : goal.overflow_cast-e
overflow_cast-e c = let o = offset_fits _ c.in-Err.e.kind c.in-Err.e.offset (sym c.check_syntax.ensures ∙ c.in-Err.is) in omega arith

pub returns-in-Ok : goal.returns-in-Ok
returns-in-Ok c = rw (sym c.check_syntax.ensures ∙ c.in-Ok.is)

pub returns-in-Err : goal.returns-in-Err
returns-in-Err c =
    ap Err c.syntax_parts.ensures ∙ ap (syntax_outcome c.args.file) (sym c.in-Err.is ∙ c.check_syntax.ensures)
