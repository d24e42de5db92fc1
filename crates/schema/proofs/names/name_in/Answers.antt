-- The name of the line's number is the line's.
use mathlib.Core.Path.{ap, ◌∙◌}
use Rattle.schema.specs.Tables.{sheets}
use Rattle.schema.specs.inner.Names.{name_by}
use Rattle.schema.specs.inner.Line.{each_name}
use Rattle.schema.proofs.Found.{name-by-number}
use Rattle.schema.proofs.names.name_in.Goals as goal

pub returns : goal.returns
returns c =
    c.name_by.ensures ∙ ap (name_by (each_name sheets)) c.number_at.ensures ∙ name-by-number c.args.i
