-- The part between the first byte and the last.
use mathlib.Core.Path.{◌∙◌}
use Rattle.document.proofs.ByKind.{inside-none, inside-part}
use Rattle.document.proofs.fields.unquoted.Goals as goal

pub returns-then-q-lt2 : goal.returns-then-q-lt2
returns-then-q-lt2 c = c.no_bytes.ensures ∙ inside-none c.args.q.now c.if-q-lt2.true

pub returns : goal.returns
returns c = c.cut.ensures ∙ inside-part c.args.q.now
