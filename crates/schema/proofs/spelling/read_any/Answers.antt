-- A cursor at the begin reads the text.
use Rattle.schema.proofs.Prefixes.{reads-front}
use Rattle.schema.proofs.spelling.read_any.Goals as goal

pub returns : goal.returns
returns c = reads-front _ c.cursor_at.ensures c.read_front-front.ensures
