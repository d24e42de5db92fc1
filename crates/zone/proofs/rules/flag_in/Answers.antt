-- Of a boolean the first letter tells.
use Rattle.zone.proofs.Ways.{flag_missing, flag_empty, flag_some}
use Rattle.zone.proofs.rules.flag_in.Goals as goal

pub returns-then-code_of-ne-BOOLEAN : goal.returns-then-code_of-ne-BOOLEAN
returns-then-code_of-ne-BOOLEAN c = flag_missing _ _ c.code_of.ensures c.if-code_of-ne-BOOLEAN.true

pub returns-then-q-eq0 : goal.returns-then-q-eq0
returns-then-q-eq0 c = flag_empty _ _ c.code_of.ensures c.if-code_of-ne-BOOLEAN.false c.if-q-eq0.true

pub returns : goal.returns
returns c = flag_some _ _ c.code_of.ensures c.if-code_of-ne-BOOLEAN.false
