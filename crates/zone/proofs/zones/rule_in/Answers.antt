-- The zones stand where the code looks for them, each without a fault.
use mathlib.Core.Path.{ap, ◌∙◌}
use Rattle.geometry.specs.inner.Shifted.{point}
use Rattle.clean.proofs.Cleans.{Sound}
use Rattle.zone.specs.Answer.{answer}
use Rattle.zone.specs.inner.Values.{ruling_by}
use Rattle.zone.proofs.Files.{none-absent, zones-sound, zones-clean, file-answer}
use Rattle.zone.proofs.zones.rule_in.Goals as goal

pub returns-then-s-eq0 : goal.returns-then-s-eq0
returns-then-s-eq0 c = let a = c.args in none-absent (point a.q) a.type_id.now a.moment a.table a.s.now c.if-s-eq0.true

-- a file that is there and clean is sound
pub given_by_zones-requires : goal.given_by_zones-requires
given_by_zones-requires c =
    let a = c.args in
    let sound : Sound c.sheet_of.result a.s.now = zones-sound a.table c.sheet_of.ensures a.s.now c.if-s-eq0.false c.requires.0 in
    (zones-clean a.table c.sheet_of.ensures sound c.records_from-records.ensures, c.requires.1)

pub returns : goal.returns
returns c =
    let a = c.args in
    let sound : Sound c.sheet_of.result a.s.now = zones-sound a.table c.sheet_of.ensures a.s.now c.if-s-eq0.false c.requires.0 in
    ap answer (c.ruling.ensures ∙ ap ruling_by c.given_by_zones.ensures)
    ∙ file-answer a.table c.sheet_of.ensures sound c.records_from-records.ensures (point a.q) a.type_id.now a.moment
