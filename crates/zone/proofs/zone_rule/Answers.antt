-- The point's range is asked first and the file's cleanness next; then the point, moved up, is the one of the question.
use native.Mathlib.Omega.{arith}
use mathlib.Core.Bool.{true}
use mathlib.Core.Path.{◌≡◌, sym, ap, ◌∙◌}
use mir.Syntax.{w64}
use mir.ValLaws.{to_z-of_z}
use Rattle.schema.specs.Tables.{table_at}
use Rattle.clean.specs.Clean.{clean_of}
use Rattle.zone.specs.Zone.{rules_at}
use Rattle.notation.proofs.Tried.{handed_on}
use Rattle.zone.specs.Answer.{answer, on_map, of_rules, ruling_of}
use Rattle.zone.proofs.Files.{clean-by}
use Rattle.zone.proofs.Raising.{Ranged, ranged, raised_map, raised_point}
use Rattle.zone.proofs.zone_rule.Goals as goal

-- numbers that are passed on by their bits are themselves; so what was asked of the point is whether it is on the map
pub returns-then-not-on_map : goal.returns-then-not-on_map
unfolding ruling_of
returns-then-not-on_map c =
    let a = c.args in
    let asked : c.on_map.result ≡ on_map (record { lon = a.lon; lat = a.lat }) =
    (rw (to_z-of_z w64 a.lon c.ranges.lon, to_z-of_z w64 a.lat c.ranges.lat) at c.on_map.ensures) in
    rw (← asked, c.if-not-on_map.true)

pub raised-requires : goal.raised-requires
raised-requires c =
    let a = c.args in
    let asked : c.on_map.result ≡ on_map (record { lon = a.lon; lat = a.lat }) =
    (rw (to_z-of_z w64 a.lon c.ranges.lon, to_z-of_z w64 a.lat c.ranges.lat) at c.on_map.ensures) in
    let h : Ranged (record { lon = a.lon; lat = a.lat }) = ranged _ (sym asked ∙ c.if-not-on_map.false) in
    rw (to_z-of_z w64 a.lon c.ranges.lon) (omega arith, h.west, h.east)

pub raised-requires-2 : goal.raised-requires-2
raised-requires-2 c =
    let a = c.args in
    let asked : c.on_map.result ≡ on_map (record { lon = a.lon; lat = a.lat }) =
    (rw (to_z-of_z w64 a.lon c.ranges.lon, to_z-of_z w64 a.lat c.ranges.lat) at c.on_map.ensures) in
    let h : Ranged (record { lon = a.lon; lat = a.lat }) = ranged _ (sym asked ∙ c.if-not-on_map.false) in
    rw (to_z-of_z w64 a.lat c.ranges.lat) (omega arith, h.south, h.north)

-- the point, moved up; what is found of the file is found of it by the table
pub rule_in-requires : goal.rule_in-requires
rule_in-requires c =
    let a = c.args in
    let asked : c.on_map.result ≡ on_map (record { lon = a.lon; lat = a.lat }) =
    (rw (to_z-of_z w64 a.lon c.ranges.lon, to_z-of_z w64 a.lat c.ranges.lat) at c.on_map.ensures) in
    let h : Ranged (record { lon = a.lon; lat = a.lat }) = ranged _ (sym asked ∙ c.if-not-on_map.false) in
    let cleaned : c.check_clean.result ≡ clean_of (table_at a.table) 6 a.s.now = c.check_clean.ensures ∙ clean-by a.table c.sheet_of.ensures a.s.now in (
      sym cleaned ∙ c.in_ok-check_clean.was,
      raised_map h _ _ (c.raised.ensures ∙ to_z-of_z w64 a.lon c.ranges.lon) (c.raised-2.ensures ∙ to_z-of_z w64 a.lat c.ranges.lat),
    )

pub returns : goal.returns
unfolding ruling_of
returns c =
    let a = c.args in
    let asked : c.on_map.result ≡ on_map (record { lon = a.lon; lat = a.lat }) =
    (rw (to_z-of_z w64 a.lon c.ranges.lon, to_z-of_z w64 a.lat c.ranges.lat) at c.on_map.ensures) in
    let on_it : on_map (record { lon = a.lon; lat = a.lat }) ≡ true = sym asked ∙ c.if-not-on_map.false in
    let cleaned : c.check_clean.result ≡ clean_of (table_at a.table) 6 a.s.now = c.check_clean.ensures ∙ clean-by a.table c.sheet_of.ensures a.s.now in
    let point = raised_point (ranged _ on_it) _ _ (c.raised.ensures ∙ to_z-of_z w64 a.lon c.ranges.lon) (c.raised-2.ensures ∙ to_z-of_z w64 a.lat c.ranges.lat) in
    rw (on_it, sym cleaned ∙ c.in_ok-check_clean.was) (c.rule_in.ensures ∙ ap (λ q. of_rules (rules_at (table_at a.table) a.s.now q a.type_id.now a.moment)) point)

pub returns-in_err-check_clean : goal.returns-in_err-check_clean
unfolding ruling_of
returns-in_err-check_clean c =
    let a = c.args in
    let asked : c.on_map.result ≡ on_map (record { lon = a.lon; lat = a.lat }) =
    (rw (to_z-of_z w64 a.lon c.ranges.lon, to_z-of_z w64 a.lat c.ranges.lat) at c.on_map.ensures) in
    let on_it : on_map (record { lon = a.lon; lat = a.lat }) ≡ true = sym asked ∙ c.if-not-on_map.false in
    let cleaned : c.check_clean.result ≡ clean_of (table_at a.table) 6 a.s.now = c.check_clean.ensures ∙ clean-by a.table c.sheet_of.ensures a.s.now in
    ap answer (handed_on _ _ c.from_residual.ensures.1) ∙ rw (on_it, sym cleaned ∙ c.in_err-check_clean.was)
