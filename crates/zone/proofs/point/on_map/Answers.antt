-- Test by test, as the definition has them.
use lib.IntN.{pos, negsuc}
use mir.Syntax.{w64}
use mir.ValLaws.{to_z-of_z}
use Rattle.zone.specs.Answer.{on_map}
use Rattle.zone.proofs.Raising.{not-below}
use Rattle.zone.proofs.point.on_map.Goals as goal

pub returns-then-lon-ltminus180000000 : goal.returns-then-lon-ltminus180000000
unfolding on_map
returns-then-lon-ltminus180000000 c =
    let x = to_z-of_z w64 c.args.lon c.ranges.lon in
    rw (not-below c.args.lon (negsuc 179_999_999) (rw x at c.if-lon-ltminus180000000.true))

pub returns-then-lon-gt180000000 : goal.returns-then-lon-gt180000000
unfolding on_map
returns-then-lon-gt180000000 c =
    let x = to_z-of_z w64 c.args.lon c.ranges.lon in
    rw (not-below c.args.lon (negsuc 179_999_999) (rw x at c.if-lon-ltminus180000000.false), not-below (pos 180_000_000) c.args.lon (rw x at c.if-lon-gt180000000.true))

pub returns-then-lat-ltminus90000000 : goal.returns-then-lat-ltminus90000000
unfolding on_map
returns-then-lat-ltminus90000000 c =
    let x = to_z-of_z w64 c.args.lon c.ranges.lon in
    let y = to_z-of_z w64 c.args.lat c.ranges.lat in
    rw (
      not-below c.args.lon (negsuc 179_999_999) (rw x at c.if-lon-ltminus180000000.false),
      not-below (pos 180_000_000) c.args.lon (rw x at c.if-lon-gt180000000.false),
      not-below c.args.lat (negsuc 89_999_999) (rw y at c.if-lat-ltminus90000000.true),
    )

pub returns : goal.returns
unfolding on_map
returns c =
    let x = to_z-of_z w64 c.args.lon c.ranges.lon in
    let y = to_z-of_z w64 c.args.lat c.ranges.lat in
    rw (
      not-below c.args.lon (negsuc 179_999_999) (rw x at c.if-lon-ltminus180000000.false),
      not-below (pos 180_000_000) c.args.lon (rw x at c.if-lon-gt180000000.false),
      not-below c.args.lat (negsuc 89_999_999) (rw y at c.if-lat-ltminus90000000.false),
      y,
    )
