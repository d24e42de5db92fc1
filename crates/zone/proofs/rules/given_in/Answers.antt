-- Each member is read by itself.
use Rattle.zone.specs.inner.Values.{given_by}
use Rattle.zone.proofs.rules.given_in.Goals as goal

pub returns : goal.returns
unfolding given_by
returns c =
    let w = c.requires in
    rw (
      c.flag_in-3.ensures,
      c.member-4.ensures _ w,
      c.speed_in.ensures,
      c.member-3.ensures _ w,
      c.flag_in-2.ensures,
      c.member-2.ensures _ w,
      c.flag_in.ensures,
      c.member.ensures _ w,
    )
