-- Lat is missing, or it is read and what follows it judged: each with its own kinds, and the first of all is the lesser of these.
use mathlib.Core.Path.{ap, ◌∙◌}
use native.Mathlib.Omega.{arith}
use Rattle.walk.proofs.Left.{left_end, left-whole, left-more}
use Rattle.fault.specs.Fault.{lesser}
use Rattle.rings.proofs.Positions.{numbers, finds_position_as, finds_position-one, finds_position-more, broken-map}
use Rattle.rings.proofs.position.judge_behind.Goals as goal

pub returns-in_default : goal.returns-in_default
returns-in_default c =
    let p = c.args.p.now in (
      broken-map _ _ c.broken-in_default.ensures,
      λ x ms k h.
          finds_position-one _ _ x _ k (numbers p ms) _ _ _ _ (ap (numbers p) (left_end h c.pass_item.ensures c.in_default.is))
          c.broken.ensures c.lesser.ensures c.broken-in_default.ensures,
    )

pub returns : goal.returns
returns c =
    let f = c.pass_item.ensures in
    let p = c.args.p.now in let lat = c.read_coordinate-lat.ensures in (
      record { east = omega (arith, c.requires); north = lat.0 },
      λ x ms k h.
          let o = left-more h f c.in-Some.is in
          finds_position_as _ _ _ _ _ _ (c.lesser-3.ensures ∙ ap (lesser _) c.lesser-2.ensures)
          (finds_position-more _ _ x _ k (numbers p ms) _ (numbers p o.rest) _ _ (ap (numbers p) o.is)
          (lat.1 _ (rw c.item_bytes.ensures (left-whole h f c.in-Some.is))) (c.judge_rest-rest.ensures _ o.left)),
    )
