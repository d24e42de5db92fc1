-- Lon is missing, or it is read and what follows it judged.
use mathlib.Core.List.{List}
use mathlib.Core.Path.{sym, ap, subst}
use Rattle.walk.specs.inner.Along.{AlongItems}
use Rattle.walk.proofs.Left.{left-start, left_end, left-whole, left-more}
use Rattle.schema.specs.Pick.{Picked}
use Rattle.rings.specs.inner.Parts.{FindsNumbers}
use Rattle.rings.proofs.Positions.{numbers, finds_position-empty, broken-map}
use Rattle.rings.proofs.position.judge_numbers.Goals as goal

pub returns-in_default : goal.returns-in_default
returns-in_default c =
    let p = c.args.p.now in (
      broken-map _ _ c.broken-in_default.ensures,
      λ w.
          let all = left-start (λ h. AlongItems.start (w.whole h).1) in
          finds_position-empty _ _ _ _ _ _ (ap (numbers p) (left_end all c.pass_item.ensures c.in_default.is))
          c.broken.ensures c.broken-in_default.ensures,
    )

pub returns : goal.returns
returns c = (
  c.judge_behind.ensures.0,
  λ w.
      let f = c.pass_item.ensures in
      let a = c.args in let p = a.p.now in
      let all = left-start (λ h. AlongItems.start (w.whole h).1) in
      let o = left-more all f c.in-Some.is in
      subst (λ (l : List Picked). FindsNumbers a.field a.number l c.judge_behind.result) (sym (ap (numbers p) o.is))
      (c.judge_behind.ensures.1 _ o.rest
      (c.read_coordinate-lon.ensures.1 _ (rw c.item_bytes.ensures (left-whole all f c.in-Some.is))) o.left),
)
