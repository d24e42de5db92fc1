-- The records that were passed begin as the first one does; each turn leaves the front as long as it is or makes it shorter.
use mathlib.Core.Path.{refl, sym, ap, ◌∙◌}
use lib.ListN.{take}
use Rattle.text.specs.Text.{text_of}
use Rattle.sorting.specs.Ids.{id_at}
use Rattle.sorting.proofs.Making.{like_start, like_next, like_all}
use native.Mathlib.Omega.{arith}
use Rattle.sorting.proofs.keys.common_front.Goals as goal

pub loop-k-init : goal.loop-k-init
loop-k-init c = let q = c.args in (omega arith, like_start (id_at q.p.now q.places.now) 255)

pub loop-k-preserved : goal.loop-k-preserved
loop-k-preserved c =
    let q = c.args in let w = c.loop-k in let less = c.shared-skip.result in (
      omega (arith, c.shared-skip.ensures.0, w.invariant.0),
      like_next (id_at q.p.now q.places.now) w.k w.skip less w.invariant.1 c.shared-skip.ensures.0
          (ap (λ x. take less (text_of x)) (sym c.id_from.ensures) ∙ c.shared-skip.ensures.1 ∙ ap (λ x. take less (text_of x)) c.id_from-first.ensures),
    )

pub returns : goal.returns
returns c =
    let q = c.args in let w = c.loop-k in (like_all (id_at q.p.now q.places.now) q.n w.k w.skip w.invariant.1 c.loop-k-test.false, w.invariant.0)

pub returns-then-skip-eq0 : goal.returns-then-skip-eq0
returns-then-skip-eq0 c = (λ i j g h. refl, omega arith)
