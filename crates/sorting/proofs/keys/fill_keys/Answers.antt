-- The keys so far are those of the records passed.
use mathlib.Core.Path.{ap, ◌∙◌}
use lib.ListN.{drop}
use Rattle.text.specs.Text.{text_of}
use Rattle.text.specs.inner.Key.{key_of}
use Rattle.sorting.specs.Ids.{id_at}
use Rattle.sorting.proofs.Making.{written_none, written_next, written_all}
use native.Mathlib.Omega.{arith}
use Rattle.sorting.proofs.keys.fill_keys.Goals as goal

pub loop-k-init : goal.loop-k-init
loop-k-init c = let q = c.args in written_none (id_at q.p.now q.places.now) q.skip q.keys.now

pub loop-k-preserved : goal.loop-k-preserved
loop-k-preserved c =
    let q = c.args in let w = c.loop-k in
    written_next (id_at q.p.now q.places.now) q.skip c.key_of.result w.invariant (omega (arith, w.invariant.long, c.loop-k-test.true)) (c.key_of.ensures
    ∙ ap (λ x. key_of (drop q.skip (text_of x))) c.id_from.ensures)

pub returns : goal.returns
returns c =
    written_all c.args.p.now c.args.places.now c.loop-k.invariant (omega (arith, c.loop-k.invariant.long, c.loop-k-test.false)) c.requires

pub shape_of-keys : goal.shape_of-keys
shape_of-keys c = c.loop-k.invariant.long
