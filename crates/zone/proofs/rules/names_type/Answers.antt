-- `names_type` looks for the type among the ids. The loop's invariant: it is among those that are left just where it is among all.
use mathlib.Core.Path.{◌≡◌, sym, ap, ◌∙◌}
use Rattle.walk.specs.inner.Along.{AlongItems}
use Rattle.walk.proofs.Left.{nearer, left-whole, comes_start, comes_end, comes_here, comes_more}
use Rattle.document.specs.inner.Items.{picked}
use Rattle.document.specs.Document.{text_in}
use Rattle.document.specs.inner.Values.{text_by, is_id}
use Rattle.zone.specs.inner.Values.{id_shape}
use Rattle.zone.proofs.Fields.{id_text}
use Rattle.zone.proofs.Loops.{ids, any_none, any_here, any-later}
use Rattle.zone.proofs.rules.names_type.Goals as goal

pub loop-m-init : goal.loop-m-init
loop-m-init c = comes_start (ids c.args.p.now c.args.type_id.now) (λ h. AlongItems.start (c.requires.whole h).1)

pub returns : goal.returns
returns c = sym (any_none _) ∙ comes_end c.loop-m.invariant c.pass_item.ensures c.in_default.is

-- what was asked of an item
pub returns-then-is_id : goal.returns-then-is_id
returns-then-is_id c =
    let a = c.args in
    let asked : c.is_id.result ≡ is_id a.type_id.now (text_in (picked id_shape a.p.now c.in-Some.m)) =
    c.is_id.ensures ∙ ap (λ q. is_id a.type_id.now (text_by q)) c.item_bytes.ensures
    ∙ id_text (left-whole c.loop-m.invariant.left c.pass_item.ensures c.in-Some.is) a.type_id.now in
    comes_here c.loop-m.invariant c.pass_item.ensures c.in-Some.is (λ l. any_here _ _ _ (sym asked ∙ c.if-is_id.true))

pub loop-m-smaller : goal.loop-m-smaller
loop-m-smaller c = nearer c.pass_item.ensures c.in-Some.is

pub loop-m-preserved : goal.loop-m-preserved
loop-m-preserved c =
    let a = c.args in
    let asked : c.is_id.result ≡ is_id a.type_id.now (text_in (picked id_shape a.p.now c.in-Some.m)) =
    c.is_id.ensures ∙ ap (λ q. is_id a.type_id.now (text_by q)) c.item_bytes.ensures
    ∙ id_text (left-whole c.loop-m.invariant.left c.pass_item.ensures c.in-Some.is) a.type_id.now in
    comes_more c.loop-m.invariant c.pass_item.ensures c.in-Some.is _ (λ l. any-later _ _ _ (sym asked ∙ c.if-is_id.false))
