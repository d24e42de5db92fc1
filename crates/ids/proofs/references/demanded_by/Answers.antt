-- Of a field that is given nothing is demanded, whatever the record is.
use mathlib.Core.Bool.{Bool, true, false}
use mathlib.Core.List.{List, []}
use mathlib.Core.Path.{◌≡◌, refl, sym, ap, ◌∙◌}
use Prim.Native.Nat.{ℕ, ◌<◌}
use lib.ListN.{length}
use borrow.Author.Tests.{lt-ltb}
use Rattle.schema.specs.Records.{record_shape}
use Rattle.document.specs.inner.Values.{text_by, there_by}
use Rattle.document.specs.inner.Items.{picked_items}
use Rattle.ids.specs.inner.Ids.{id_field}
use Rattle.ids.specs.References.{named, demanded}
use Rattle.ids.specs.inner.Known.{test_of}
use Rattle.ids.proofs.references.demanded_by.Goals as goal

demanded-given : (needed : Bool) (q : List ℕ) → 0 < length q → [] ≡ demanded needed (there_by q)
demanded-given true q h = sym (ap (demanded true) (lt-ltb 0 (length q) h))
demanded-given false q h = refl

pub returns-then-value-gt0 : goal.returns-then-value-gt0
returns-then-value-gt0 c =
    let a = c.args in
    demanded-given
    (named (test_of a.sheet) (id_field a.sheet) (picked_items (record_shape a.sheet) a.p.now) (text_by a.reference.now))
    a.value.now c.if-value-gt0.true

pub returns : goal.returns
returns c =
    let a = c.args in
    c.demanded.ensures ∙ ap (λ (t : Bool). demanded t (there_by a.value.now)) c.named-needed.ensures
