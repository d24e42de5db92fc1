-- What is found at the slot is read.
use mathlib.Core.Path.{◌≡◌, subst}
use Prim.Native.Nat.{◌≤◌}
use lib.ListN.{length}
use Rattle.slots.specs.declared.Found.{Found}
use Rattle.document.specs.inner.Values.{FoundWhole, found_bytes}
use Rattle.cross.proofs.slotted.value_in.Goals as goal

pub returns : goal.returns
returns c =
    let p = c.args.p.now in let q = c.value_at.result.now in
    subst (λ (o : Found). (FoundWhole p o → q ≡ found_bytes p o) × (length q ≤ length p)) c.at.ensures c.value_at.ensures
