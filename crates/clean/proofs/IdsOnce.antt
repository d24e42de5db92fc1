-- The name of the id stands once in a record without a stage B fault: its row is required, and two members of the name would be a fault.
use mathlib.Core.Bool.{true}
use mathlib.Core.List.{List, []}
use mathlib.Core.Path.{◌≡◌, sym, ap, subst, ◌∙◌}
use Prim.Native.Nat.{ℕ}
use native.Mathlib.Omega.{arith}
use Rattle.walk.specs.Part.{Whole, part_tree}
use Rattle.schema.specs.Shape.{Shape}
use Rattle.schema.specs.Records.{record_shape, has_ids}
use Rattle.schema.specs.Pick.{once, twice, unless_blank, pick}
use Rattle.slots.specs.inner.Found.{tree_in}
use Rattle.slots.proofs.Finds.{find-found}
use Rattle.fault.specs.declared.Place.{Place}
use Rattle.judge.specs.Faults.{faults}
use Rattle.ids.specs.inner.Ids.{id_name, IdOnce}
use Rattle.ids.proofs.Picked.{id_of_lem}
use Rattle.clean.proofs.Faultless.{object-there, required_there}

pub single_id : (n : ℕ) → has_ids n ≡ true → {q : List ℕ} → Whole q (part_tree q) → (p : Place) (φ : ℕ)
    → faults (record_shape n) p φ (pick (record_shape n) (part_tree q)) ≡ [] → IdOnce n q
single_id n h {q} w p φ e =
    let d = id_of_lem n h in
    let o = object-there p φ d.rows (part_tree q) (subst (λ (σ : Shape). faults σ p φ (pick σ (part_tree q)) ≡ []) d.object e) in
    let r = required_there d.required p o.0 o.2 in
    record {
      object = (o.0, o.1);
      once = λ t.
          let k : twice ≡ once r.0 = sym (ap unless_blank (find-found q (id_name n) (subst (Whole q) o.1 w) ∙ ap (tree_in q) t)) ∙ r.1 in
          let z : ◌≡◌ {A = ℕ} 0 1 = cc in omega arith;
    }
