-- An object that holds a version string other than 2.3 breaks a rule at field 1 of any file of a table that asks for the version: that member is empty, not the one
-- string that is listed, or one of two. The fault stands first in the file's list.
use mathlib.Core.Bool.{Bool, true, false}
use mathlib.Core.List.{List, [], ◌∷◌}
use mathlib.Core.Path.{◌≡◌, refl, sym, ap, subst}
use Prim.Native.Nat.{ℕ, ◌≤◌}
use Rattle.notation.specs.Ascii.{bytes}
use Rattle.notation.specs.Choice.{◌⇒◌else◌}
use Rattle.notation.proofs.Booleans.{by_test}
use Rattle.word.specs.Kinds.{out_of_range}
use Rattle.json_text.specs.Tree as tree
use Rattle.json_text.specs.Tree.{Json, Members}
use Rattle.text.specs.Text.{same}
use Rattle.text.proofs.Laws.{same_refl, same_true}
use Rattle.schema.specs.Shape as shape
use Rattle.schema.specs.Shape.{Shape, Rows, Table, file_shape}
use Rattle.schema.specs.Pick.{Slot, once, twice, missing, again, unless_blank, put, find, Slots, pick, pick_rows}
use Rattle.fault.specs.declared.Fault.{Fault}
use Rattle.fault.specs.Fault.{fault, top, faulty}
use Rattle.fault.specs.Outcome.{file_count}
use Rattle.scalar.specs.Scalars.{kinds_of, sort_kinds}
use Rattle.judge.specs.Faults.{faults_by, row_faults_by, row_faults, file_faults_by, file_faults}
use Rattle.verdict.specs.Demand3.{AsksVersion, Holds, here, later, Outdated, outdated}

-- the slot of a name under which a string is held: that string once, or twice whatever
data Seen (v : List ℕ) : Slot Json → Type 0 where
  alone : Seen v (once (tree.string v))
  repeated : Seen v twice

seen_here : (v : List ℕ) (x : Slot Json) → Seen v (again (tree.string v) x)
seen_here v missing = alone
seen_here v (once y) = repeated
seen_here v twice = repeated

seen-later : {v : List ℕ} {x : Slot Json} (y : Json) → Seen v x → Seen v (again y x)
seen-later y alone = repeated
seen-later y repeated = repeated

seen : {name v : List ℕ} {ms : Members} → Holds name v ms → Seen v (find name ms)
unfolding find
seen {name} {v} (here {ms = ms}) = rw (same_refl name) (seen_here v (find name ms))
seen {name} {v} (later {n = n} {x = x} {ms = ms} h) = go (same name n) (seen h)
  where
    go : (b : Bool) → Seen v (find name ms) → Seen v (b ⇒ again x (find name ms) else find name ms)
    go true s = seen-later x s
    go false s = s

-- a shape that begins with field 1
abbrev version : Shape
version = shape.scalar (shape.exactly (bytes "2.3"))

abbrev headed : Rows → Shape
headed rows = shape.object (shape.row 1 shape.required (bytes "version") version rows)

-- a list of faults that begins at field 1 of the header
pub record Opening (l : List Fault) : Type 0 where
  pub kind : ℕ
  pub rest : List Fault
  pub is : l ≡ fault 0 1 0 kind ∷ rest

module _ (rows : Rows) (ss : Slots) where
  -- field 1, with this in its slot
  abbrev slotted : Slot Json → List Fault
  slotted x = row_faults (shape.row 1 shape.required (bytes "version") version rows) top (put 1 (λ y. pick version y) (unless_blank x) ss)

  opening_alone : (v : List ℕ) → same v (bytes "2.3") ≡ false → Opening (slotted (once (tree.string v)))
  unfolding row_faults_by pick faulty kinds_of sort_kinds
  opening_alone [] e = record { kind = _; rest = _; is = refl }
  opening_alone (b ∷ v) e = record { kind = out_of_range; rest = row_faults rows top ss; is = rw e }

  opening_slot : {v : List ℕ} {x : Slot Json} → Seen v x → same v (bytes "2.3") ≡ false → Opening (slotted x)
  unfolding row_faults_by faulty
  opening_slot {v} alone e = opening_alone v e
  opening_slot repeated e = record { kind = _; rest = _; is = refl }

opening_object : (v : List ℕ) (rows : Rows) (ms : Members) → Seen v (find (bytes "version") ms) → same v (bytes "2.3") ≡ false
    → Opening (file_faults (headed rows) (tree.object ms))
unfolding file_faults_by faults_by pick
opening_object v rows ms s e = opening_slot rows (pick_rows rows ms) s e

not_same : (x y : List ℕ) → (x ≡ y → ⊥) → same x y ≡ false
not_same x y n = by_test (same x y) (λ t. absurd (n (same_true x y t))) (λ f. f)

pub opening : (t : Table) → AsksVersion t → (file : ℕ) → 1 ≤ file → file ≤ file_count → (x : Json) → Outdated x → Opening (file_faults (file_shape t file) x)
opening t asks file h i x (outdated {v} {ms} holds other) =
    let r = asks file h i in
    subst Opening (ap (λ (σ : Shape). file_faults σ (tree.object ms)) (sym r.1))
    (opening_object v r.0 ms (seen holds) (not_same v (bytes "2.3") other))
