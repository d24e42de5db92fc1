-- A shape with the rows of a field taken out breaks nothing else, by induction on the shape; stage C's rules of the older files are the same but for a station's
-- region; and what six files break, eight do.
use mathlib.Core.Bool.{Bool, true, false}
use mathlib.Core.List.Memᴰ
use mathlib.Core.List.{List, [], ◌∷◌, ◌++◌, map, Memᴰ}
use mathlib.Core.Logic.{⊎_elim}
use mathlib.Core.Path.{◌≡◌, refl, sym, ap, subst}
use Prim.Native.Nat.{ℕ, zero, suc, ◌+◌, ◌≤◌}
use native.Mathlib.Omega.{arith}
use lib.Dec.{eqb, leb}
use Rattle.notation.specs.Choice.{◌⇒◌else◌}
use Rattle.word.specs.Kinds.{name_twice, too_many, condition}
use Rattle.word.specs.declared.Parts.{Parts}
use Rattle.json_text.specs.Tree as tree
use Rattle.json_text.specs.Tree.{Json, Items, Members}
use Rattle.schema.specs.Shape as shape
use Rattle.schema.specs.Shape.{Shape, Rows, Numbering, Need, Table, file_shape}
use Rattle.schema.specs.Pick.{Picked, Slot, once, twice, missing, in_array, in_object, unless_blank, find, put, pick, pick_rows, pick_items, list_of}
use Rattle.rings.specs.Rings.{count, coordinates_found}
use Rattle.fault.specs.declared.Fault.{Fault}
use Rattle.fault.specs.declared.Place.{Place}
use Rattle.fault.specs.Fault.{top, faulty}
use Rattle.fault.specs.Outcome.{file_count, fault_parts}
use Rattle.scalar.specs.Scalars.{unless}
use Rattle.judge.specs.Faults.{item_place, absence, each_item, array_faults, object_faults, slot_faults, faults_by, row_faults_by, faults, row_faults, file_faults_by}
use Rattle.clean.specs.Clean.{tree_of, repeats_in}
use Rattle.ids.specs.References.{kind_if}
use Rattle.cross.specs.Cross.{Files, each_record, faults_of, missing_file, cross_faults}
use Rattle.cross.specs.Stage.{Feeds, bytes_of, picked}
use Rattle.verdict.specs.Verdict.{each_from, stage_a, stage_b_by, stage_c, or_else, broken_rules_by, broken_rules}
use Rattle.verdict.specs.SixFiles.{without, rows_without, faults_b_of_six, faults_of_six, cross_faults_of_six, stage_a_of_six, stage_b_of_six, stage_c_of_six, broken_rules_of_six, SixFiles}
use Rattle.verdict.specs.inner.Stages.{faults_b}

-- every member of the first list is one of the second
abbrev Among : {A : Type 0} → List A → List A → Type 0
Among {A} l m = (x : A) → Memᴰ x l → Memᴰ x m

module _ {A : Type 0} where
  all_among : (l : List A) → Among l l
  all_among l x i = i

  none-among : (l : List A) → Among [] l
  none-among l x i = absurd (Memᴰ.not-nil i)

  both-among : {k l m n : List A} → Among k m → Among l n → Among (k ++ l) (m ++ n)
  both-among {k} {l} {m} {n} f g x i = ⊎_elim (λ j. Memᴰ.append_left n (f x j)) (λ j. Memᴰ.append_right m (g x j)) (Memᴰ.append_cases k i)

  behind_among : {l n : List A} (m : List A) → Among l n → Among l (m ++ n)
  behind_among m f x i = Memᴰ.append_right m (f x i)

  map-among : {B : Type 0} (h : A → B) (l : List A) {m : List A} → Among l m → Among (map h l) (map h m)
  map-among h [] f x i = absurd (Memᴰ.not-nil i)
  map-among h (a ∷ l) {m} f x i =
      let ih = map-among h l {m = m} in
      ⊎_elim (λ (e : x ≡ h a). subst (λ b. Memᴰ b (map h m)) (sym e) (Memᴰ.map h (f a (Memᴰ.head refl))))
      (λ j. ih (λ y k. f y (Memᴰ.tail k)) x j) (Memᴰ.cases_cons i)

  -- nothing stands among nothing
  among_none : (l : List A) {m : List A} → Among l m → m ≡ [] → l ≡ []
  among_none [] f e = refl
  among_none (x ∷ l) f e = absurd (Memᴰ.not-nil (subst (Memᴰ x) e (f x (Memᴰ.head refl))))

-- Stage B: without a field a value breaks no more, and rows break no more.
abbrev Fewer : ℕ → Shape → Type 0
Fewer f σ = (p : Place) (φ : ℕ) (x : Json) → Among (faults (without f σ) p φ (pick (without f σ) x)) (faults σ p φ (pick σ x))

abbrev FewerRows : ℕ → Rows → Type 0
FewerRows f rows = (p : Place) (ms : Members) → Among (row_faults (rows_without f rows) p (pick_rows (rows_without f rows) ms)) (row_faults rows p (pick_rows rows ms))

module _ (f : ℕ) (σ : Shape) (w : Fewer f σ) where
  same_count : (is : Items) → count (pick_items (pick (without f σ)) is) ≡ count (pick_items (pick σ) is)
  unfolding pick_items count list_of
  same_count tree.no_item = refl
  same_count (tree.item x is) = ap suc (same_count is)

  items-among : (ν : Numbering) (p : Place) (φ n : ℕ) (is : Items)
      → Among (each_item (faults (without f σ)) ν p φ n (pick_items (pick (without f σ)) is)) (each_item (faults σ) ν p φ n (pick_items (pick σ) is))
  unfolding pick_items each_item
  items-among ν p φ n tree.no_item = all_among []
  items-among ν p φ n (tree.item x is) = both-among (w (item_place ν (n + 1) p) φ x) (items-among ν p φ (n + 1) is)

  array-among : (ν : Numbering) (most : ℕ) (p : Place) (φ : ℕ) (x : Json)
      → Among (array_faults (faults (without f σ)) ν most p φ (in_array (pick_items (pick (without f σ))) x)) (array_faults (faults σ) ν most p φ (in_array (pick_items (pick σ)) x))
  array-among ν most p φ tree.null = all_among _
  array-among ν most p φ (tree.boolean b) = all_among _
  array-among ν most p φ (tree.number s) = all_among _
  array-among ν most p φ (tree.string s) = all_among _
  array-among ν most p φ (tree.array is) =
      let excess : ℕ → List Fault = λ n. faulty p φ (unless (leb n most) too_many) in let few = count (pick_items (pick (without f σ)) is) in
      both-among (subst (λ (n : ℕ). Among (excess few) (excess n)) (same_count is) (all_among (excess few))) (items-among ν p φ 0 is)
  array-among ν most p φ (tree.object ms) = all_among _

  -- the row of a field that is left out, or another one
  module _ (rows : Rows) (v : FewerRows f rows) (g : ℕ) (need : Need) (name : List ℕ) (p : Place) (ms : Members) where
    below-among : (x : Slot Json) → Among (row_faults (rows_without f rows) p (pick_rows (rows_without f rows) ms)) (slot_faults (faults σ) need p g (row_faults rows) (put g (pick σ) x (pick_rows rows ms)))
    below-among missing = behind_among (faulty p g (absence need)) (v p ms)
    below-among (once x) = behind_among (faults σ p g (pick σ x)) (v p ms)
    below-among twice = behind_among (faulty p g (name_twice ∷ [])) (v p ms)

    slot-among : (x : Slot Json)
        → Among (slot_faults (faults (without f σ)) need p g (row_faults (rows_without f rows)) (put g (pick (without f σ)) x (pick_rows (rows_without f rows) ms)))
        (slot_faults (faults σ) need p g (row_faults rows) (put g (pick σ) x (pick_rows rows ms)))
    slot-among missing = both-among (all_among (faulty p g (absence need))) (v p ms)
    slot-among (once x) = both-among (w p g x) (v p ms)
    slot-among twice = both-among (all_among (faulty p g (name_twice ∷ []))) (v p ms)

    row-among : (out : Bool) → let left = out ⇒ rows_without f rows else shape.row g need name (without f σ) (rows_without f rows) in
        Among (row_faults left p (pick_rows left ms)) (row_faults (shape.row g need name σ rows) p (pick_rows (shape.row g need name σ rows) ms))
    unfolding row_faults_by pick
    row-among true = below-among (unless_blank (find name ms))
    row-among false = slot-among (unless_blank (find name ms))

object-among : (f : ℕ) (rows : Rows) → FewerRows f rows → (p : Place) (φ : ℕ) (x : Json)
    → Among (object_faults (row_faults (rows_without f rows)) p φ (in_object (pick_rows (rows_without f rows)) x)) (object_faults (row_faults rows) p φ (in_object (pick_rows rows) x))
object-among f rows v p φ tree.null = all_among _
object-among f rows v p φ (tree.boolean b) = all_among _
object-among f rows v p φ (tree.number s) = all_among _
object-among f rows v p φ (tree.string s) = all_among _
object-among f rows v p φ (tree.array is) = all_among _
object-among f rows v p φ (tree.object ms) = v p ms

mutual
  unfolding without faults_by pick

  fewer : (f : ℕ) (σ : Shape) → Fewer f σ
  fewer f shape.unlisted p φ x = all_among _
  fewer f (shape.scalar sort) p φ x = all_among _
  fewer f (shape.array shape.records most σ) p φ x = array-among f σ (λ q ψ y. fewer f σ q ψ y) shape.records most p φ x
  fewer f (shape.array shape.subs most σ) p φ x = array-among f σ (λ q ψ y. fewer f σ q ψ y) shape.subs most p φ x
  fewer f (shape.array shape.outer most σ) p φ x = array-among f σ (λ q ψ y. fewer f σ q ψ y) shape.outer most p φ x
  fewer f (shape.array shape.positions most σ) p φ x = all_among _
  fewer f (shape.object rows) p φ x = object-among f rows (λ q ms. fewer_rows f rows q ms) p φ x

  fewer_rows : (f : ℕ) (rows : Rows) → FewerRows f rows
  fewer_rows f shape.no_row p ms = all_among _
  fewer_rows f (shape.row g need name σ rows) p ms =
      row-among f σ (λ q ψ y. fewer f σ q ψ y) rows (λ q ns. fewer_rows f rows q ns) g need name p ms (eqb g f)

fewer-B : (t : Table) (file : ℕ) (s : List ℕ) → Among (faults_b_of_six t file s) (faults_b t file s)
unfolding file_faults_by
fewer-B t file [] = all_among _
fewer-B t file (b ∷ s) = fewer 25 (file_shape t file) top 0 (tree_of (b ∷ s))

-- Stage C: a station's region less.
module _ (s : Files) (file : ℕ) where
  record_among : (n : ℕ) (x : Picked) → Among (faults_of_six s file n x) (faults_of s file n x)
  record_among n x = go (eqb file 2)
    where
      go : (b : Bool) → Among (b ⇒ [] else faults_of s file n x) (faults_of s file n x)
      go true = none-among _
      go false = all_among _

  each-among : (n : ℕ) (l : List Picked) → Among (each_record (faults_of_six s file) n l) (each_record (faults_of s file) n l)
  unfolding each_record
  each-among n [] = all_among []
  each-among n (x ∷ l) = both-among (record_among n x) (each-among (n + 1) l)

  fewer-C : (t : Table) → Among (cross_faults_of_six t s file) (cross_faults t s file)
  unfolding cross_faults
  fewer-C t =
      both-among (all_among (faulty top 0 (kind_if (missing_file s file) condition) ++ repeats_in (file_shape t file) (s file).records)) (each-among 1 (s file).records)

-- Of six files and of eight, by any table.
from-among : {g h : ℕ → List Parts} → ((k : ℕ) → Among (g k) (h k)) → (file left more : ℕ) → left ≤ more → Among (each_from g file left) (each_from h file more)
unfolding each_from
from-among w file zero more i = none-among _
from-among w file (suc left) zero i = absurd (omega arith)
from-among w file (suc left) (suc more) i = both-among (w file) (from-among w (file + 1) left more (omega arith))

module _ (t : Table) (s : Feeds) where
  among-A : Among (stage_a_of_six s) (stage_a s)
  unfolding stage_a
  among-A = from-among (λ file. all_among _) 1 6 file_count (omega arith)

  among-B : Among (stage_b_of_six t s) (stage_b_by coordinates_found t s)
  unfolding stage_b_by
  among-B = from-among (λ file. map-among (fault_parts file) _ (fewer-B t file (bytes_of s file))) 1 6 file_count (omega arith)

  among-C : Among (stage_c_of_six t s) (stage_c t s)
  unfolding stage_c
  among-C = from-among (λ file. map-among (fault_parts file) _ (fewer-C (picked t s) file t)) 1 6 file_count (omega arith)

  neither : (l m : List Parts) → or_else l m ≡ [] → (l ≡ []) × (m ≡ [])
  neither [] m e = (refl, e)
  neither (p ∷ l) m e = let z : ◌≡◌ {A = ℕ} 0 1 = cc in absurd (omega arith)

  accepted : broken_rules t s ≡ [] → broken_rules_of_six t s ≡ []
  unfolding broken_rules_by
  accepted e =
      let a = neither (stage_a s) (or_else (stage_b_by coordinates_found t s) (stage_c t s)) e in let b = neither (stage_b_by coordinates_found t s) (stage_c t s) a.1 in
      rw (among_none (stage_a_of_six s) among-A a.0, among_none (stage_b_of_six t s) among-B b.0) (among_none (stage_c_of_six t s) among-C b.1)

pub six-files : (t : Table) → SixFiles t
six-files t = record { stage_a = among-A t; stage_b = among-B t; stage_c = among-C t; accepted = accepted t }
