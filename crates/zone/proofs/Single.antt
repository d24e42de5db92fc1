-- No further ring: a polygon holds what its one ring holds, so a zone and a list of zones come to what they were before, one after the other. And the
-- two judges of coordinates find the same in every zone's, which are all that a file has (`Alike`); the other files have none.
use mathlib.Core.Bool.{Bool, true, false}
use mathlib.Core.List.{List, [], ◌∷◌, ◌++◌, Memᴰ}
use mathlib.Core.Path.{◌≡◌, refl, sym, ap, ap₂, subst, ◌∙◌}
use Prim.Native.Nat.{ℕ, zero, suc, ◌≤◌}
use native.Mathlib.Decide.{ℕ_discrete}
use native.Mathlib.Omega.{arith}
use lib.ListN.{length, get_or}
use Rattle.limits.specs.Ceilings as ceiling
use Rattle.notation.specs.Choice.{◌⇒◌else◌, ◌and◌}
use Rattle.notation.proofs.Booleans.{and_left, and_right}
use Rattle.word.specs.Word.{no_parts}
use Rattle.json_text.specs.Tree as tree
use Rattle.json_text.specs.Tree.{Json}
use Rattle.schema.specs.Shape as shape
use Rattle.schema.specs.Shape.{Shape, Table, file_shape}
use Rattle.schema.specs.Table23.{coordinates, zone}
use Rattle.schema.specs.Tables.{table_at, written}
use Rattle.schema.specs.Records.{located}
use Rattle.schema.specs.Pick.{Picked, pick, elements}
use Rattle.schema.proofs.Computed.{every, every_file}
use Rattle.schema.proofs.SheetShapes.{at-tables}
use Rattle.geometry.specs.Ring.{Point}
use Rattle.geometry.specs.Held.{holds, polygon_holds}
use Rattle.geometry.proofs.Polygon.{polygons}
use Rattle.rings.specs.Rings.{numbered, count, item_count, coordinates_found}
use Rattle.rings.specs.OneRing.{coordinates_of_one, OneRingAtMost}
use Rattle.rings.proofs.OneRing.{coordinates-one}
use Rattle.judge.specs.Faults.{faults_by, file_faults_by}
use Rattle.fault.specs.Fault.{top}
use Rattle.document.specs.Document.{elements_of, along, field, field_items}
use Rattle.clean.specs.Clean.{tree_of, records_of, clean_of}
use Rattle.clean.proofs.Alike.{plain, Route, arrived, into, here, below, Same, plain-same, way_same, records-same, clean-alike}
use Rattle.zone.specs.Zone.{outline, counts, rings_hold, polygons_hold_by, polygons_hold, polygons_of, zone_holds, zone_rules_by, rules_by, applicable, zones_of, rules_at}
use Rattle.zone.specs.Answer.{refused, on_map, of_rules, of_clean, ruling_of}
use Rattle.zone.specs.Single.{WithoutHoles, clean_of_one, rings_hold_of_one, polygons_hold_of_one, zone_holds_of_one, ruling_of_one, Single}
use Rattle.fault.specs.Outcome.{Outcome}
use Rattle.std.specs.Prelude.{None, Some}

-- What a zone holds.

either-false : (b : Bool) → b ≡ (b ⇒ true else false)
either-false true = refl
either-false false = refl

module _ (q : Point) where
  one-ring : (rs : List Picked) → length rs ≤ 1 → rings_hold rs q ≡ rings_hold_of_one rs q
  unfolding rings_hold rings_hold_of_one polygon_holds
  one-ring [] e = refl
  one-ring (r ∷ []) e = polygons.alone (outline r) q ∙ either-false (holds (outline r) q)
  one-ring (r ∷ s ∷ rs) e = absurd (omega arith)

  one-polygon : (p : Picked) → item_count p ≤ 1 → rings_hold (elements p) q ≡ rings_hold_of_one (elements p) q
  unfolding count
  one-polygon (Picked.items is) e = one-ring _ e
  one-polygon (Picked.bare x) e = one-ring [] (omega arith)
  one-polygon (Picked.slots ss) e = one-ring [] (omega arith)

  one-ring-each : (ps : List Picked) → OneRingAtMost ps → polygons_hold ps q ≡ polygons_hold_of_one ps q
  unfolding polygons_hold_by
  one-ring-each [] one = refl
  one-ring-each (p ∷ ps) one =
      ap₂ (λ (here : Bool) (later : Bool). here ⇒ true else later) (one-polygon p (one p (Memᴰ.head refl)))
      (one-ring-each ps (λ x m. one x (Memᴰ.tail m)))

  -- the rules of zones that hold the point alike
  module _ (moment : ℕ) where
    zone-same : (z : Picked) → zone_holds z q ≡ zone_holds_of_one z q → zone_rules_by zone_holds z q moment ≡ zone_rules_by zone_holds_of_one z q moment
    unfolding zone_rules_by
    zone-same z e =
        ap (λ (held : Bool). elim (field 74 z) [ None ↦ [] | Some properties ↦ counts properties moment and held ⇒ field_items 77 properties else [] ]) e

    zones-same : (zs : List Picked) → ((z : Picked) → Memᴰ z zs → OneRingAtMost (polygons_of z))
        → rules_by zone_holds zs q moment ≡ rules_by zone_holds_of_one zs q moment
    unfolding rules_by
    zones-same [] one = refl
    zones-same (z ∷ zs) one =
        ap₂ (λ (l : List Picked) (k : List Picked). l ++ k) (zone-same z (one-ring-each (polygons_of z) (one z (Memᴰ.head refl))))
        (zones-same zs (λ x m. one x (Memᴰ.tail m)))

-- What is found in a file.

abbrev Alike : Shape → Picked → Type 0
Alike = Same coordinates_found coordinates_of_one

coordinates-same : (x : Json) → OneRingAtMost (elements (pick coordinates x)) → Alike coordinates (pick coordinates x)
unfolding coordinates faults_by pick
coordinates-same (tree.array is) one p φ = ap (numbered p.«record» φ) (coordinates-one _ one)
coordinates-same tree.null one p φ = refl
coordinates-same (tree.boolean b) one p φ = refl
coordinates-same (tree.number s) one p φ = refl
coordinates-same (tree.string s) one p φ = refl
coordinates-same (tree.object ms) one p φ = refl

to-polygons : Route zone (71 ∷ 73 ∷ []) coordinates
unfolding written plain
to-polygons = into (below refl refl (here refl)) (into (below refl refl (here refl)) arrived)

to-zones : (table : ℕ) → Route (file_shape (table_at table) 6) (4 ∷ 5 ∷ 7 ∷ []) (shape.array shape.records ceiling.records zone)
unfolding file_shape written plain
to-zones table =
    at-tables (λ (t : Table). Route (file_shape t 6) (4 ∷ 5 ∷ 7 ∷ []) (shape.array shape.records ceiling.records zone))
    (into (below refl refl (below refl refl (below refl refl (here refl)))) (into (here refl) (into (below refl refl (here refl)) arrived)))
    table

zones-along : (table : ℕ) (s : List ℕ) → zones_of (table_at table) s ≡ elements_of (along (4 ∷ 5 ∷ 7 ∷ []) (pick (file_shape (table_at table) 6) (tree_of s)))
unfolding located records_of
zones-along table s = at-tables (λ (t : Table). zones_of t s ≡ elements_of (along (4 ∷ 5 ∷ 7 ∷ []) (pick (file_shape t 6) (tree_of s)))) refl table

zone-alike : (x : Json) → OneRingAtMost (polygons_of (pick zone x)) → Alike zone (pick zone x)
zone-alike x one = way_same _ _ to-polygons x (λ y e. coordinates-same y (subst OneRingAtMost (ap elements_of e) one))

-- all shapes of a list but the n-th are without coordinates
unfoldable plain_but : ℕ → List Shape → Bool
plain_but n [] = true
plain_but zero (σ ∷ l) = every plain l
plain_but (suc n) (σ ∷ l) = plain σ and plain_but n l

plain_at : (n : ℕ) (l : List Shape) → plain_but n l ≡ true → (i : ℕ) → (i ≡ n → ⊥) → plain (get_or l i shape.unlisted) ≡ true
unfolding plain_but plain file_shape
plain_at n [] e i h = refl
plain_at zero (σ ∷ l) e zero h = absurd (h refl)
plain_at zero (σ ∷ l) e (suc i) h = every_file plain l e refl (suc i)
plain_at (suc n) (σ ∷ l) e zero h = and_left (plain σ) (plain_but n l) e
plain_at (suc n) (σ ∷ l) e (suc i) h = plain_at n l (and_right (plain σ) (plain_but n l) e) i (λ k. h (ap suc k))

-- so are all files of a table but the sixth
others_plain : (table file : ℕ) → (file ≡ 6 → ⊥) → plain (file_shape (table_at table) file) ≡ true
unfolding file_shape written plain plain_but every
others_plain table file h =
    plain_at 6 (shape.unlisted ∷ table_at table) (at-tables (λ (t : Table). plain_but 6 (shape.unlisted ∷ t) ≡ true) refl table) file h

-- by a table
module _ (table : ℕ) where
  abbrev t : Table
  t = table_at table

  zones-alike : (s : List ℕ) → WithoutHoles t s → Alike (file_shape t 6) (pick (file_shape t 6) (tree_of s))
  zones-alike s one =
      way_same _ _ (to-zones table) (tree_of s)
      (λ x e. records-same _ _ ceiling.records zone x (λ z i. zone-alike z (one _ (subst (Memᴰ (pick zone z)) (sym (zones-along table s ∙ ap elements_of e)) i))))

  -- what stage B finds in a file
  abbrev SameFile : (file : ℕ) → (s : List ℕ) → Type 0
  SameFile file s = file_faults_by coordinates_found (file_shape t file) (tree_of s) ≡ file_faults_by coordinates_of_one (file_shape t file) (tree_of s)

  others_same : (file : ℕ) (s : List ℕ) → (file ≡ 6 → ⊥) → SameFile file s
  unfolding file_faults_by
  others_same file s h = plain-same _ _ (file_shape t file) (others_plain table file h) (pick (file_shape t file) (tree_of s)) top 0

  zones-file-same : (s : List ℕ) → WithoutHoles t s → SameFile 6 s
  unfolding file_faults_by
  zones-file-same s one = zones-alike s one top 0

  pub faults-one : (file : ℕ) (s : List ℕ) → (file ≡ 6 → WithoutHoles t s) → SameFile file s
  faults-one file s one =
      elim (ℕ_discrete file 6) [ yes e ↦ subst (λ (n : ℕ). SameFile n s) (sym e) (zones-file-same s (one e)) | no h ↦ others_same file s h ]

  clean-one : (file : ℕ) (s : List ℕ) → (file ≡ 6 → WithoutHoles t s) → clean_of t file s ≡ clean_of_one t file s
  clean-one file s one = clean-alike _ _ (file_shape t file) file s (faults-one file s one)

  answered : (s : List ℕ) (q : Point) (type : List ℕ) (moment : ℕ) → WithoutHoles t s → ruling_of t s q type moment ≡ ruling_of_one t s q type moment
  unfolding ruling_of rules_at
  answered s q type moment one =
      ap₂ (λ (c : Outcome) (l : List Picked). on_map q ⇒ of_clean c (of_rules (applicable l type)) else refused 8 no_parts) (clean-one 6 s (λ e. one))
      (zones-same q moment (zones_of t s) one)

  pub single : Single t
  single = record { polygon = λ p q e. one-polygon q p e; zone = λ z q one. one-ring-each q (polygons_of z) one; clean = clean-one; answer = answered }
