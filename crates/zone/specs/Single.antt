-- A file of zones in which no polygon has more than one ring is answered as it was before document 02's request W13: clean or not, and the rule that it breaks first;
-- number, parts and values of the question "zone rule". `proofs/Single` shows it.
use Rattle.std.specs.Prelude.{Bool, true, false, ◌≡◌, ℕ, ◌≤◌}
use mathlib.Core.List.{List, [], ◌∷◌, Memᴰ}
use Rattle.notation.specs.Choice.{◌⇒◌else◌}
use Rattle.word.specs.Word.{no_parts}
use Rattle.schema.specs.Shape.{Table, file_shape}
use Rattle.schema.specs.Pick.{Picked, elements}
use Rattle.geometry.specs.Ring.{Point}
use Rattle.geometry.specs.Held.{holds}
use Rattle.rings.specs.Rings.{item_count}
use Rattle.rings.specs.OneRing.{coordinates_of_one, OneRingAtMost}
use Rattle.clean.specs.Clean.{clean_by, clean_of}
use Rattle.zone.specs.Zone.{outline, rings_hold, polygons_hold_by, polygons_of, zone_holds, rules_by, applicable, zones_of}
use Rattle.zone.specs.Answer.{Answer, refused, on_map, of_rules, of_clean, ruling_of}
use Rattle.fault.specs.Outcome.{Outcome}

-- no polygon of a file of zones has more than one ring
abbrev pub WithoutHoles : Table → (s : List ℕ) → Type 0
WithoutHoles t s = (zone : Picked) → Memᴰ zone (zones_of t s) → OneRingAtMost (polygons_of zone)

-- the rules before W13: a file is clean where polygons of one ring are asked for, a polygon holds what a ring of it does, a zone what a polygon of it does; and
-- the answer by these
abbrev pub clean_of_one : Table → (file : ℕ) → List ℕ → Outcome
clean_of_one t file s = clean_by coordinates_of_one (file_shape t file) file s

unfoldable pub rings_hold_of_one : List Picked → Point → Bool
rings_hold_of_one [] q = false
rings_hold_of_one (r ∷ rs) q = holds (outline r) q ⇒ true else rings_hold_of_one rs q

abbrev pub polygons_hold_of_one : List Picked → Point → Bool
polygons_hold_of_one = polygons_hold_by rings_hold_of_one

abbrev pub zone_holds_of_one : Picked → Point → Bool
zone_holds_of_one zone q = polygons_hold_of_one (polygons_of zone) q

abbrev pub ruling_of_one : Table → (s : List ℕ) → Point → (type : List ℕ) → (moment : ℕ) → Answer
ruling_of_one t s q type moment =
    on_map q ⇒ of_clean (clean_of_one t 6 s) (of_rules (applicable (rules_by zone_holds_of_one (zones_of t s) q moment) type)) else refused 8 no_parts

pub record Single (t : Table) : Type 0 where
  pub polygon : (p : Picked) (q : Point) → item_count p ≤ 1 → rings_hold (elements p) q ≡ rings_hold_of_one (elements p) q
  pub zone : (z : Picked) (q : Point) → OneRingAtMost (polygons_of z) → zone_holds z q ≡ zone_holds_of_one z q
  -- any file judged alone; only file 6 has polygons
  pub clean : (file : ℕ) (s : List ℕ) → (file ≡ 6 → WithoutHoles t s) → clean_of t file s ≡ clean_of_one t file s
  -- at every point and moment and for every type, number 5 with its parts included
  pub answer : (s : List ℕ) (q : Point) (type : List ℕ) (moment : ℕ) → WithoutHoles t s → ruling_of t s q type moment ≡ ruling_of_one t s q type moment
