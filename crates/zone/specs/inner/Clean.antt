-- What a rule needs of a file of zones, and stages A and B with their ceilings ensure: every part is whole and no longer than a file, and nothing is
-- found in any ring.
use mathlib.Core.List.{List, [], Memᴰ}
use Rattle.std.specs.Prelude.{◌≡◌, ℕ, ◌≤◌, length}
use Rattle.limits.specs.Ceilings.{file_bytes}
use Rattle.walk.specs.Part.{Whole, part_tree}
use Rattle.walk.specs.inner.Along.{AlongItems}
use Rattle.schema.specs.Shape.{Shape}
use Rattle.schema.specs.Table23.{zone}
use Rattle.schema.specs.Pick.{Picked, pick}
use Rattle.rings.specs.Rings.{Found, ring}
use Rattle.rings.specs.inner.Parts.{ring_shape, Listing}
use Rattle.document.specs.inner.Items.{picked_items}
use Rattle.fault.specs.declared.Place.{Place}
use Rattle.judge.specs.Faults.{faults}

-- the bytes of a ring
pub record CleanRing (p : List ℕ) : Type 0 where
  pub short : length p ≤ file_bytes
  pub whole : Whole p (part_tree p)
  pub first : ℕ
  pub clear : ring first (pick ring_shape (part_tree p)) ≡ []

-- those of an array of rings or polygons, with what tells what is found in them
pub record CleanItems (σ : Shape) (found : ℕ → List Picked → List Found) (p : List ℕ) : Type 0 where
  pub short : length p ≤ file_bytes
  pub listing : Listing p
  pub first : ℕ
  pub clear : found first (picked_items σ p) ≡ []

-- a zone in which nothing is found
pub record Faultless (x : Picked) : Type 0 where
  pub place : Place
  pub field : ℕ
  pub clear : faults zone place field x ≡ []

pub record CleanZone (p : List ℕ) : Type 0 where
  pub short : length p ≤ file_bytes
  pub whole : Whole p (part_tree p)
  pub clear : Faultless (pick zone (part_tree p))

-- those of the zones, an array and what follows it
pub record CleanZones (p : List ℕ) : Type 0 where
  pub short : length p ≤ file_bytes
  pub along : AlongItems p 1
  pub clear : (x : Picked) → Memᴰ x (picked_items zone p) → Faultless x
