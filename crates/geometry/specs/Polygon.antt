-- What document 02's request W13 lets a reader count on, beyond the definition of `polygon_holds`. `proofs/Polygon` shows it. What is said of edges and of holes is
-- said whichever side the first ring holds.
use Rattle.std.specs.Prelude.{Bool, true, false, ◌≡◌, ◌+ℤ◌}
use mathlib.Core.List.{List, [], ◌∷◌, map, reverse, Memᴰ}
use Rattle.geometry.specs.Ring.{Point, sound}
use Rattle.geometry.specs.Held.{on_ring, odd, side_of, holds, on_any, in_any, polygon_holds}

-- rings of which any may be read from their last point to their first
pub data Turned : List (List Point) → List (List Point) → Type 0 where
  none : Turned [] []
  kept : {r : List Point} {rs ss : List (List Point)} → Turned rs ss → Turned (r ∷ rs) (r ∷ ss)
  turned : {r : List Point} {rs ss : List (List Point)} → Turned rs ss → Turned (r ∷ rs) (reverse r ∷ ss)

-- the same rings, in whatever order and however often each
pub record SameRings (rs ss : List (List Point)) : Type 0 where
  pub there : (r : List Point) → Memᴰ r rs → Memᴰ r ss
  pub back : (r : List Point) → Memᴰ r ss → Memᴰ r rs

-- a point moved by another
abbrev pub moved : Point → Point → Point
moved d p = record { lon = p.lon +ℤ d.lon; lat = p.lat +ℤ d.lat }

pub record Polygons : Type 0 where
  -- one ring alone holds what document 01 has it hold
  pub alone : (r : List Point) (q : Point) → polygon_holds side_of (r ∷ []) q ≡ holds r q
  -- a point on an edge of any ring is in
  pub edge : (side : List Point → Point → Bool) (rs : List (List Point)) (r : List Point) (q : Point) → Memᴰ r rs → on_ring r q ≡ true
      → polygon_holds side rs q ≡ true
  -- on no edge, what is inside a further ring is out, and what is inside none is where the first ring alone has it
  pub cut : (side : List Point → Point → Bool) (r : List Point) (rs : List (List Point)) (hole : List Point) (q : Point) → on_any (r ∷ rs) q ≡ false
      → Memᴰ hole rs → odd hole q ≡ true → polygon_holds side (r ∷ rs) q ≡ false
  pub uncut : (side : List Point → Point → Bool) (r : List Point) (rs : List (List Point)) (q : Point) → on_any rs q ≡ false → in_any rs q ≡ false
      → polygon_holds side (r ∷ rs) q ≡ polygon_holds side (r ∷ []) q
  -- it does not matter which way round further rings go
  pub either_way : (side : List Point → Point → Bool) (r : List Point) (rs ss : List (List Point)) (q : Point) → Turned rs ss
      → polygon_holds side (r ∷ rs) q ≡ polygon_holds side (r ∷ ss) q
  -- nor in which order they stand
  pub any_order : (side : List Point → Point → Bool) (r : List Point) (rs ss : List (List Point)) (q : Point) → SameRings rs ss
      → polygon_holds side (r ∷ rs) q ≡ polygon_holds side (r ∷ ss) q
  -- nor where all of them and the point lie, if they are moved together
  pub moved_alike : (d : Point) (r : List Point) (rs : List (List Point)) (q : Point) → sound r ≡ true
      → polygon_holds side_of (map (map (moved d)) (r ∷ rs)) (moved d q) ≡ polygon_holds side_of (r ∷ rs) q
