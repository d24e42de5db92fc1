-- The promises on polygons. Of the further rings it counts whether one has the point on an edge and whether one has it inside, and neither changes with the way
-- round that they go, with their order, or with a move of all rings and the point.
use mathlib.Core.Bool.{Bool, true, false, not}
use mathlib.Core.List.{List, [], ◌∷◌, map, Memᴰ}
use mathlib.Core.Path.{◌≡◌, refl, sym, ap, ap₂, subst, ◌∙◌}
use lib.IntN.{ℤ, pos}
use lib.Signed.{lt_z}
use Rattle.notation.specs.Choice.{◌⇒◌else◌}
use Rattle.geometry.specs.Ring.{Point, clockwise, sound}
use Rattle.geometry.specs.Held.{on_ring, odd, side_of, holds, on_any, in_any, polygon_holds}
use Rattle.geometry.specs.Polygon.{Turned, none, kept, turned, SameRings, moved, Polygons}
use Rattle.geometry.proofs.Any.{one-any, any_same}
use Rattle.geometry.proofs.Closed.{closed, sound-closed}
use Rattle.geometry.proofs.Edges.{some}
use Rattle.geometry.proofs.Moved.{on-moved, odd-moved, area_moved}
use Rattle.geometry.proofs.Reversed.{on-reversed, odd-reversed}

-- an edge of one ring, the inside of one
module _ (q : Point) where
  pub ring-on : (rs : List (List Point)) (r : List Point) → Memᴰ r rs → on_ring r q ≡ true → on_any rs q ≡ true
  unfolding on_any
  ring-on = one-any (λ r. on_ring r q) (λ rs. on_any rs q) refl (λ r rs. refl)

  pub ring_in : (rs : List (List Point)) (r : List Point) → Memᴰ r rs → odd r q ≡ true → in_any rs q ≡ true
  unfolding in_any
  ring_in = one-any (λ r. odd r q) (λ rs. in_any rs q) refl (λ r rs. refl)

  on_same : (rs ss : List (List Point)) → SameRings rs ss → on_any rs q ≡ on_any ss q
  unfolding on_any
  on_same rs ss s = any_same (λ r. on_ring r q) (λ l. on_any l q) refl (λ r l. refl) rs ss s.there s.back

  in_same : (rs ss : List (List Point)) → SameRings rs ss → in_any rs q ≡ in_any ss q
  unfolding in_any
  in_same rs ss s = any_same (λ r. odd r q) (λ l. in_any l q) refl (λ r l. refl) rs ss s.there s.back

  on-turned : {rs ss : List (List Point)} → Turned rs ss → on_any rs q ≡ on_any ss q
  unfolding on_any
  on-turned none = refl
  on-turned (kept {r} t) = ap (some (on_ring r q)) (on-turned t)
  on-turned (turned {r} t) = ap₂ some (sym (on-reversed r q)) (on-turned t)

  in_turned : {rs ss : List (List Point)} → Turned rs ss → in_any rs q ≡ in_any ss q
  unfolding in_any
  in_turned none = refl
  in_turned (kept {r} t) = ap (some (odd r q)) (in_turned t)
  in_turned (turned {r} t) = ap₂ some (sym (odd-reversed r q)) (in_turned t)

-- moved
module _ (d : Point) (q : Point) where
  on-any-moved : (rs : List (List Point)) → on_any (map (map (moved d)) rs) (moved d q) ≡ on_any rs q
  unfolding on_any
  on-any-moved [] = refl
  on-any-moved (r ∷ rs) = ap₂ some (on-moved d r q) (on-any-moved rs)

  in_any-moved : (rs : List (List Point)) → in_any (map (map (moved d)) rs) (moved d q) ≡ in_any rs q
  unfolding in_any
  in_any-moved [] = refl
  in_any-moved (r ∷ rs) = ap₂ some (odd-moved d r q) (in_any-moved rs)

  side-closed : (a : Point) (l : List Point) → side_of (map (moved d) (closed a l)) (moved d q) ≡ side_of (closed a l) q
  unfolding clockwise
  side-closed a l = ap₂ (λ (z : ℤ) (o : Bool). lt_z z (pos 0) ⇒ o else not o) (area_moved d a l) (odd-moved d (closed a l) q)

  side-moved : (r : List Point) → sound r ≡ true → side_of (map (moved d) r) (moved d q) ≡ side_of r q
  side-moved r e =
      let c = sound-closed r e in
      subst (λ (l : List Point). side_of (map (moved d) l) (moved d q) ≡ side_of l q) (sym c.2) (side-closed c.0 c.1)

-- an edge first of all, then the holes, then the first ring's side
abbrev chosen : (on cut held : Bool) → Bool
chosen on cut held = on ⇒ true else cut ⇒ false else held

module _ (side : List Point → Point → Bool) (q : Point) where
  polygon-same : (r : List Point) (rs ss : List (List Point)) → on_any rs q ≡ on_any ss q → in_any rs q ≡ in_any ss q
      → polygon_holds side (r ∷ rs) q ≡ polygon_holds side (r ∷ ss) q
  unfolding polygon_holds on_any
  polygon-same r rs ss e f = ap₂ (λ (on : Bool) (cut : Bool). chosen (some (on_ring r q) on) cut (side r q)) e f

  pub edge-held : (rs : List (List Point)) → on_any rs q ≡ true → polygon_holds side rs q ≡ true
  unfolding polygon_holds on_any
  edge-held [] e = e
  edge-held (r ∷ rs) e = ap (λ (on : Bool). chosen on (in_any rs q) (side r q)) e

  hole-cut : (r : List Point) (rs : List (List Point)) → on_any (r ∷ rs) q ≡ false → in_any rs q ≡ true → polygon_holds side (r ∷ rs) q ≡ false
  unfolding polygon_holds
  hole-cut r rs e f = ap₂ (λ (on : Bool) (cut : Bool). chosen on cut (side r q)) e f

  none-cut : (r : List Point) (rs : List (List Point)) → on_any rs q ≡ false → in_any rs q ≡ false
      → polygon_holds side (r ∷ rs) q ≡ polygon_holds side (r ∷ []) q
  unfolding on_any in_any
  none-cut r rs e f = polygon-same r rs [] e f

ring-alone : (r : List Point) (q : Point) → polygon_holds side_of (r ∷ []) q ≡ holds r q
unfolding polygon_holds on_any in_any holds
ring-alone r q = go (on_ring r q)
  where
    go : (on : Bool) → chosen (some on false) false (side_of r q) ≡ (on ⇒ true else side_of r q)
    go true = refl
    go false = refl

polygon-moved : (d : Point) (r : List Point) (rs : List (List Point)) (q : Point) → sound r ≡ true
    → polygon_holds side_of (map (map (moved d)) (r ∷ rs)) (moved d q) ≡ polygon_holds side_of (r ∷ rs) q
unfolding polygon_holds
polygon-moved d r rs q e =
    ap₂ (λ (on : Bool) (cut : Bool). chosen on cut (side_of (map (moved d) r) (moved d q))) (on-any-moved d q (r ∷ rs)) (in_any-moved d q rs)
    ∙ ap (chosen (on_any (r ∷ rs) q) (in_any rs q)) (side-moved d q r e)

pub polygons : Polygons
polygons =
    record {
      alone = ring-alone;
      edge = λ side rs r q m e. edge-held side q rs (ring-on q rs r m e);
      cut = λ side r rs hole q e m i. hole-cut side q r rs e (ring_in q rs hole m i);
      uncut = λ side r rs q e f. none-cut side q r rs e f;
      either_way = λ side r rs ss q t. polygon-same side q r rs ss (on-turned q t) (in_turned q t);
      any_order = λ side r rs ss q s. polygon-same side q r rs ss (on_same q rs ss s) (in_same q rs ss s);
      moved_alike = polygon-moved;
    }
