-- A closed ring and a point that are moved alike: nothing changes. Sides and orders are by differences, which the move leaves as they
-- are; an edge's part in the area changes by what its end has more than its start, which over a closed ring is nothing.
use mathlib.Core.Bool.{false, not}
use mathlib.Core.List.{List, [], ◌∷◌, ◌++◌, map, map-append}
use mathlib.Core.Path.{◌≡◌, refl, sym, ap, ap₂, ◌∙◌}
use native.Mathlib.Omega.{arith}
use lib.IntN.{ℤ, pos, ◌+ℤ◌, ◌-ℤ◌, ◌*ℤ◌, +ℤ_assoc, +ℤ-neg_ℤ_cancel}
use Rattle.notation.specs.Choice.{◌and◌}
use Rattle.signed.proofs.Gap.{gap_same, gap_add, gap_minus, gap_mul}
use Rattle.signed.proofs.Parts.{parts}
use Rattle.geometry.specs.Ring.{Point, equal, turn, area_sum, clockwise, sound}
use Rattle.geometry.specs.Held.{side, between, on_edge, crosses, on_ring, odd, holds}
use Rattle.geometry.specs.Polygon.{moved}
use Rattle.geometry.proofs.Closed.{closed, sound_area}
use Rattle.geometry.proofs.Edges.{total_same, total_map, some, flip, on_total, odd_total}
use Rattle.geometry.proofs.Tests.{minus-moved, le_moved, lt_moved}

-- one edge
side-moved : (d a b q : Point) → side (moved d a) (moved d b) (moved d q) ≡ side a b q
unfolding side
side-moved d a b q =
    ap₂ ◌-ℤ◌
    (ap₂ ◌*ℤ◌ (minus-moved b.lon a.lon d.lon) (minus-moved q.lat a.lat d.lat))
    (ap₂ ◌*ℤ◌ (minus-moved b.lat a.lat d.lat) (minus-moved q.lon a.lon d.lon))

between-moved : (a b c d : ℤ) → between (a +ℤ d) (b +ℤ d) (c +ℤ d) ≡ between a b c
between-moved a b c d = rw (le_moved a b d, le_moved a c d, le_moved c b d, le_moved b c d, le_moved c a d)

on-edge-moved : (d a b q : Point) → on_edge (moved d a) (moved d b) (moved d q) ≡ on_edge a b q
unfolding on_edge
on-edge-moved d a b q =
    ap₂ ◌and◌ (ap (λ z. equal z (pos 0)) (side-moved d a b q))
    (ap₂ ◌and◌ (between-moved a.lon b.lon q.lon d.lon) (between-moved a.lat b.lat q.lat d.lat))

crosses-moved : (d a b q : Point) → crosses (moved d a) (moved d b) (moved d q) ≡ crosses a b q
unfolding crosses
crosses-moved d a b q =
    rw (side-moved d a b q, le_moved a.lat q.lat d.lat, lt_moved q.lat b.lat d.lat, le_moved b.lat q.lat d.lat, lt_moved q.lat a.lat d.lat)

product_moved : (x y d e : ℤ) → (x +ℤ d) *ℤ (y +ℤ e) ≡ x *ℤ y +ℤ x *ℤ e +ℤ d *ℤ y +ℤ d *ℤ e
product_moved x y d e =
    let x' = parts x in let y' = parts y in let d' = parts d in let e' = parts e in
    gap_same (gap_mul (gap_add x' d') (gap_add y' e')) (gap_add (gap_add (gap_add (gap_mul x' y') (gap_mul x' e')) (gap_mul d' y')) (gap_mul d' e'))
    (omega arith)

regrouped : (p q r s t u v : ℤ) → (p +ℤ q +ℤ r +ℤ s) -ℤ (t +ℤ u +ℤ v +ℤ s) +ℤ (v -ℤ q) ≡ (p -ℤ t) +ℤ (r -ℤ u)
regrouped p q r s t u v =
    let s' = parts s in
    gap_same
    (gap_add
    (gap_minus (gap_add (gap_add (gap_add (parts p) (parts q)) (parts r)) s') (gap_add (gap_add (gap_add (parts t) (parts u)) (parts v)) s'))
    (gap_minus (parts v) (parts q)))
    (gap_add (gap_minus (parts p) (parts t)) (gap_minus (parts r) (parts u)))
    (omega arith)

turn_moved : (d a b : Point) → turn (moved d a) (moved d b) +ℤ turn d a ≡ turn a b +ℤ turn d b
unfolding turn
turn_moved d a b =
    ap₂ (λ x y. x -ℤ y +ℤ (d.lon *ℤ a.lat -ℤ a.lon *ℤ d.lat))
    (product_moved a.lon b.lat d.lon d.lat) (product_moved b.lon a.lat d.lon d.lat)
    ∙ regrouped (a.lon *ℤ b.lat) (a.lon *ℤ d.lat) (d.lon *ℤ b.lat) (d.lon *ℤ d.lat) (b.lon *ℤ a.lat) (b.lon *ℤ d.lat) (d.lon *ℤ a.lat)

-- a line, by its two ends
abbrev end : Point → List Point → Point
end a [] = a
end a (b ∷ l) = end b l

end-closed : (a c : Point) (l : List Point) → end c (l ++ a ∷ []) ≡ a
end-closed a c [] = refl
end-closed a c (b ∷ l) = end-closed a b l

last_out : (x y z : ℤ) → (x +ℤ y) +ℤ z ≡ (x +ℤ z) +ℤ y
last_out x y z =
    gap_same (gap_add (gap_add (parts x) (parts y)) (parts z)) (gap_add (gap_add (parts x) (parts z)) (parts y)) (omega arith)

line-moved : (d a : Point) (l : List Point) → area_sum (map (moved d) (a ∷ l)) +ℤ turn d a ≡ area_sum (a ∷ l) +ℤ turn d (end a l)
unfolding area_sum
line-moved d a [] = refl
line-moved d a (b ∷ l) =
    let s = area_sum (map (moved d) (b ∷ l)) in
    last_out (turn (moved d a) (moved d b)) s (turn d a) ∙ ap (λ z. z +ℤ s) (turn_moved d a b) ∙ last_out (turn a b) (turn d b) s
    ∙ +ℤ_assoc (turn a b) s (turn d b) ∙ ap (◌+ℤ◌ (turn a b)) (line-moved d b l)
    ∙ sym (+ℤ_assoc (turn a b) (area_sum (b ∷ l)) (turn d (end b l)))

-- the whole ring
module _ (d : Point) where
  pub on-moved : (l : List Point) (q : Point) → on_ring (map (moved d) l) (moved d q) ≡ on_ring l q
  on-moved l q =
      on_total (map (moved d) l) (moved d q) ∙ total_map some false (λ a b. on_edge a b (moved d q)) (moved d) l
      ∙ total_same some false (λ a b. on_edge (moved d a) (moved d b) (moved d q)) (λ a b. on_edge a b q) l (λ a b. on-edge-moved d a b q)
      ∙ sym (on_total l q)

  pub odd-moved : (l : List Point) (q : Point) → odd (map (moved d) l) (moved d q) ≡ odd l q
  odd-moved l q =
      odd_total (map (moved d) l) (moved d q) ∙ total_map flip false (λ a b. crosses a b (moved d q)) (moved d) l
      ∙ total_same flip false (λ a b. crosses (moved d a) (moved d b) (moved d q)) (λ a b. crosses a b q) l (λ a b. crosses-moved d a b q)
      ∙ sym (odd_total l q)

  pub area_moved : (a : Point) (l : List Point) → area_sum (map (moved d) (closed a l)) ≡ area_sum (closed a l)
  area_moved a l =
      let t = turn d a in
      sym (+ℤ-neg_ℤ_cancel (area_sum (map (moved d) (closed a l))) t)
      ∙ ap (λ z. z -ℤ t) (line-moved d a (l ++ a ∷ []) ∙ ap (λ p. area_sum (closed a l) +ℤ turn d p) (end-closed a a l))
      ∙ +ℤ-neg_ℤ_cancel (area_sum (closed a l)) t

  pub holds-moved : (a : Point) (l : List Point) (q : Point) → holds (map (moved d) (closed a l)) (moved d q) ≡ holds (closed a l) q
  unfolding holds clockwise
  holds-moved a l q = rw (on-moved (closed a l) q, odd-moved (closed a l) q, area_moved a l)

  closed-moved : (a : Point) (l : List Point) → map (moved d) (closed a l) ≡ closed (moved d a) (map (moved d) l)
  closed-moved a l = map-append (moved d) (a ∷ l) (a ∷ [])

  pub sound-moved : (a : Point) (l : List Point) → sound (map (moved d) (closed a l)) ≡ sound (closed a l)
  sound-moved a l =
      ap sound (closed-moved a l) ∙ sound_area (moved d a) (map (moved d) l)
      ∙ ap (λ z. not (equal z (pos 0))) (ap area_sum (sym (closed-moved a l)) ∙ area_moved a l) ∙ sym (sound_area a l)
