-- A ring read from its last point to its first: its area sum is negated, while the same points are on its edges and the same edges cross.
-- So beyond its edges it holds what it did not hold before, and its edges either way. Every edge is the same line with its ends swapped.
use mathlib.Core.Bool.{Bool, true, false, not}
use mathlib.Core.List.{List, [], ◌∷◌, reverse}
use mathlib.Core.Path.{◌≡◌, refl, sym, ap, ap₂, ◌∙◌}
use native.Mathlib.Omega.{arith}
use lib.IntN.{ℤ, pos, neg_ℤ, neg_ℤ-+ℤ, ◌+ℤ◌, ◌-ℤ◌, ◌*ℤ◌}
use lib.Signed.{le_z, lt_z}
use Rattle.notation.specs.Choice.{◌⇒◌else◌, ◌and◌}
use Rattle.signed.proofs.Gap.{gap_same, gap_minus, gap_mul, gap_negated}
use Rattle.signed.proofs.Parts.{parts}
use Rattle.geometry.specs.Ring.{Point, equal, turn, area_sum, clockwise, sound}
use Rattle.geometry.specs.Held.{side, on_edge, crosses, on_ring, odd, holds}
use Rattle.geometry.proofs.Closed.{closed, closed-reversed, sound_area, sound-closed}
use Rattle.geometry.proofs.Edges.{total, total_same, total_reversed, some, flip, area_law, some_law, flip_law, area_total, on_total, odd_total}
use Rattle.geometry.proofs.Tests.{less_is, between-swapped, zero_negated, below_negated, above_negated, above_or_below}

-- one edge
minus_negated : (z w : ℤ) → w -ℤ z ≡ neg_ℤ (z -ℤ w)
minus_negated z w = gap_same (gap_minus (parts w) (parts z)) (gap_negated (gap_minus (parts z) (parts w))) (omega arith)

turn-swapped : (a b : Point) → turn b a ≡ neg_ℤ (turn a b)
unfolding turn
turn-swapped a b = minus_negated (a.lon *ℤ b.lat) (b.lon *ℤ a.lat)

side-numbers : (ax ay bx by qx qy : ℤ)
    → (ax -ℤ bx) *ℤ (qy -ℤ by) -ℤ (ay -ℤ by) *ℤ (qx -ℤ bx) ≡ neg_ℤ ((bx -ℤ ax) *ℤ (qy -ℤ ay) -ℤ (by -ℤ ay) *ℤ (qx -ℤ ax))
side-numbers ax ay bx by qx qy =
    let ax' = parts ax in let ay' = parts ay in let bx' = parts bx in let by' = parts by in let qx' = parts qx in let qy' = parts qy in
    gap_same
    (gap_minus (gap_mul (gap_minus ax' bx') (gap_minus qy' by')) (gap_mul (gap_minus ay' by') (gap_minus qx' bx')))
    (gap_negated (gap_minus (gap_mul (gap_minus bx' ax') (gap_minus qy' ay')) (gap_mul (gap_minus by' ay') (gap_minus qx' ax'))))
    (omega arith)

side-swapped : (a b q : Point) → side b a q ≡ neg_ℤ (side a b q)
unfolding side
side-swapped a b q = side-numbers a.lon a.lat b.lon b.lat q.lon q.lat

on-swapped : (a b q : Point) → on_edge b a q ≡ on_edge a b q
unfolding on_edge
on-swapped a b q =
    ap₂ ◌and◌ (ap (λ z. equal z (pos 0)) (side-swapped a b q) ∙ zero_negated (side a b q))
    (ap₂ ◌and◌ (between-swapped a.lon b.lon q.lon) (between-swapped a.lat b.lat q.lat))

-- the edge goes north past the point, or south, and not both
one_way : (s t u v : Bool) → (t and not s ⇒ u else s and not t ⇒ v else false) ≡ (s and not t ⇒ v else t and not s ⇒ u else false)
one_way true true u v = refl
one_way true false u v = refl
one_way false true u v = refl
one_way false false u v = refl

crosses-swapped : (a b q : Point) → crosses b a q ≡ crosses a b q
unfolding crosses
crosses-swapped a b q =
    rw (side-swapped a b q, above_negated (side a b q), below_negated (side a b q), less_is q.lat a.lat, less_is q.lat b.lat)
    (one_way (le_z a.lat q.lat) (le_z b.lat q.lat) _ _)

-- the whole ring
negated_total : (l : List Point) → total ◌+ℤ◌ (pos 0) (λ a b. neg_ℤ (turn a b)) l ≡ neg_ℤ (area_sum l)
unfolding total area_sum
negated_total [] = refl
negated_total (a ∷ []) = refl
negated_total (a ∷ b ∷ l) = ap (◌+ℤ◌ (neg_ℤ (turn a b))) (negated_total (b ∷ l)) ∙ sym (neg_ℤ-+ℤ (turn a b) (area_sum (b ∷ l)))

pub area_reversed : (l : List Point) → area_sum (reverse l) ≡ neg_ℤ (area_sum l)
area_reversed l =
    area_total (reverse l) ∙ total_reversed ◌+ℤ◌ (pos 0) area_law turn l
    ∙ total_same ◌+ℤ◌ (pos 0) (λ a b. turn b a) (λ a b. neg_ℤ (turn a b)) l turn-swapped ∙ negated_total l

pub on-reversed : (l : List Point) (q : Point) → on_ring (reverse l) q ≡ on_ring l q
on-reversed l q =
    on_total (reverse l) q ∙ total_reversed some false some_law (λ a b. on_edge a b q) l
    ∙ total_same some false (λ a b. on_edge b a q) (λ a b. on_edge a b q) l (λ a b. on-swapped a b q) ∙ sym (on_total l q)

pub odd-reversed : (l : List Point) (q : Point) → odd (reverse l) q ≡ odd l q
odd-reversed l q =
    odd_total (reverse l) q ∙ total_reversed flip false flip_law (λ a b. crosses a b q) l
    ∙ total_same flip false (λ a b. crosses b a q) (λ a b. crosses a b q) l (λ a b. crosses-swapped a b q) ∙ sym (odd_total l q)

pub clockwise-reversed : (l : List Point) → equal (area_sum l) (pos 0) ≡ false → clockwise (reverse l) ≡ not (clockwise l)
unfolding clockwise
clockwise-reversed l e = ap (λ z. lt_z z (pos 0)) (area_reversed l) ∙ below_negated (area_sum l) ∙ above_or_below (area_sum l) e

swapped_choice : (s t : Bool) → (not s ⇒ t else not t) ≡ not (s ⇒ t else not t)
swapped_choice true t = refl
swapped_choice false true = refl
swapped_choice false false = refl

pub holds-reversed : (l : List Point) (q : Point) → equal (area_sum l) (pos 0) ≡ false → on_ring l q ≡ false
    → holds (reverse l) q ≡ not (holds l q)
unfolding holds
holds-reversed l q e f =
    rw (on-reversed l q, f, clockwise-reversed l e, odd-reversed l q) (swapped_choice (clockwise l) (odd l q))

pub holds-edge : (l : List Point) (q : Point) → on_ring l q ≡ true → holds l q ≡ true
unfolding holds
holds-edge l q e = rw e

pub holds-edge-reversed : (l : List Point) (q : Point) → on_ring l q ≡ true → holds (reverse l) q ≡ true
holds-edge-reversed l q e = holds-edge (reverse l) q (on-reversed l q ∙ e)

pub sound-reversed : (l : List Point) → sound l ≡ true → sound (reverse l) ≡ true
sound-reversed l e = go (sound-closed l e)
  where
    go : (a : Point) × (m : List Point) × (l ≡ closed a m) → sound (reverse l) ≡ true
    go (a, m, h) =
        ap sound (ap reverse h ∙ closed-reversed a m) ∙ sound_area a (reverse m)
        ∙ ap (λ z. not (equal z (pos 0))) (ap area_sum (sym (closed-reversed a m)) ∙ area_reversed (closed a m))
        ∙ ap not (zero_negated (area_sum (closed a m))) ∙ sym (sound_area a m) ∙ ap sound (sym h) ∙ e
