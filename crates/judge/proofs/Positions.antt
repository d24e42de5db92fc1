-- The first fault of coordinates has a number that fits the word. Where a zone has more than 15 rings, that stands at 0. Else each ring takes at most 256
-- numbers up to the first ring of more positions, whose own fault has its first position's number: 1 + 15 · 256 is the greatest.
use mathlib.Core.Bool.{Bool, true, false}
use mathlib.Core.List.{List, [], ◌∷◌, ◌++◌, map}
use mathlib.Core.Path.{◌≡◌, refl}
use Prim.Native.Nat.{ℕ, ◌+◌, ◌*◌, ◌≤◌, ◌<◌}
use native.Mathlib.Omega.{arith}
use lib.Dec.{leb}
use lib.ListN.{length}
use borrow.Author.Tests.{leb-true, leb-false, lt-leb}
use Rattle.limits.specs.Ceilings as ceiling
use Rattle.notation.specs.Choice.{◌⇒◌else◌, ◌and◌}
use Rattle.notation.proofs.Booleans.{by_test, and_right}
use Rattle.word.specs.Kinds.{wrong_type, too_many, bad_ring}
use Rattle.schema.specs.Shape as sort
use Rattle.schema.specs.Pick.{Picked, PickedItems, bare, items, slots, list_of}
use Rattle.fault.specs.declared.Fault.{Fault}
use Rattle.fault.specs.Fault.{fault, lesser, least}
use Rattle.fault.proofs.Leasts.{least-one}
use Rattle.scalar.specs.Scalars.{unless}
use Rattle.geometry.specs.Ring.{sound}
use Rattle.rings.specs.Rings.{Found, found_at, numbered, count, coordinate_kinds, number_kinds_in, position_kinds, position, all_sound, positions_found, ring_found, ring, item_count, rings_found, item_total, polygon, polygon_positions, is_ring_count, are_zone_counts, polygons_found, coordinates_found}
use Rattle.rings.proofs.Found.{least_append as found-append}
use Rattle.fault.specs.declared.Place.{Place}
use Rattle.judge.specs.Bounds.{OfStageB, Fitting, greatest, fields}
use Rattle.judge.proofs.Holds.{All, none, more, only, all_append, Holds, nothing, holds-least, holds-lesser, Of, Small, small-fits, small-left, small_right}
use Rattle.judge.proofs.Broken.{AllStageB, unless-kinds, value-kinds}
use Rattle.std.specs.Prelude.{Option}

-- kinds of a position

ordinate_kinds : (σ : sort.Sort) (x : Picked) → AllStageB (coordinate_kinds σ x)
unfolding coordinate_kinds
ordinate_kinds σ (bare x) = value-kinds σ x
ordinate_kinds σ (items is) = only (omega arith)
ordinate_kinds σ (slots ss) = only (omega arith)

number-kinds : (l : List Picked) → AllStageB (number_kinds_in l)
unfolding number_kinds_in
number-kinds [] = none
number-kinds (x ∷ []) = ordinate_kinds sort.longitude x
number-kinds (x ∷ y ∷ []) = all_append (ordinate_kinds sort.longitude x) (ordinate_kinds sort.latitude y)
number-kinds (x ∷ y ∷ z ∷ l) =
    all_append (all_append (ordinate_kinds sort.longitude x) (ordinate_kinds sort.latitude y)) (ordinate_kinds sort.any_number z)

position-kinds : (x : Picked) → AllStageB (position_kinds x)
unfolding position_kinds
position-kinds (bare x) = only (omega arith)
position-kinds (items is) =
    all_append (unless-kinds (leb 2 (count is) and leb (count is) 3) bad_ring (omega arith)) (number-kinds (list_of is))
position-kinds (slots ss) = only (omega arith)

-- What is found, of the kinds of stage B and numbered at most so.
record UpTo (top : ℕ) (x : Found) : Type 0 where
  number : x.number ≤ top
  kind : OfStageB x.kind

abbrev AllUpTo : ℕ → List Found → Type 0
AllUpTo top l = All (UpTo top) l

up_to_more : {m n : ℕ} {l : List Found} → m ≤ n → AllUpTo m l → AllUpTo n l
up_to_more h none = none
up_to_more h (more {x = x} u us) = more {x = x} (record { number = omega (arith, u.number); kind = u.kind }) (up_to_more h us)

at_up_to : (n : ℕ) {top : ℕ} {ks : List ℕ} → n ≤ top → AllStageB ks → AllUpTo top (found_at n ks)
unfolding found_at
at_up_to n h none = none
at_up_to n h (more k ks) = more (record { number = h; kind = k }) (at_up_to n h ks)

positions_up_to : (n top : ℕ) (l : List Picked) → n + length l ≤ top → AllUpTo top (positions_found n l)
unfolding positions_found
positions_up_to n top [] h = none
positions_up_to n top (x ∷ l) h = all_append (at_up_to n (omega arith) (position-kinds x)) (positions_up_to (n + 1) top l (omega arith))

closed_up_to : (n top : ℕ) → n ≤ top → (t s : Bool) → AllUpTo top (t ⇒ found_at n (unless s bad_ring) else [])
closed_up_to n top h true s = at_up_to n h (unless-kinds s bad_ring (omega arith))
closed_up_to n top h false s = none

-- a ring, a polygon: its numbers start at n
module _ (n : ℕ) where
  no-array : AllUpTo (n + 0) (found_at n (wrong_type ∷ []))
  no-array = at_up_to n (omega arith) (only (omega arith))

  ring_up_to : (x : Picked) → AllUpTo (n + item_count x) (ring n x)
  unfolding ring_found count
  ring_up_to (bare x) = no-array
  ring_up_to (items is) =
      let l = list_of is in
      let h : n ≤ n + length l = omega arith in
      all_append
      (all_append
      (all_append (at_up_to n h (unless-kinds (leb 4 (length l)) bad_ring (omega arith)))
      (at_up_to n h (unless-kinds (leb (length l) ceiling.positions) too_many (omega arith))))
      (positions_up_to n (n + length l) l (omega arith)))
      (closed_up_to n (n + length l) h (all_sound l) (sound (map position l)))
  ring_up_to (slots ss) = no-array

rings_up_to : (n : ℕ) (l : List Picked) → AllUpTo (n + item_total l) (rings_found n l)
unfolding rings_found item_total
rings_up_to n [] = none
rings_up_to n (x ∷ l) = all_append (up_to_more (omega arith) (ring_up_to n x)) (up_to_more (omega arith) (rings_up_to (n + item_count x) l))

polygon_up_to : (n : ℕ) (x : Picked) → AllUpTo (n + polygon_positions x) (polygon n x)
unfolding item_total
polygon_up_to n (bare x) = no-array n
polygon_up_to n (items is) = all_append (at_up_to n (omega arith) (unless-kinds (is_ring_count (count is)) bad_ring (omega arith))) (rings_up_to n (list_of is))
polygon_up_to n (slots ss) = no-array n

-- all of them, up to some number
polygons_up_to : (n : ℕ) (l : List Picked) → (top : ℕ) × AllUpTo top (polygons_found n l)
unfolding polygons_found
polygons_up_to n [] = (0, none)
polygons_up_to n (x ∷ l) =
    let m = n + polygon_positions x in
    let rest = polygons_up_to m l in
    (m + rest.0, all_append (up_to_more (omega arith) (polygon_up_to n x)) (up_to_more (omega arith) rest.1))

-- faults of a field in a record
module _ (p : Place) (φ : ℕ) where
  abbrev N : List Found → Option Fault
  N l = least (numbered p.«record» φ l)

  N-append : (xs ys : List Found) → N (xs ++ ys) ≡ lesser (N xs) (N ys)
  N-append xs ys = found-append (record { «record» = p.«record»; field = φ }) xs ys

  numbered-all : {P : Fault → Type 0} {top : ℕ} → ((x : Found) → UpTo top x → P (fault p.«record» φ x.number x.kind)) →
      {l : List Found} → AllUpTo top l → All P (numbered p.«record» φ l)
  unfolding numbered
  numbered-all t none = none
  numbered-all t (more {x = x} u us) = more (t x u) (numbered-all t us)

  numbered_of : {top : ℕ} {l : List Found} → AllUpTo top l → Holds (Of p.«record» φ) (N l)
  numbered_of u = holds-least (numbered-all (λ x v. record { rec = refl; field = refl; kind = v.kind }) u)

  -- where the record and the field fit
  module _ (fits : p.«record» ≤ greatest) (known : φ ≤ fields) where
    numbered_fit : {top : ℕ} {l : List Found} → top ≤ greatest → AllUpTo top l → Holds Fitting (N l)
    numbered_fit h u = holds-least (numbered-all (λ x v. record { rec = fits; field = known; sub = omega (arith, v.number); kind = v.kind }) u)

    -- one fault that fits
    number_small : (n kind : ℕ) → n ≤ greatest → OfStageB kind → Small p.«record» φ (N (found_at n (kind ∷ [])))
    unfolding found_at numbered
    number_small n kind h b =
        record {
          what = fault p.«record» φ n kind;
          is = least-one (fault p.«record» φ n kind);
          of = record { rec = refl; field = refl; kind = b };
          fits = record { rec = fits; field = known; sub = h; kind = b };
        }

    failed_small : (n kind : ℕ) → n ≤ greatest → OfStageB kind → (t : Bool) → t ≡ false → Small p.«record» φ (N (found_at n (unless t kind)))
    failed_small n kind h b t e = rw e (number_small n kind h b)

    -- with others behind it, and before it
    then_others : {top : ℕ} (xs ys : List Found) → Small p.«record» φ (N xs) → AllUpTo top ys → Small p.«record» φ (N (xs ++ ys))
    then_others xs ys s u = rw (N-append xs ys) (small-left s (numbered_of u))

    others_then : {top : ℕ} (xs ys : List Found) → AllUpTo top xs → Small p.«record» φ (N ys) → Small p.«record» φ (N (xs ++ ys))
    others_then xs ys u s = rw (N-append xs ys) (small_right (numbered_of u) s)

    -- a ring of too many positions
    long-ring : (n : ℕ) → n ≤ greatest → (x : Picked) → ceiling.positions < item_count x → Small p.«record» φ (N (ring n x))
    unfolding ring_found count
    long-ring n h (bare x) o = absurd (omega arith)
    long-ring n h (items is) o =
        let l = list_of is in
        let few = found_at n (unless (leb 4 (length l)) bad_ring) in
        let many = found_at n (unless (leb (length l) ceiling.positions) too_many) in
        let s = failed_small n too_many h (omega arith) _ (lt-leb (length l) ceiling.positions o) in
        let top : ℕ = n + length l in
        then_others {top = top} ((few ++ many) ++ positions_found n l) _
        (then_others {top = top} (few ++ many) (positions_found n l)
        (others_then {top = n} few many (at_up_to n (omega arith) (unless-kinds (leb 4 (length l)) bad_ring (omega arith))) s)
        (positions_up_to n top l (omega arith)))
        (closed_up_to n top (omega arith) (all_sound l) (sound (map position l)))
    long-ring n h (slots ss) o = absurd (omega arith)

    -- rings of which one is too long: they take more numbers than as many rings may
    long-rings : (n : ℕ) (l : List Picked) → n + ceiling.positions * length l ≤ greatest → ceiling.positions * length l < item_total l
        → Small p.«record» φ (N (rings_found n l))
    unfolding rings_found item_total
    long-rings n [] h o = absurd (omega arith)
    long-rings n (x ∷ l) h o =
        let m = n + item_count x in
        by_test (leb (item_count x) ceiling.positions)
        (λ t. let k : item_count x ≤ ceiling.positions = leb-true (item_count x) ceiling.positions t in
        others_then (ring n x) (rings_found m l) (ring_up_to n x) (long-rings m l (omega arith) (omega arith)))
        (λ t. let k : ceiling.positions < item_count x = leb-false (item_count x) ceiling.positions t in
        then_others (ring n x) (rings_found m l) (long-ring n (omega arith) x k) (rings_up_to m l))

    -- a polygon of such rings
    long-polygon : (n : ℕ) (x : Picked) → n + ceiling.positions * item_count x ≤ greatest → ceiling.positions * item_count x < polygon_positions x
        → Small p.«record» φ (N (polygon n x))
    unfolding count item_total
    long-polygon n (bare x) h o = absurd (omega arith)
    long-polygon n (items is) h o =
        let l = list_of is in
        let t = is_ring_count (length l) in
        others_then {top = n} (found_at n (unless t bad_ring)) (rings_found n l) (at_up_to n (omega arith) (unless-kinds t bad_ring (omega arith))) (long-rings n l h o)
    long-polygon n (slots ss) h o = absurd (omega arith)

    -- with numbers left for all rings
    polygons_fit : (n : ℕ) (l : List Picked) → n + ceiling.positions * item_total l ≤ greatest → Holds Fitting (N (polygons_found n l))
    unfolding polygons_found item_total numbered least
    polygons_fit n [] h = nothing
    polygons_fit n (x ∷ l) h =
        let m = n + polygon_positions x in
        let most : ℕ = ceiling.positions * item_count x in
        by_test (leb (polygon_positions x) most)
        (λ t. let o : polygon_positions x ≤ most = leb-true (polygon_positions x) most t in
        rw (N-append (polygon n x) (polygons_found m l))
        (holds-lesser (numbered_fit (omega arith) (polygon_up_to n x)) (polygons_fit m l (omega arith))))
        (λ t. let o : most < polygon_positions x = leb-false (polygon_positions x) most t in
        small-fits (then_others (polygon n x) (polygons_found m l) (long-polygon n x (omega arith) o) (polygons_up_to m l).1))

    -- of at most 15 polygons and rings; where there are more of either, that stands at 0
    pub coordinates_fit : (is : PickedItems) → Holds Fitting (N (coordinates_found is))
    unfolding coordinates_found count
    coordinates_fit is =
        let l = list_of is in
        let t = are_zone_counts (length l) (item_total l) in
        let many = found_at 0 (unless t too_many) in
        by_test t
        (λ e. let o : item_total l ≤ ceiling.zone_rings = leb-true (item_total l) ceiling.zone_rings (and_right (leb (length l) ceiling.polygons) _ e) in
        rw (N-append many (polygons_found 1 l))
        (holds-lesser (numbered_fit {top = 0} (omega arith) (at_up_to 0 (omega arith) (unless-kinds t too_many (omega arith)))) (polygons_fit 1 l (omega arith))))
        (λ e. small-fits (then_others many (polygons_found 1 l) (failed_small 0 too_many (omega arith) (omega arith) t e) (polygons_up_to 1 l).1))

  -- whatever there are, they are of the field
  pub coordinates-of : (is : PickedItems) → Holds (Of p.«record» φ) (N (coordinates_found is))
  unfolding coordinates_found
  coordinates-of is =
      let t = are_zone_counts (count is) (item_total (list_of is)) in
      rw (N-append (found_at 0 (unless t too_many)) (polygons_found 1 (list_of is)))
      (holds-lesser (numbered_of {top = 0} (at_up_to 0 (omega arith) (unless-kinds t too_many (omega arith)))) (numbered_of (polygons_up_to 1 (list_of is)).1))
