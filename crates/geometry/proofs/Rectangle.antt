-- A rectangle that goes clockwise holds what lies in its range of lon and of lat, ends included, and nothing else; off its edges it has inside what lies strictly between. Each of its edges has a
-- side whose sign is the order of two coordinates, so all tests are of these orders; a lon, and a lat, has five places to them.
use mathlib.Core.Bool.{Bool, true, false, not}
use mathlib.Core.List.{List, [], ◌∷◌}
use mathlib.Core.Path.{◌≡◌, refl, ap, ap₂, ◌∙◌}
use Prim.Native.Nat.{◌+◌, ◌≤◌, ◌<◌}
use native.Mathlib.Omega.{arith}
use lib.IntN.{ℤ, pos, ◌+ℤ◌, ◌-ℤ◌, ◌*ℤ◌}
use lib.Signed.{le_z, lt_z}
use borrow.Author.Tests.{le-leb, lt-leb}
use Rattle.notation.specs.Choice.{◌⇒◌else◌, ◌and◌}
use Rattle.signed.proofs.Gap.{gap_le, gap_same, gap_pos, gap_add, gap_minus, gap_mul}
use Rattle.signed.proofs.Parts.{up, down, parts}
use Rattle.geometry.specs.Ring.{Point, turn, area_sum, clockwise}
use Rattle.geometry.specs.Held.{side, between, on_edge, crosses, on_ring, odd, holds}
use Rattle.geometry.proofs.Edges.{some, flip}
use Rattle.geometry.proofs.Signs.{above-minus, above-times, sign_above, sign_below, sign_zero}
use Rattle.geometry.proofs.Tests.{less_is, le_self, at_most, more}

at-most-is : (z w : ℤ) → up z + down w ≤ up w + down z → le_z z w ≡ true
at-most-is z w h = gap_le (parts z) (parts w) ∙ le-leb (up z + down w) (up w + down z) h

more-is : (z w : ℤ) → up w + down z < up z + down w → le_z z w ≡ false
more-is z w h = gap_le (parts z) (parts w) ∙ lt-leb (up z + down w) (up w + down z) h

-- x to the ends w and e of a range: w ≤ x, x ≤ w, x ≤ e, e ≤ x
data Against : Bool → Bool → Bool → Bool → Type 0 where
  before : Against false true true false
  first : Against true true true false
  within : Against true false true false
  last : Against true false true true
  after : Against true false false true

against : (w e x : ℤ) → le_z e w ≡ false → Against (le_z w x) (le_z x w) (le_z x e) (le_z e x)
against w e x h = outer (le_z w x) refl
  where
    wide : up w + down e < up e + down w
    wide = more e w h

    upper : le_z w x ≡ true → le_z x w ≡ false → (t : Bool) → le_z x e ≡ t → (u : Bool) → le_z e x ≡ u → Against true false t u
    upper a b true c true d = last
    upper a b true c false d = within
    upper a b false c true d = after
    upper a b false c false d = absurd (omega (arith, more x e c, more e x d))

    inner : le_z w x ≡ true → (t : Bool) → le_z x w ≡ t → Against true t (le_z x e) (le_z e x)
    inner a true b =
        let f = at_most w x a in let g = at_most x w b in
        rw (at-most-is x e (omega (arith, wide)), more-is e x (omega (arith, wide))) first
    inner a false b = upper a b (le_z x e) refl (le_z e x) refl

    outer : (t : Bool) → le_z w x ≡ t → Against t (le_z x w) (le_z x e) (le_z e x)
    outer true a = inner a (le_z x w) refl
    outer false a =
        let f = more w x a in
        rw (at-most-is x w (omega arith), at-most-is x e (omega (arith, wide)), more-is e x (omega (arith, wide))) before

abbrev pub corner : ℤ → ℤ → Point
corner x y = record { lon = x; lat = y }

-- from the south-west northward
abbrev pub rectangle : ℤ → ℤ → ℤ → ℤ → List Point
rectangle w e s n = corner w s ∷ corner w n ∷ corner e n ∷ corner e s ∷ corner w s ∷ []

-- an edge along a meridian, and one along a parallel, whichever way they go
meridian : (x y z qx qy : ℤ) → (x -ℤ x) *ℤ (qy -ℤ y) -ℤ (z -ℤ y) *ℤ (qx -ℤ x) ≡ (z -ℤ y) *ℤ (x -ℤ qx)
meridian x y z qx qy =
    let x' = parts x in let y' = parts y in let z' = parts z in let qx' = parts qx in let qy' = parts qy in
    gap_same (gap_minus (gap_mul (gap_minus x' x') (gap_minus qy' y')) (gap_mul (gap_minus z' y') (gap_minus qx' x')))
    (gap_mul (gap_minus z' y') (gap_minus x' qx')) (omega arith)

parallel : (x y z qx qy : ℤ) → (z -ℤ x) *ℤ (qy -ℤ y) -ℤ (y -ℤ y) *ℤ (qx -ℤ x) ≡ (z -ℤ x) *ℤ (qy -ℤ y)
parallel x y z qx qy =
    let x' = parts x in let y' = parts y in let z' = parts z in let qx' = parts qx in let qy' = parts qy in
    gap_same (gap_minus (gap_mul (gap_minus z' x') (gap_minus qy' y')) (gap_mul (gap_minus y' y') (gap_minus qx' x')))
    (gap_mul (gap_minus z' x') (gap_minus qy' y')) (omega arith)

backwards : (y z u v : ℤ) → (y -ℤ z) *ℤ (u -ℤ v) ≡ (z -ℤ y) *ℤ (v -ℤ u)
backwards y z u v =
    let y' = parts y in let z' = parts z in let u' = parts u in let v' = parts v in
    gap_same (gap_mul (gap_minus y' z') (gap_minus u' v')) (gap_mul (gap_minus z' y') (gap_minus v' u')) (omega arith)

area_numbers : (w e s n : ℤ)
    → (w *ℤ n -ℤ w *ℤ s) +ℤ ((w *ℤ n -ℤ e *ℤ n) +ℤ ((e *ℤ s -ℤ e *ℤ n) +ℤ ((e *ℤ s -ℤ w *ℤ s) +ℤ pos 0))) ≡ pos 2 *ℤ (e -ℤ w) *ℤ (s -ℤ n)
area_numbers w e s n =
    let w' = parts w in let e' = parts e in let s' = parts s in let n' = parts n in
    gap_same
    (gap_add (gap_minus (gap_mul w' n') (gap_mul w' s'))
    (gap_add (gap_minus (gap_mul w' n') (gap_mul e' n'))
    (gap_add (gap_minus (gap_mul e' s') (gap_mul e' n')) (gap_add (gap_minus (gap_mul e' s') (gap_mul w' s')) (gap_pos 0)))))
    (gap_mul (gap_mul (gap_pos 2) (gap_minus e' w')) (gap_minus s' n'))
    (omega arith)

-- between two numbers, by their order
between_up : (a b c : ℤ) → le_z b a ≡ false → between a b c ≡ (le_z a c and le_z c b)
between_up a b c h = let g = more b a h in rw (at-most-is a b (omega arith))

between_down : (a b c : ℤ) → le_z a b ≡ false → between a b c ≡ (le_z b c and le_z c a)
between_down a b c h = rw h

between_self : (a c : ℤ) → between a a c ≡ (le_z a c and le_z c a)
between_self a c = rw (le_self a)

-- an edge along a parallel crosses none
never : (t u v : Bool) → (t and not t ⇒ u else t and not t ⇒ v else false) ≡ false
never true u v = refl
never false u v = refl

level : (a b y : ℤ) (q : Point) → crosses (corner a y) (corner b y) q ≡ false
unfolding crosses
level a b y q =
    rw (less_is q.lat y)
    (never (le_z y q.lat) (lt_z (pos 0) (side (corner a y) (corner b y) q)) (lt_z (side (corner a y) (corner b y) q) (pos 0)))

-- the tests of all four edges: one has the point on it; an odd number cross
abbrev on_four : (a b c d a' b' c' d' : Bool) → Bool
on_four a b c d a' b' c' d' =
    some ((a and b) and ((a and b) and (a' and c')))
    (some ((c' and d') and ((a and c) and (d' and c')))
    (some ((c and d) and ((d and c) and (a' and c'))) (some ((a' and b') and ((a and c) and (a' and b'))) false)))

abbrev odd_of_four : (a b c d a' b' c' d' : Bool) → Bool
odd_of_four a b c d a' b' c' d' =
    flip (a' and not d' ⇒ not a else d' and not a' ⇒ not b else false)
    (flip false (flip (d' and not a' ⇒ not c else a' and not d' ⇒ not d else false) (flip false false)))

-- at each of the places: what is held, and what is inside and on no edge
settled : {a b c d a' b' c' d' : Bool} → Against a b c d → Against a' b' c' d'
    → (on_four a b c d a' b' c' d' ⇒ true else odd_of_four a b c d a' b' c' d') ≡ ((a and c) and (a' and c'))
settled before before = refl
settled before first = refl
settled before within = refl
settled before last = refl
settled before after = refl
settled first before = refl
settled first first = refl
settled first within = refl
settled first last = refl
settled first after = refl
settled within before = refl
settled within first = refl
settled within within = refl
settled within last = refl
settled within after = refl
settled last before = refl
settled last first = refl
settled last within = refl
settled last last = refl
settled last after = refl
settled after before = refl
settled after first = refl
settled after within = refl
settled after last = refl
settled after after = refl

strictly : {a b c d a' b' c' d' : Bool} → Against a b c d → Against a' b' c' d'
    → (on_four a b c d a' b' c' d' ⇒ false else odd_of_four a b c d a' b' c' d') ≡ ((not b and not d) and (not b' and not d'))
strictly before before = refl
strictly before first = refl
strictly before within = refl
strictly before last = refl
strictly before after = refl
strictly first before = refl
strictly first first = refl
strictly first within = refl
strictly first last = refl
strictly first after = refl
strictly within before = refl
strictly within first = refl
strictly within within = refl
strictly within last = refl
strictly within after = refl
strictly last before = refl
strictly last first = refl
strictly last within = refl
strictly last last = refl
strictly last after = refl
strictly after before = refl
strictly after first = refl
strictly after within = refl
strictly after last = refl
strictly after after = refl

module _ (w e s n : ℤ) (wide : le_z e w ≡ false) (high : le_z n s ≡ false) (q : Point) where
  width : lt_z (pos 0) (e -ℤ w) ≡ true
  width = above-minus w e ∙ less_is w e ∙ ap not wide

  height : lt_z (pos 0) (n -ℤ s) ≡ true
  height = above-minus s n ∙ less_is s n ∙ ap not high

  area_below : lt_z (area_sum (rectangle w e s n)) (pos 0) ≡ true
  unfolding area_sum turn
  area_below =
      sign_below (area_sum (rectangle w e s n)) (pos 2 *ℤ (e -ℤ w)) s n (above-times (pos 2) (e -ℤ w) refl ∙ width) (area_numbers w e s n)
      ∙ ap not high

  -- the side of each edge
  side-west : side (corner w s) (corner w n) q ≡ (n -ℤ s) *ℤ (w -ℤ q.lon)
  unfolding side
  side-west = meridian w s n q.lon q.lat

  side-north : side (corner w n) (corner e n) q ≡ (e -ℤ w) *ℤ (q.lat -ℤ n)
  unfolding side
  side-north = parallel w n e q.lon q.lat

  side-east : side (corner e n) (corner e s) q ≡ (n -ℤ s) *ℤ (q.lon -ℤ e)
  unfolding side
  side-east = meridian e n s q.lon q.lat ∙ backwards s n e q.lon

  side_south : side (corner e s) (corner w s) q ≡ (e -ℤ w) *ℤ (s -ℤ q.lat)
  unfolding side
  side_south = parallel e s w q.lon q.lat ∙ backwards w e q.lat s

  -- on each edge
  on-west : on_edge (corner w s) (corner w n) q
      ≡ ((le_z w q.lon and le_z q.lon w) and ((le_z w q.lon and le_z q.lon w) and (le_z s q.lat and le_z q.lat n)))
  unfolding on_edge
  on-west =
      ap₂ ◌and◌ (sign_zero _ (n -ℤ s) w q.lon height side-west)
      (ap₂ ◌and◌ (between_self w q.lon) (between_up s n q.lat high))

  on-north : on_edge (corner w n) (corner e n) q
      ≡ ((le_z q.lat n and le_z n q.lat) and ((le_z w q.lon and le_z q.lon e) and (le_z n q.lat and le_z q.lat n)))
  unfolding on_edge
  on-north =
      ap₂ ◌and◌ (sign_zero _ (e -ℤ w) q.lat n width side-north)
      (ap₂ ◌and◌ (between_up w e q.lon wide) (between_self n q.lat))

  on-east : on_edge (corner e n) (corner e s) q
      ≡ ((le_z q.lon e and le_z e q.lon) and ((le_z e q.lon and le_z q.lon e) and (le_z s q.lat and le_z q.lat n)))
  unfolding on_edge
  on-east =
      ap₂ ◌and◌ (sign_zero _ (n -ℤ s) q.lon e height side-east)
      (ap₂ ◌and◌ (between_self e q.lon) (between_down n s q.lat high))

  on_south : on_edge (corner e s) (corner w s) q
      ≡ ((le_z s q.lat and le_z q.lat s) and ((le_z w q.lon and le_z q.lon e) and (le_z s q.lat and le_z q.lat s)))
  unfolding on_edge
  on_south =
      ap₂ ◌and◌ (sign_zero _ (e -ℤ w) s q.lat width side_south)
      (ap₂ ◌and◌ (between_down e w q.lon wide) (between_self s q.lat))

  -- across the parallel
  across_west : crosses (corner w s) (corner w n) q
      ≡ (le_z s q.lat and not (le_z n q.lat) ⇒ not (le_z w q.lon) else le_z n q.lat and not (le_z s q.lat) ⇒ not (le_z q.lon w) else false)
  unfolding crosses
  across_west =
      rw (sign_above _ (n -ℤ s) w q.lon height side-west, sign_below _ (n -ℤ s) w q.lon height side-west, less_is q.lat n, less_is q.lat s)

  across_east : crosses (corner e n) (corner e s) q
      ≡ (le_z n q.lat and not (le_z s q.lat) ⇒ not (le_z q.lon e) else le_z s q.lat and not (le_z n q.lat) ⇒ not (le_z e q.lon) else false)
  unfolding crosses
  across_east =
      rw (sign_above _ (n -ℤ s) q.lon e height side-east, sign_below _ (n -ℤ s) q.lon e height side-east, less_is q.lat n, less_is q.lat s)

  pub rectangle_holds : holds (rectangle w e s n) q ≡ ((le_z w q.lon and le_z q.lon e) and (le_z s q.lat and le_z q.lat n))
  unfolding holds on_ring odd clockwise
  rectangle_holds =
      rw (on-west, on-north, on-east, on_south, across_west, level w e n q, across_east, level e w s q, area_below)
      (settled (against w e q.lon wide) (against s n q.lat high))

  -- as a hole it takes away what lies strictly between
  pub rectangle_inside : (on_ring (rectangle w e s n) q ⇒ false else odd (rectangle w e s n) q)
      ≡ ((not (le_z q.lon w) and not (le_z e q.lon)) and (not (le_z q.lat s) and not (le_z n q.lat)))
  unfolding on_ring odd
  rectangle_inside =
      rw (on-west, on-north, on-east, on_south, across_west, level w e n q, across_east, level e w s q)
      (strictly (against w e q.lon wide) (against s n q.lat high))
