-- Closed rings: a list that ends in its first point. Such a ring is sound where it has an area, and every sound ring is such a list.
use mathlib.Core.Bool.{true, false, not}
use mathlib.Core.List.{List, [], ◌∷◌, ◌++◌, reverse, reverse-cons, reverse-append}
use mathlib.Core.Path.{◌≡◌, sym, ap, ◌∙◌}
use lib.IntN.{ℤ, pos}
use lib.Signed.{le_z}
use Rattle.notation.proofs.Booleans.{and_left, and_right}
use Rattle.geometry.specs.Ring.{Point, equal, area_sum, same_point, ends_at, sound}
use Rattle.geometry.proofs.Tests.{differ, le_self, equal-same}

-- from a on over the points of l, and back to a
abbrev pub closed : Point → List Point → List Point
closed a l = a ∷ l ++ a ∷ []

pub closed-reversed : (a : Point) (l : List Point) → reverse (closed a l) ≡ closed a (reverse l)
closed-reversed a l = reverse-cons a (l ++ a ∷ []) ∙ ap (λ r. r ++ a ∷ []) (reverse-append l (a ∷ []))

same_self : (a : Point) → same_point a a ≡ true
unfolding same_point
same_self a = rw (le_self a.lon, le_self a.lat)

ends-closed : (a c : Point) (l : List Point) → ends_at a c (l ++ a ∷ []) ≡ true
unfolding ends_at
ends-closed a c [] = same_self a
ends-closed a c (b ∷ l) = ends-closed a b l

pub sound_area : (a : Point) (l : List Point) → sound (closed a l) ≡ not (equal (area_sum (closed a l)) (pos 0))
unfolding sound
sound_area a l = rw (ends-closed a a l)

-- and back
equal-numbers : (z w : ℤ) → equal z w ≡ true → z ≡ w
equal-numbers z w e = equal-same z w (and_left (le_z z w) (le_z w z) e) (and_right (le_z z w) (le_z w z) e)

same_point_lem : (a b : Point) → same_point a b ≡ true → a ≡ b
unfolding same_point
same_point_lem a b e =
    let p = equal-numbers a.lon b.lon (and_left (equal a.lon b.lon) (equal a.lat b.lat) e) in
    let q = equal-numbers a.lat b.lat (and_right (equal a.lon b.lon) (equal a.lat b.lat) e) in
    λ i. record { lon = p i; lat = q i }

ends : (a c : Point) (l : List Point) → ends_at a c l ≡ true → (m : List Point) × (c ∷ l ≡ m ++ a ∷ [])
unfolding ends_at
ends a c [] e = ([], ap (λ p. p ∷ []) (sym (same_point_lem a c e)))
ends a c (d ∷ l) e = let r = ends a d l e in (c ∷ r.0, ap (λ p. c ∷ p) r.1)

pub sound-closed : (l : List Point) → sound l ≡ true → (a : Point) × (m : List Point) × (l ≡ closed a m)
unfolding sound ends_at area_sum
sound-closed [] e = absurd (differ e)
sound-closed (a ∷ []) e = absurd (differ (and_right (same_point a a) false e))
sound-closed (a ∷ c ∷ l) e =
    let r = ends a c l (and_left (ends_at a c l) (not (equal (area_sum (a ∷ c ∷ l)) (pos 0))) e) in (a, r.0, ap (λ p. a ∷ p) r.1)
