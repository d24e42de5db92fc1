-- A polygon's rings one after the other: the first says which side is held, a further one takes its inside away, and an edge of any settles it. What is known so
-- far, with the rings that are left, decides.
use mathlib.Core.Bool.{Bool, true, false}
use mathlib.Core.List.{List, [], ◌∷◌}
use mathlib.Core.Path.{◌≡◌, refl, ◌∙◌}
use Rattle.notation.specs.Choice.{◌⇒◌else◌}
use Rattle.geometry.specs.Ring.{Point}
use Rattle.geometry.specs.Held.{on_ring, odd, side_of, on_any, in_any, polygon_holds}
use Rattle.geometry.specs.inner.Shifted.{stands}
use Rattle.geometry.specs.declared.Standing.TheVariants.{Edge, Is}

-- from the rings that were asked on to those that are left
unfoldable pub held_from : (first held : Bool) → List (List Point) → Point → Bool
held_from first held [] q = held
held_from first held (r ∷ rs) q = elim (stands first held r q) [ Edge ↦ true | Is b ↦ held_from false b rs q ]

module _ (first held : Bool) (q : Point) where
  pub from-none : held_from first held [] q ≡ held
  unfolding held_from
  from-none = refl

  module _ (r : List Point) (rs : List (List Point)) where
    pub from-edge : Edge ≡ stands first held r q → held_from first held (r ∷ rs) q ≡ true
    unfolding held_from
    from-edge e = rw (held_from, ← e)

    pub from_next : (b : Bool) → Is b ≡ stands first held r q → held_from first held (r ∷ rs) q ≡ held_from false b rs q
    unfolding held_from
    from_next b e = rw (held_from, ← e)

-- further rings: an edge of one, the inside of one, or what was held
further : (held : Bool) (l : List (List Point)) (q : Point) → held_from false held l q ≡ (on_any l q ⇒ true else in_any l q ⇒ false else held)
unfolding held_from stands on_any in_any
further held [] q = refl
further held (r ∷ rs) q = go (on_ring r q) (odd r q) (further held rs q) (further false rs q)
  where
    either : (on inside : Bool) → (on ⇒ true else inside ⇒ false else false) ≡ (on ⇒ true else false)
    either true inside = refl
    either false true = refl
    either false false = refl

    go : (on inside : Bool) → held_from false held rs q ≡ (on_any rs q ⇒ true else in_any rs q ⇒ false else held)
        → held_from false false rs q ≡ (on_any rs q ⇒ true else in_any rs q ⇒ false else false)
        → elim (on ⇒ Edge else Is (inside ⇒ false else held)) [ Edge ↦ true | Is b ↦ held_from false b rs q ]
        ≡ ((on ⇒ true else on_any rs q) ⇒ true else (inside ⇒ true else in_any rs q) ⇒ false else held)
    go true inside h k = refl
    go false true h k = k ∙ either (on_any rs q) (in_any rs q)
    go false false h k = h

-- all of them
pub from_first : (l : List (List Point)) (q : Point) → held_from true false l q ≡ polygon_holds side_of l q
unfolding held_from stands on_any polygon_holds
from_first [] q = refl
from_first (r ∷ rs) q = go (on_ring r q) (further (side_of r q) rs q)
  where
    go : (on : Bool) → held_from false (side_of r q) rs q ≡ (on_any rs q ⇒ true else in_any rs q ⇒ false else side_of r q)
        → elim (on ⇒ Edge else Is (side_of r q)) [ Edge ↦ true | Is b ↦ held_from false b rs q ]
        ≡ ((on ⇒ true else on_any rs q) ⇒ true else in_any rs q ⇒ false else side_of r q)
    go true h = refl
    go false h = h
