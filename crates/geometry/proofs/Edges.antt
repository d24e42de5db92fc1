-- What a ring adds up over its edges: its area, whether some edge has a point on it, whether an odd number of edges cross. All three are
-- one sum, of a commutative operation with a unit; so it may be taken in parts, in any order of these, and from the last edge to the first.
use mathlib.Core.Bool.{Bool, true, false, not}
use mathlib.Core.List.{List, [], ◌∷◌, ◌++◌, map, reverse, append_assoc, reverse-cons}
use mathlib.Core.Path.{◌≡◌, refl, sym, ap, ap₂, ◌∙◌}
use lib.IntN.{pos, ◌+ℤ◌, +ℤ_idl, +ℤ_assoc, +ℤ_comm}
use Rattle.notation.specs.Choice.{◌⇒◌else◌}
use Rattle.geometry.specs.Ring.{Point, turn, area_sum}
use Rattle.geometry.specs.Held.{on_edge, crosses, on_ring, odd}

pub record Additive {A : Type 0} (add : A → A → A) (none : A) : Type 0 where
  pub unit : (x : A) → add none x ≡ x
  pub assoc : (x y z : A) → add (add x y) z ≡ add x (add y z)
  pub comm : (x y : A) → add x y ≡ add y x

module _ {A : Type 0} (add : A → A → A) (none : A) where
  unfoldable pub total : (Point → Point → A) → List Point → A
  total f [] = none
  total f (a ∷ []) = none
  total f (a ∷ b ∷ l) = add (f a b) (total f (b ∷ l))

  -- of equal values; of moved points
  pub total_same : (f g : Point → Point → A) (l : List Point) → ((a b : Point) → f a b ≡ g a b) → total f l ≡ total g l
  unfolding total
  total_same f g [] h = refl
  total_same f g (a ∷ []) h = refl
  total_same f g (a ∷ b ∷ l) h = ap₂ add (h a b) (total_same f g (b ∷ l) h)

  pub total_map : (f : Point → Point → A) (m : Point → Point) (l : List Point) → total f (map m l) ≡ total (λ a b. f (m a) (m b)) l
  unfolding total
  total_map f m [] = refl
  total_map f m (a ∷ []) = refl
  total_map f m (a ∷ b ∷ l) = ap (add (f (m a) (m b))) (total_map f m (b ∷ l))

module _ {A : Type 0} (add : A → A → A) (none : A) (law : Additive add none) (f : Point → Point → A) where
  -- a line in two parts that meet at a
  pub total_parts : (l : List Point) (a : Point) (m : List Point)
      → total add none f (l ++ a ∷ m) ≡ add (total add none f (l ++ a ∷ [])) (total add none f (a ∷ m))
  unfolding total
  total_parts [] a m = sym (law.unit _)
  total_parts (b ∷ []) a m =
      ap (add (f b a)) (sym (law.unit _)) ∙ sym (law.assoc (f b a) none _)
  total_parts (b ∷ c ∷ l) a m =
      ap (add (f b c)) (total_parts (c ∷ l) a m) ∙ sym (law.assoc (f b c) _ _)

  -- a line from its last point to its first
  pub total_reversed : (l : List Point) → total add none f (reverse l) ≡ total add none (λ a b. f b a) l
  unfolding total
  total_reversed [] = refl
  total_reversed (a ∷ []) = refl
  total_reversed (a ∷ b ∷ l) =
      ap (total add none f) (reverse-cons a (b ∷ l) ∙ ap (λ (r : List Point). r ++ a ∷ []) (reverse-cons b l) ∙ append_assoc (reverse l) (b ∷ []) (a ∷ []))
      ∙ total_parts (reverse l) b (a ∷ [])
      ∙ ap₂ add (ap (total add none f) (sym (reverse-cons b l)) ∙ total_reversed (b ∷ l)) (law.comm (f b a) none ∙ law.unit (f b a))
      ∙ law.comm _ (f b a)

  -- a closed ring from another of its points on
  pub total_started : (a : Point) (l : List Point) (b : Point) (m : List Point)
      → total add none f (a ∷ l ++ b ∷ m ++ a ∷ []) ≡ total add none f (b ∷ m ++ a ∷ l ++ b ∷ [])
  total_started a l b m =
      ap (total add none f) (append_assoc (a ∷ l) (b ∷ m) (a ∷ []))
      ∙ total_parts (a ∷ l) b (m ++ a ∷ []) ∙ law.comm _ _ ∙ sym (total_parts (b ∷ m) a (l ++ b ∷ []))
      ∙ sym (ap (total add none f) (append_assoc (b ∷ m) (a ∷ l) (b ∷ [])))

-- the three sums
pub area_law : Additive ◌+ℤ◌ (pos 0)
area_law = record { unit = +ℤ_idl; assoc = +ℤ_assoc; comm = +ℤ_comm }

abbrev pub some : Bool → Bool → Bool
some s t = s ⇒ true else t

abbrev pub flip : Bool → Bool → Bool
flip s t = s ⇒ not t else t

pub some_law : Additive some false
some_law = record { unit = λ x. refl; assoc = assoc; comm = comm }
  where
    assoc : (x y z : Bool) → some (some x y) z ≡ some x (some y z)
    assoc true y z = refl
    assoc false y z = refl

    comm : (x y : Bool) → some x y ≡ some y x
    comm true true = refl
    comm true false = refl
    comm false true = refl
    comm false false = refl

pub flip_law : Additive flip false
flip_law = record { unit = λ x. refl; assoc = assoc; comm = comm }
  where
    assoc : (x y z : Bool) → flip (flip x y) z ≡ flip x (flip y z)
    assoc true true true = refl
    assoc true true false = refl
    assoc true false z = refl
    assoc false y z = refl

    comm : (x y : Bool) → flip x y ≡ flip y x
    comm true true = refl
    comm true false = refl
    comm false true = refl
    comm false false = refl

pub area_total : (l : List Point) → area_sum l ≡ total ◌+ℤ◌ (pos 0) turn l
unfolding area_sum total
area_total [] = refl
area_total (a ∷ []) = refl
area_total (a ∷ b ∷ l) = ap (◌+ℤ◌ (turn a b)) (area_total (b ∷ l))

pub on_total : (l : List Point) (q : Point) → on_ring l q ≡ total some false (λ a b. on_edge a b q) l
unfolding on_ring total
on_total [] q = refl
on_total (a ∷ []) q = refl
on_total (a ∷ b ∷ l) q = ap (some (on_edge a b q)) (on_total (b ∷ l) q)

pub odd_total : (l : List Point) (q : Point) → odd l q ≡ total flip false (λ a b. crosses a b q) l
unfolding odd total
odd_total [] q = refl
odd_total (a ∷ []) q = refl
odd_total (a ∷ b ∷ l) q = ap (flip (crosses a b q)) (odd_total (b ∷ l) q)
