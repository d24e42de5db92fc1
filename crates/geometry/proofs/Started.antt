-- A closed ring is the same from whichever of its points its list begins: the sums over its edges are of the same two parts, in the
-- other order.
use mathlib.Core.Bool.{false, not}
use mathlib.Core.List.{List, ◌∷◌, ◌++◌}
use mathlib.Core.Path.{◌≡◌, sym, ap, ◌∙◌}
use lib.IntN.{pos, ◌+ℤ◌}
use Rattle.geometry.specs.Ring.{Point, equal, turn, area_sum, clockwise, sound}
use Rattle.geometry.specs.Held.{on_edge, crosses, on_ring, odd, holds}
use Rattle.geometry.proofs.Closed.{closed, sound_area}
use Rattle.geometry.proofs.Edges.{total_started, some, flip, area_law, some_law, flip_law, area_total, on_total, odd_total}

-- The ring of a, the points of l, b and the points of m, begun at a and begun at b.
module _ (a : Point) (l : List Point) (b : Point) (m : List Point) where
  pub area_started : area_sum (closed a (l ++ b ∷ m)) ≡ area_sum (closed b (m ++ a ∷ l))
  area_started =
      area_total (closed a (l ++ b ∷ m)) ∙ total_started ◌+ℤ◌ (pos 0) area_law turn a l b m ∙ sym (area_total (closed b (m ++ a ∷ l)))

  pub sound_started : sound (closed a (l ++ b ∷ m)) ≡ sound (closed b (m ++ a ∷ l))
  sound_started =
      sound_area a (l ++ b ∷ m) ∙ ap (λ z. not (equal z (pos 0))) area_started ∙ sym (sound_area b (m ++ a ∷ l))

  module _ (q : Point) where
    pub on_started : on_ring (closed a (l ++ b ∷ m)) q ≡ on_ring (closed b (m ++ a ∷ l)) q
    on_started =
        on_total (closed a (l ++ b ∷ m)) q ∙ total_started some false some_law (λ c d. on_edge c d q) a l b m
        ∙ sym (on_total (closed b (m ++ a ∷ l)) q)

    pub odd_started : odd (closed a (l ++ b ∷ m)) q ≡ odd (closed b (m ++ a ∷ l)) q
    odd_started =
        odd_total (closed a (l ++ b ∷ m)) q ∙ total_started flip false flip_law (λ c d. crosses c d q) a l b m
        ∙ sym (odd_total (closed b (m ++ a ∷ l)) q)

    pub holds_started : holds (closed a (l ++ b ∷ m)) q ≡ holds (closed b (m ++ a ∷ l)) q
    unfolding holds clockwise
    holds_started = rw (on_started, odd_started, area_started)
