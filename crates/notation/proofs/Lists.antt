-- Laws of lists that the libraries do not state: a list with a first element is not empty, and zeros are 0 at any place.
use mathlib.Core.List.{List, [], ◌∷◌, nil≢cons, cons≢nil}
use mathlib.Core.Path.{◌≡◌, refl}
use Prim.Native.Nat.{ℕ, zero, suc, ◌+◌, ◌<◌}
use native.Mathlib.Numerals.{add-one}
use lib.ListN.{length, drop, get_or, replicate}
use lib.Seq.{drop-cons}

pub no_cons : {A B : Type 0} {x : A} {l : List A} → [] ≡ x ∷ l → B
no_cons e = absurd (nil≢cons e)

pub cons_nil : {A B : Type 0} {x : A} {l : List A} → x ∷ l ≡ [] → B
cons_nil e = absurd (cons≢nil e)

-- the list from place i on begins with the element there
pub at_cons : (l : List ℕ) (i : ℕ) → i < length l → drop i l ≡ get_or l i 0 ∷ drop (i + 1) l
at_cons l i h = rw (add-one, drop-cons l i 0)

-- within n zeros and past them
pub zeros : (n i : ℕ) → ◌≡◌ {A = ℕ} (get_or (replicate n 0) i 0) 0
zeros zero i = refl
zeros (suc n) zero = refl
zeros (suc n) (suc i) = zeros n i
