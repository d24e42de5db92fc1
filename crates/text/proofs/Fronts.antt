-- Bytes taken off the front of one list or of two: what was passed and what is left are the whole.
use mathlib.Core.List.{List, [], ◌∷◌, ◌++◌}
use mathlib.Core.Path.{◌≡◌, refl, sym, ap, ◌∙◌}
use Prim.Native.Nat.{ℕ, suc, ◌+◌}
use lib.ListN.{take, drop}
use lib.Seq.{take-add, drop-drop}

pub drop-next : {x y : List ℕ} {b : ℕ} (n m : ℕ) → n ≡ suc m → x ≡ b ∷ y → drop n x ≡ drop m y
drop-next n m e f = rw (e, f)

-- n bytes are the same at the front of x and y, and u and v are left
pub record Alike (x y : List ℕ) (n : ℕ) (u v : List ℕ) : Type 0 where
  pub front : take n x ≡ take n y
  pub first : drop n x ≡ u
  pub second : drop n y ≡ v

pub alike-none : {x y u v : List ℕ} → x ≡ u → y ≡ v → Alike x y 0 u v
alike-none e f = record { front = refl; first = e; second = f }

module _ {x y u v : List ℕ} {n : ℕ} (w : Alike x y n u v) where
  -- k more
  pub alike-more : (k : ℕ) → take k u ≡ take k v → take (n + k) x ≡ take (n + k) y
  alike-more k e =
      take-add n k x ∙ ap (λ z. take n x ++ take k z) w.first ∙ ap (λ z. z ++ take k u) w.front ∙ ap (λ z. take n y ++ z) e
      ∙ ap (λ z. take n y ++ take k z) (sym w.second) ∙ sym (take-add n k y)

  pub alike_next : {b c : ℕ} {r q : List ℕ} → u ≡ b ∷ r → v ≡ c ∷ q → b ≡ c → Alike x y (n + 1) r q
  alike_next {b} {c} {r} {q} e f g =
      record {
        front = alike-more 1 (ap (take 1) e ∙ ap (λ z. z ∷ []) g ∙ ap (take 1) (sym f));
        first = sym (drop-drop 1 n x) ∙ ap (drop 1) (w.first ∙ e);
        second = sym (drop-drop 1 n y) ∙ ap (drop 1) (w.second ∙ f);
      }
