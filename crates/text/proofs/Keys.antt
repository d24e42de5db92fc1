-- Keys in order: of two keys made of one number and some bytes each, the lesser has the lesser first byte where they differ, as a byte is less than 256. So
-- texts that begin alike are in the order of the keys behind that, where these differ.
use mathlib.Core.List.{List, [], ◌∷◌}
use mathlib.Core.Path.{◌≡◌, refl, sym, subst, ◌∙◌}
use Prim.Native.Nat.{ℕ, zero, suc, ◌+◌, ◌*◌, ◌^◌, ◌≤◌, ◌<◌}
use native.Mathlib.Nat.{le_trans}
use native.Mathlib.Omega.{arith}
use lib.ListN.{take, drop}
use lib.Seq.{drop-nil}
use Rattle.notation.proofs.Lists.{no_cons, cons_nil}
use Rattle.text.specs.Ordering.{order_of}
use Rattle.text.specs.inner.Key.{key_by, key_of, Room, Bytes}
use Rattle.text.proofs.Bytes.{bytes-none, bytes_drop}
use Rattle.text.proofs.Ordered.{equal_less, greater_less, by_first, first_less, first-same}
use Rattle.std.specs.declared.cmp.Ordering.TheVariants.{Less}

-- one step
pub key-done : (n key : ℕ) (l : List ℕ) → n ≡ 0 → key_by n key l ≡ key
unfolding key_by
key-done n key l e = rw e

module _ {n m : ℕ} (key : ℕ) {l : List ℕ} (e : n ≡ suc m) where
  pub key-none : l ≡ [] → key_by n key l ≡ key_by m (key * 256) []
  unfolding key_by
  key-none f = rw (e, f)

  pub key-next : {b x : ℕ} {r : List ℕ} → l ≡ b ∷ r → x ≡ b → key_by m (key * 256 + x) r ≡ key_by n key l
  unfolding key_by
  key-next f g = rw (e, f, g)

pub key-past : {x : List ℕ} (n : ℕ) → x ≡ [] → 0 ≡ key_of (drop n x)
unfolding key_by
key-past n e = rw (e, drop-nil)

-- a lesser number makes a lesser key
key-over : (n j k : ℕ) (a b : List ℕ) → Bytes a → j < k → key_by n j a < key_by n k b
unfolding key_by
key-over zero j k a b g h = h
key-over (suc n) j k [] [] g h = key-over n (j * 256) (k * 256) [] [] g (omega arith)
key-over (suc n) j k [] (y ∷ b) g h = key-over n (j * 256) (k * 256 + y) [] b g (omega arith)
key-over (suc n) j k (x ∷ a) [] g h = let s = g 0 in key-over n (j * 256 + x) (k * 256) a [] (λ i. g (suc i)) (omega arith)
key-over (suc n) j k (x ∷ a) (y ∷ b) g h = let s = g 0 in key-over n (j * 256 + x) (k * 256 + y) a b (λ i. g (suc i)) (omega arith)

both_less : {A : Type 0} {x y : ℕ} → x < y → y < x → A
both_less g h = absurd (omega arith)

-- nothing comes before no bytes
none_before : {A : Type 0} (a : List ℕ) → order_of a [] ≡ Less → A
unfolding order_of
none_before [] e = equal_less e
none_before (x ∷ a) e = greater_less e

-- so the lesser key is the lesser text's
key-first : (n k : ℕ) (a b : List ℕ) → Bytes a → Bytes b → key_by n k a < key_by n k b → order_of a b ≡ Less
unfolding key_by order_of
key-first zero k a b f g h = both_less h h
key-first (suc n) k [] [] f g h = both_less h h
key-first (suc n) k [] (y ∷ b) f g h = refl
key-first (suc n) k (x ∷ a) [] f g h =
    by_first x 0 (λ (l : x < 0). absurd (omega arith)) (λ (l : 0 < x). both_less h (key-over n (k * 256) (k * 256 + x) [] a bytes-none (omega arith)))
    λ (e : x ≡ 0). let z : k * 256 + x ≡ k * 256 = omega arith in none_before a (key-first n (k * 256) a [] (λ i. f (suc i)) bytes-none (subst (λ i. key_by n i a < key_by n (k * 256) []) z h))
key-first (suc n) k (x ∷ a) (y ∷ b) f g h =
    by_first x y (λ l. first_less x a y b l) (λ (l : y < x). both_less h (key-over n (k * 256 + y) (k * 256 + x) b a (λ i. g (suc i)) (omega arith)))
    λ e. first-same x a y b e ∙ key-first n (k * 256 + x) a b (λ i. f (suc i)) (λ i. g (suc i)) (subst (λ z. key_by n (k * 256 + x) a < key_by n (k * 256 + z) b) (sym e) h)

-- a front that both have does not matter
front-order : (k : ℕ) (a b : List ℕ) → take k a ≡ take k b → order_of a b ≡ order_of (drop k a) (drop k b)
unfolding order_of
front-order zero a b e = refl
front-order (suc k) [] [] e = refl
front-order (suc k) [] (y ∷ b) e = no_cons e
front-order (suc k) (x ∷ a) [] e = cons_nil e
front-order (suc k) (x ∷ a) (y ∷ b) e =
    let f : x ≡ y = cc in let g : take k a ≡ take k b = cc in first-same x a y b f ∙ front-order k a b g

pub key_less : (a b : List ℕ) (skip : ℕ) → Bytes a → Bytes b → take skip a ≡ take skip b → key_of (drop skip a) < key_of (drop skip b) → order_of a b ≡ Less
key_less a b skip f g e h = front-order skip a b e ∙ key-first 4 0 (drop skip a) (drop skip b) (bytes_drop skip a f) (bytes_drop skip b g) h

-- room for bytes more
room-least : (n k : ℕ) → k ≤ key_by n k []
unfolding key_by
room-least zero k = omega arith
room-least (suc n) k = le_trans (times k) (room-least n (k * 256))
  where
    times : (k : ℕ) → k ≤ k * 256
    times k = omega arith

room_less : (n j k : ℕ) → j ≤ k → key_by n j [] ≤ key_by n k []
unfolding key_by
room_less zero j k h = h
room_less (suc n) j k h = room_less n (j * 256) (k * 256) (omega arith)

pub room-start : Room 4 0
unfolding key_by
room-start = omega arith

pub room_fits : (n key : ℕ) → Room n key → key < 2 ^ 32
room_fits n key h = let g = room-least n (key + 1) in omega (arith, le_trans g h)

pub room_next : (n m key x : ℕ) → n ≡ suc m → x < key * 256 + 256 → Room n key → Room m x
room_next n m key x e g h =
    le_trans (room_less m (x + 1) ((key + 1) * 256) (omega arith)) (subst (λ z. z ≤ 2 ^ 32) (key-none (key + 1) e refl) h)
