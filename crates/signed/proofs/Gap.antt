-- An integer as a pair of naturals: `Gap z a b` says that z is a less b. Every law of sums, products and order in ℤ then is one in ℕ,
-- which `omega` decides: both sides get their gap, built up as their terms are, and the pairs are compared.
use mathlib.Core.Bool.{Bool, true, false, cond, not}
use mathlib.Core.Path.{◌≡◌, refl, sym, ap, ◌∙◌}
use Prim.Native.Nat.{ℕ, zero, suc, ◌+◌, ◌*◌, ◌-◌, ◌≤◌, ◌<◌}
use native.Mathlib.Omega.{arith}
use lib.Dec.{ltb, leb, eqb}
use lib.IntN.{ℤ, pos, negsuc, neg_ℤ, neg_ℤ-neg_ℤ, nat_abs, sub_ℕ, ◌+ℤ◌, ◌-ℤ◌, ◌*ℤ◌}
use lib.Signed.{lt_z, le_z}
use borrow.Author.Tests.{ltb-true, ltb-false, leb-true, leb-false, eqb-true, eqb-false, lt-ltb, le-ltb, le-leb, lt-leb, eq-eqb, ne_eqb}
use Rattle.signed.specs.Signed.{signed}
use Rattle.signed.specs.inner.Difference.{difference, is_zero}

-- z + b = a, without a negative number
abbrev pub Apart : ℤ → ℕ → ℕ → Type 0
Apart (pos k) a b = a ≡ b + k
Apart (negsuc k) a b = b ≡ a + suc k

pub record Gap (z : ℤ) (a b : ℕ) : Type 0 where
  pub apart : Apart z a b

-- Equal tests, where each of the two holds with the other.
lt_same : (a b c d : ℕ) → (a < b → c < d) → (b ≤ a → d ≤ c) → ltb a b ≡ ltb c d
lt_same a b c d if-so if-not = go (ltb a b) refl
  where
    go : (t : Bool) → ltb a b ≡ t → t ≡ ltb c d
    go true e = sym (lt-ltb c d (if-so (ltb-true a b e)))
    go false e = sym (le-ltb c d (if-not (ltb-false a b e)))

le_same : (a b c d : ℕ) → (a ≤ b → c ≤ d) → (b < a → d < c) → leb a b ≡ leb c d
le_same a b c d if-so if-not = go (leb a b) refl
  where
    go : (t : Bool) → leb a b ≡ t → t ≡ leb c d
    go true e = sym (le-leb c d (if-so (leb-true a b e)))
    go false e = sym (lt-leb c d (if-not (leb-false a b e)))

eq_same : (a b c d : ℕ) → (a ≡ b → c ≡ d) → (c ≡ d → a ≡ b) → eqb a b ≡ eqb c d
eq_same a b c d there back = go (eqb a b) refl
  where
    go : (t : Bool) → eqb a b ≡ t → t ≡ eqb c d
    go true e = sym (eq-eqb c d (there (eqb-true a b e)))
    go false e = sym (ne_eqb c d (λ q. eqb-false a b e (back q)))

-- The laws for each form of the integers; below they are laws of `Gap`, whose numbers are inferred.
apart-sub : (a b : ℕ) → Apart (sub_ℕ a b) a b
apart-sub a b = go (ltb a b) refl
  where
    go : (t : Bool) → ltb a b ≡ t → Apart (cond t (negsuc (b - suc a)) (pos (a - b))) a b
    go true e = let h : a < b = ltb-true _ _ e in omega arith
    go false e = let h : b ≤ a = ltb-false _ _ e in omega arith

apart-difference : (a b : ℕ) → Apart (pos a -ℤ pos b) a b
apart-difference a zero = omega arith
apart-difference a (suc b) = apart-sub a (suc b)

apart-moved : (z : ℤ) (a b c d : ℕ) → Apart z a b → a + d ≡ c + b → Apart z c d
apart-moved (pos k) a b c d g e = omega arith
apart-moved (negsuc k) a b c d g e = omega arith

apart-back : (z : ℤ) (a b c d : ℕ) → Apart z a b → Apart z c d → a + d ≡ c + b
apart-back (pos k) a b c d g h = omega arith
apart-back (negsuc k) a b c d g h = omega arith

apart-same : (z w : ℤ) (a b c d : ℕ) → Apart z a b → Apart w c d → a + d ≡ c + b → z ≡ w
apart-same (pos k) (pos l) a b c d g h e = let q : k ≡ l = omega arith in ap pos q
apart-same (pos k) (negsuc l) a b c d g h e = absurd (omega arith)
apart-same (negsuc k) (pos l) a b c d g h e = absurd (omega arith)
apart-same (negsuc k) (negsuc l) a b c d g h e = let q : k ≡ l = omega arith in ap negsuc q

apart_negated : (z : ℤ) (a b : ℕ) → Apart z a b → Apart (neg_ℤ z) b a
apart_negated (pos zero) a b g = omega arith
apart_negated (pos (suc k)) a b g = omega arith
apart_negated (negsuc k) a b g = omega arith

apart_add : (z w : ℤ) (a b c d : ℕ) → Apart z a b → Apart w c d → Apart (z +ℤ w) (a + c) (b + d)
apart_add (pos k) (pos l) a b c d g h = omega arith
apart_add (pos k) (negsuc l) a b c d g h =
    apart-moved (sub_ℕ k (suc l)) k (suc l) (a + c) (b + d) (apart-sub k (suc l)) (omega arith)
apart_add (negsuc k) (pos l) a b c d g h =
    apart-moved (sub_ℕ l (suc k)) l (suc k) (a + c) (b + d) (apart-sub l (suc k)) (omega arith)
apart_add (negsuc k) (negsuc l) a b c d g h = omega arith

apart_mul : (z w : ℤ) (a b c d : ℕ) → Apart z a b → Apart w c d → Apart (z *ℤ w) (a * c + b * d) (a * d + b * c)
apart_mul (pos k) (pos l) a b c d g h = rw (g, h) (omega arith)
apart_mul (pos k) (negsuc l) a b c d g h =
    apart_negated (pos (k * suc l)) (a * d + b * c) (a * c + b * d) (rw (g, h) (omega arith))
apart_mul (negsuc k) (pos l) a b c d g h =
    apart_negated (pos (suc k * l)) (a * d + b * c) (a * c + b * d) (rw (g, h) (omega arith))
apart_mul (negsuc k) (negsuc l) a b c d g h = rw (g, h) (omega arith)

apart_lt : (z w : ℤ) (a b c d : ℕ) → Apart z a b → Apart w c d → lt_z z w ≡ ltb (a + d) (c + b)
apart_lt (pos k) (pos l) a b c d g h = lt_same k l (a + d) (c + b) (omega arith) (omega arith)
apart_lt (pos k) (negsuc l) a b c d g h = sym (le-ltb (a + d) (c + b) (omega arith))
apart_lt (negsuc k) (pos l) a b c d g h = sym (lt-ltb (a + d) (c + b) (omega arith))
apart_lt (negsuc k) (negsuc l) a b c d g h = lt_same l k (a + d) (c + b) (omega arith) (omega arith)

apart_le : (z w : ℤ) (a b c d : ℕ) → Apart z a b → Apart w c d → le_z z w ≡ leb (a + d) (c + b)
apart_le (pos k) (pos l) a b c d g h = le_same k l (a + d) (c + b) (omega arith) (omega arith)
apart_le (pos k) (negsuc l) a b c d g h = sym (lt-leb (a + d) (c + b) (omega arith))
apart_le (negsuc k) (pos l) a b c d g h = sym (le-leb (a + d) (c + b) (omega arith))
apart_le (negsuc k) (negsuc l) a b c d g h = le_same l k (a + d) (c + b) (omega arith) (omega arith)

apart-zero : (z : ℤ) (a b : ℕ) → Apart z a b → is_zero z ≡ eqb a b
apart-zero (pos k) a b g = eq_same k 0 a b (omega arith) (omega arith)
apart-zero (negsuc k) a b g = sym (ne_eqb a b (omega arith))

apart-size : (z : ℤ) (a b h : ℕ) → Apart z a b → a ≤ b + h → b ≤ a + h → nat_abs z ≤ h
apart-size (pos k) a b h g p q = omega arith
apart-size (negsuc k) a b h g p q = omega arith

-- the gap of a difference, of a natural and of a natural's negative
pub gap : (a b : ℕ) → Gap (difference a b) a b
unfolding difference
gap a b = record { apart = apart-difference a b }

pub gap_pos : (a : ℕ) → Gap (pos a) a 0
gap_pos a = record { apart = omega arith }

pub gap_negated : {z : ℤ} {a b : ℕ} → Gap z a b → Gap (neg_ℤ z) b a
gap_negated {z} g = record { apart = apart_negated z _ _ g.apart }

pub gap_neg : (b : ℕ) → Gap (neg_ℤ (pos b)) 0 b
gap_neg b = gap_negated (gap_pos b)

-- two pairs of one integer
pub gap_back : {z : ℤ} {a b c d : ℕ} → Gap z a b → Gap z c d → a + d ≡ c + b
gap_back {z} g h = apart-back z _ _ _ _ g.apart h.apart

module _ {z w : ℤ} {a b c d : ℕ} (g : Gap z a b) (h : Gap w c d) where
  pub gap_same : a + d ≡ c + b → z ≡ w
  gap_same e = apart-same z w a b c d g.apart h.apart e

  pub gap_add : Gap (z +ℤ w) (a + c) (b + d)
  gap_add = record { apart = apart_add z w a b c d g.apart h.apart }

  pub gap_minus : Gap (z -ℤ w) (a + d) (b + c)
  gap_minus = record { apart = apart_add z (neg_ℤ w) a b d c g.apart (apart_negated w c d h.apart) }

  pub gap_mul : Gap (z *ℤ w) (a * c + b * d) (a * d + b * c)
  gap_mul = record { apart = apart_mul z w a b c d g.apart h.apart }

  -- tests of order
  pub gap_lt : lt_z z w ≡ ltb (a + d) (c + b)
  gap_lt = apart_lt z w a b c d g.apart h.apart

  pub gap_le : le_z z w ≡ leb (a + d) (c + b)
  gap_le = apart_le z w a b c d g.apart h.apart

module _ {z : ℤ} {a b : ℕ} (g : Gap z a b) where
  -- tests against zero
  pub gap_below : lt_z z (pos 0) ≡ ltb a b
  gap_below = gap_lt g (gap_pos 0) ∙ lt_same (a + 0) (0 + b) a b (omega arith) (omega arith)

  pub gap_above : lt_z (pos 0) z ≡ ltb b a
  gap_above = gap_lt (gap_pos 0) g ∙ lt_same (0 + b) (a + 0) b a (omega arith) (omega arith)

  pub gap_natural : le_z (pos 0) z ≡ leb b a
  gap_natural = gap_le (gap_pos 0) g ∙ le_same (0 + b) (a + 0) b a (omega arith) (omega arith)

  pub gap_zero : is_zero z ≡ eqb a b
  gap_zero = apart-zero z a b g.apart

  -- how large the integer is
  pub gap_size : (h : ℕ) → a ≤ b + h → b ≤ a + h → nat_abs z ≤ h
  gap_size h p q = apart-size z a b h g.apart p q

-- differences from the same number are ordered and told apart as the numbers are
pub difference_lt : (a b s : ℕ) → lt_z (difference a s) (difference b s) ≡ ltb a b
difference_lt a b s = gap_lt (gap a s) (gap b s) ∙ lt_same (a + s) (b + s) a b (omega arith) (omega arith)

pub difference_le : (a b s : ℕ) → le_z (difference a s) (difference b s) ≡ leb a b
difference_le a b s = gap_le (gap a s) (gap b s) ∙ le_same (a + s) (b + s) a b (omega arith) (omega arith)

-- a difference by the order of its numbers
pub difference_up : (a b : ℕ) → b ≤ a → difference a b ≡ pos (a - b)
difference_up a b h = gap_same (gap a b) (gap_pos (a - b)) (omega arith)

pub difference_down : (a b : ℕ) → a ≤ b → difference a b ≡ neg_ℤ (pos (b - a))
difference_down a b h = gap_same (gap a b) (gap_neg (b - a)) (omega arith)

-- a size and its sign
pub signed-size : (s : Bool) (n : ℕ) → nat_abs (signed s n) ≡ n
signed-size true zero = refl
signed-size true (suc n) = refl
signed-size false n = refl

pub signed_negated : (s : Bool) (n : ℕ) → neg_ℤ (signed s n) ≡ signed (not s) n
signed_negated true n = neg_ℤ-neg_ℤ (pos n)
signed_negated false n = refl

-- two sizes of one sign are ordered as they stand, or the other way round
pub signed_le : (s : Bool) (a b : ℕ) → le_z (signed s a) (signed s b) ≡ cond s (leb b a) (leb a b)
signed_le true a b = gap_le (gap_neg a) (gap_neg b) ∙ le_same (0 + b) (0 + a) b a (omega arith) (omega arith)
signed_le false a b = refl

pub signed_across : (a b : ℕ) → le_z (neg_ℤ (pos a)) (pos b) ≡ true
signed_across a b = gap_le (gap_neg a) (gap_pos b) ∙ le-leb (0 + 0) (b + a) (omega arith)
