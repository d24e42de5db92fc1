-- The order of byte strings is total and transitive, and two are equal in it exactly where they are the same: each by going through both strings, where the
-- first bytes differ or the rests decide.
use mathlib.Core.List.{List, [], ◌∷◌, ◌++◌}
use mathlib.Core.Path.{◌≡◌, refl, sym, ap, ◌∙◌}
use Prim.Native.Nat.{ℕ, ◌≤◌, ◌<◌}
use native.Mathlib.Omega.{arith}
use lib.Dec.{ltb}
use borrow.Author.Tests.{lt-ltb, le-ltb, ltb-true, ltb-false}
use Rattle.notation.proofs.Booleans.{by_test}
use Rattle.text.specs.Ordering.{order_of}
use Rattle.std.specs.Cmp.{nat_cmp_is}
use Rattle.std.specs.Ordering.{nat_cmp}
use Rattle.std.specs.declared.cmp.Ordering.{Ordering}
use Rattle.std.specs.declared.cmp.Ordering.TheVariants.{Less, Equal, Greater}

-- the order the other way round
abbrev pub turned : Ordering → Ordering
turned Less = Greater
turned Equal = Equal
turned Greater = Less

-- orders told apart
module _ {A : Type 0} where
  pub equal_less : ◌≡◌ {A = Ordering} Equal Less → A
  equal_less e = let z : ◌≡◌ {A = ℕ} 0 1 = cc in absurd (omega arith)

  pub greater_less : ◌≡◌ {A = Ordering} Greater Less → A
  greater_less e = let z : ◌≡◌ {A = ℕ} 0 1 = cc in absurd (omega arith)

  pub less_equal : ◌≡◌ {A = Ordering} Less Equal → A
  less_equal e = let z : ◌≡◌ {A = ℕ} 0 1 = cc in absurd (omega arith)

  pub less_greater : ◌≡◌ {A = Ordering} Less Greater → A
  less_greater e = let z : ◌≡◌ {A = ℕ} 0 1 = cc in absurd (omega arith)

  pub equal_greater : ◌≡◌ {A = Ordering} Equal Greater → A
  equal_greater e = let z : ◌≡◌ {A = ℕ} 0 1 = cc in absurd (omega arith)

  pub greater_equal : ◌≡◌ {A = Ordering} Greater Equal → A
  greater_equal e = let z : ◌≡◌ {A = ℕ} 0 1 = cc in absurd (omega arith)

-- two strings that begin with a byte each, by these bytes
module _ (a : ℕ) (x : List ℕ) (b : ℕ) (y : List ℕ) where
  pub first_less : a < b → order_of (a ∷ x) (b ∷ y) ≡ Less
  unfolding order_of
  first_less h = rw (order_of, lt-ltb a b h)

  pub first_greater : b < a → order_of (a ∷ x) (b ∷ y) ≡ Greater
  unfolding order_of
  first_greater h = let l : b ≤ a = omega arith in rw (order_of, le-ltb a b l, lt-ltb b a h)

  pub first-same : a ≡ b → order_of (a ∷ x) (b ∷ y) ≡ order_of x y
  unfolding order_of
  first-same h =
      let l : b ≤ a = omega arith in
      let m : a ≤ b = omega arith in
      rw (order_of, le-ltb a b l, le-ltb b a m)

pub by_first : {A : Type 0} (a b : ℕ) → (a < b → A) → (b < a → A) → (a ≡ b → A) → A
by_first a b f g h =
    by_test (ltb a b) (λ t. f (ltb-true a b t)) λ t.
    by_test (ltb b a) (λ s. g (ltb-true b a s)) λ s. h (same (ltb-false a b t) (ltb-false b a s))
  where
    same : b ≤ a → a ≤ b → a ≡ b
    same l m = omega arith

-- one step: how the order goes on from the first bytes
module _ {x y : List ℕ} where
  pub order-end : x ≡ [] → y ≡ [] → order_of x y ≡ Equal
  unfolding order_of
  order-end e f = rw (e, f)

  pub order-short : {b : ℕ} {v : List ℕ} → x ≡ [] → y ≡ b ∷ v → order_of x y ≡ Less
  unfolding order_of
  order-short e f = rw (e, f)

  pub order-long : {a : ℕ} {u : List ℕ} → x ≡ a ∷ u → y ≡ [] → order_of x y ≡ Greater
  unfolding order_of
  order-long e f = rw (e, f)

  module _ {a b : ℕ} {u v : List ℕ} (e : x ≡ a ∷ u) (f : y ≡ b ∷ v) where
    pub order_less : a < b → order_of x y ≡ Less
    order_less h = rw (e, f) (first_less a u b v h)

    pub order_greater : b < a → order_of x y ≡ Greater
    order_greater h = rw (e, f) (first_greater a u b v h)

    pub order_differ : (a ≡ b → ⊥) → nat_cmp a b ≡ order_of x y
    order_differ h =
        by_test (ltb a b) (λ t. let g = ltb-true a b t in sym (nat_cmp_is a b Less g) ∙ sym (order_less g))
        λ t. let g = ltb-false a b t in let d : b < a = omega arith in sym (nat_cmp_is a b Greater d) ∙ sym (order_greater d)

    pub order-next : a ≡ b → order_of x y ≡ order_of u v
    order-next h = rw (e, f) (first-same a u b v h)

-- the same bytes in front of both
pub order-past : (x u v : List ℕ) → order_of (x ++ u) (x ++ v) ≡ order_of u v
order-past [] u v = refl
order-past (a ∷ x) u v = first-same a (x ++ u) a (x ++ v) refl ∙ order-past x u v

-- one string ends
pub order-ended : {x : List ℕ} (y : List ℕ) → x ≡ [] → order_of [] y ≡ order_of x y
order-ended y e = ap (λ z. order_of z y) (sym e)

-- the same string
pub order-refl : (x : List ℕ) → order_of x x ≡ Equal
order-refl [] = order-end refl refl
order-refl (a ∷ x) = first-same a x a x refl ∙ order-refl x

pub order-equal : (x y : List ℕ) → order_of x y ≡ Equal → x ≡ y
unfolding order_of
order-equal [] [] e = refl
order-equal [] (b ∷ y) e = less_equal e
order-equal (a ∷ x) [] e = greater_equal e
order-equal (a ∷ x) (b ∷ y) e =
    by_first a b (λ h. less_equal (sym (first_less a x b y h) ∙ e)) (λ h. greater_equal (sym (first_greater a x b y h) ∙ e))
    λ h. let g : x ≡ y = order-equal x y (sym (first-same a x b y h) ∙ e) in cc

-- either way round
pub order-turned : (x y : List ℕ) → order_of y x ≡ turned (order_of x y)
unfolding order_of
order-turned [] [] = refl
order-turned [] (b ∷ y) = refl
order-turned (a ∷ x) [] = refl
order-turned (a ∷ x) (b ∷ y) =
    by_first a b (λ h. first_greater b y a x h ∙ ap turned (sym (first_less a x b y h))) (λ h. first_less b y a x h ∙ ap turned (sym (first_greater a x b y h)))
    λ h. first-same b y a x (sym h) ∙ order-turned x y ∙ ap turned (sym (first-same a x b y h))

-- before a string whose first byte is b: the first byte is less, or the same and the rest decides
less_first : {A : Type 0} (a : ℕ) (x : List ℕ) (b : ℕ) (y : List ℕ) → order_of (a ∷ x) (b ∷ y) ≡ Less → (a < b → A) → (a ≡ b → order_of x y ≡ Less → A) → A
less_first a x b y e f g =
    by_first a b f (λ h. greater_less (sym (first_greater a x b y h) ∙ e)) λ h. g h (sym (first-same a x b y h) ∙ e)

pub order_trans : (x y z : List ℕ) → order_of x y ≡ Less → order_of y z ≡ Less → order_of x z ≡ Less
unfolding order_of
order_trans [] [] z e f = equal_less e
order_trans [] (b ∷ y) [] e f = greater_less f
order_trans [] (b ∷ y) (c ∷ z) e f = refl
order_trans (a ∷ x) [] z e f = greater_less e
order_trans (a ∷ x) (b ∷ y) [] e f = greater_less f
order_trans (a ∷ x) (b ∷ y) (c ∷ z) e f =
    let ih = order_trans x y z in
    less_first a x b y e
    (λ h. less_first b y c z f (λ k. first_less a x c z (omega arith)) λ k r. first_less a x c z (omega arith))
    λ h q. less_first b y c z f (λ k. first_less a x c z (omega arith)) λ k r. first-same a x c z (h ∙ k) ∙ ih q r
