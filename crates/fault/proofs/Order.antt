-- The order of faults is strict and total: of two that differ just one comes before the other. The first part in which they differ
-- decides, so each law is shown of one part and whatever decides after it.
use mathlib.Core.Bool.{Bool, true, false}
use mathlib.Core.Logic.{◌⊎◌, inl, inr, ⊎_elim}
use mathlib.Core.Path.{◌≡◌, refl, sym, ◌∙◌}
use Prim.Native.Nat.{ℕ, ◌<◌, ◌≤◌}
use native.Mathlib.Omega.{arith}
use lib.Dec.{ltb}
use borrow.Author.Tests.{ltb-true, ltb-false, lt-ltb, le-ltb}
use Rattle.notation.specs.Choice.{◌⇒◌else◌}
use Rattle.notation.proofs.Booleans.{by_test, true-false}
use Rattle.std.proofs.Common.{Ordering, Less, Equal, Greater}
use Rattle.std.specs.Ordering.{MatchOrdering, is_lt, nat_cmp, ordering_then}
use Rattle.std.proofs.lemmas.Cmp.{ranked}
use Rattle.fault.specs.contracts.FaultOrd as derived
use Rattle.fault.specs.declared.Fault.{Fault}
use Rattle.fault.specs.Fault.{before}

-- two numbers, one way or the other
data Compared (x y : ℕ) : Type 0 where
  less : x < y → Compared x y
  same : x ≡ y → Compared x y
  more : y < x → Compared x y

compared : (x y : ℕ) → Compared x y
compared x y =
    by_test (ltb x y) (λ t. less (ltb-true x y t)) λ f.
    by_test (ltb y x) (λ t. more (ltb-true y x t)) λ g.
    let h = ltb-false x y f in let k = ltb-false y x g in same (omega arith)

-- one part, and what decides where it is the same
unfoldable lex : ℕ → ℕ → Bool → Bool
lex x y t = ltb x y ⇒ true else ltb y x ⇒ false else t

module _ (x y : ℕ) (t : Bool) where
  lex_less : x < y → lex x y t ≡ true
  unfolding lex
  lex_less h = rw (lt-ltb x y h)

  lex_same : x ≡ y → lex x y t ≡ t
  unfolding lex
  lex_same h = let k : y ≤ x = omega arith in let l : x ≤ y = omega arith in rw (le-ltb x y k, le-ltb y x l)

  lex_more : y < x → lex x y t ≡ false
  unfolding lex
  lex_more h = let k : y ≤ x = omega arith in rw (le-ltb x y k, lt-ltb y x h)

  lex_differ : (x ≡ y → ⊥) → ltb x y ≡ lex x y t
  lex_differ n = go (compared x y)
    where
      go : Compared x y → ltb x y ≡ lex x y t
      go (less h) = lt-ltb x y h ∙ sym (lex_less h)
      go (same h) = absurd (n h)
      go (more h) = le-ltb x y (omega arith) ∙ sym (lex_more h)

-- where x comes before z, anything comes after x or before z
lex_split : (x y z : ℕ) (p q r : Bool) → (r ≡ true → (p ≡ true) ⊎ (q ≡ true)) → lex x z r ≡ true → (lex x y p ≡ true) ⊎ (lex y z q ≡ true)
lex_split x y z p q r rest e = go (compared x z) (compared x y)
  where
    go : Compared x z → Compared x y → (lex x y p ≡ true) ⊎ (lex y z q ≡ true)
    go (less h) (less k) = inl (lex_less x y p k)
    go (less h) (same k) = inr (lex_less y z q (omega arith))
    go (less h) (more k) = inr (lex_less y z q (omega arith))
    go (same h) (less k) = inl (lex_less x y p k)
    go (same h) (same k) =
        ⊎_elim (λ i. inl (lex_same x y p k ∙ i)) (λ i. inr (lex_same y z q (sym k ∙ h) ∙ i)) (rest (sym (lex_same x z r h) ∙ e))
    go (same h) (more k) = inr (lex_less y z q (omega arith))
    go (more h) c = true-false e (lex_more x z r h)

lex_asym : (x y : ℕ) (p q : Bool) → (p ≡ true → q ≡ false) → lex x y p ≡ true → lex y x q ≡ false
lex_asym x y p q rest e = go (compared x y)
  where
    go : Compared x y → lex y x q ≡ false
    go (less h) = lex_more y x q h
    go (same h) = lex_same y x q (sym h) ∙ rest (sym (lex_same x y p h) ∙ e)
    go (more h) = true-false e (lex_more x y p h)

lex_even : (x y : ℕ) (p q : Bool) → lex x y p ≡ false → lex y x q ≡ false → (x ≡ y) × (p ≡ false) × (q ≡ false)
lex_even x y p q e f = go (compared x y)
  where
    go : Compared x y → (x ≡ y) × (p ≡ false) × (q ≡ false)
    go (less h) = true-false (lex_less x y p h) e
    go (same h) = (h, sym (lex_same x y p h) ∙ e, sym (lex_same y x q (sym h)) ∙ f)
    go (more h) = true-false (lex_less y x q h) f

-- the kind, after which nothing decides
less_split : (x y z : ℕ) → ltb x z ≡ true → (ltb x y ≡ true) ⊎ (ltb y z ≡ true)
less_split x y z e =
    let h = ltb-true x z e in
    by_test (ltb x y) (λ t. inl t) λ f. let k = ltb-false x y f in inr (lt-ltb y z (omega arith))

less_asym : (x y : ℕ) → ltb x y ≡ true → ltb y x ≡ false
less_asym x y e = let h = ltb-true x y e in le-ltb y x (omega arith)

-- the four parts, from the last to the first
abbrev on_kind : Fault → Fault → Bool
on_kind a b = ltb a.kind b.kind

abbrev on_sub : Fault → Fault → Bool
on_sub a b = lex a.sub b.sub (on_kind a b)

abbrev on_field : Fault → Fault → Bool
on_field a b = lex a.field b.field (on_sub a b)

module _ (a b : Fault) where
  by_parts : before a b ≡ lex a.«record» b.«record» (on_field a b)
  unfolding before lex
  by_parts = refl

  -- the first part in which they differ decides
  pub by_record : (a.«record» ≡ b.«record» → ⊥) → ltb a.«record» b.«record» ≡ before a b
  by_record n = rw by_parts (lex_differ a.«record» b.«record» (on_field a b) n)

  module _ (r : a.«record» ≡ b.«record») where
    on-field : on_field a b ≡ before a b
    on-field = sym (by_parts ∙ lex_same a.«record» b.«record» (on_field a b) r)

    pub by_field : (a.field ≡ b.field → ⊥) → ltb a.field b.field ≡ before a b
    by_field n = lex_differ a.field b.field (on_sub a b) n ∙ on-field

    module _ (f : a.field ≡ b.field) where
      on-sub : on_sub a b ≡ before a b
      on-sub = sym (lex_same a.field b.field (on_sub a b) f) ∙ on-field

      pub by-sub : (a.sub ≡ b.sub → ⊥) → ltb a.sub b.sub ≡ before a b
      by-sub n = lex_differ a.sub b.sub (on_kind a b) n ∙ on-sub

      pub by_kind : a.sub ≡ b.sub → ltb a.kind b.kind ≡ before a b
      by_kind s = sym (lex_same a.sub b.sub (on_kind a b) s) ∙ on-sub

-- the derived order is this one: `cmp` compares the parts one after the other
then_less : (x y : ℕ) (o : Ordering) → is_lt (ordering_then (nat_cmp x y) o) ≡ lex x y (is_lt o)
then_less x y o = go (nat_cmp x y) (ranked x y (nat_cmp x y) refl)
  where
    go : (r : Ordering) → MatchOrdering r (x < y) (x ≡ y) (y < x) → is_lt (ordering_then r o) ≡ lex x y (is_lt o)
    go Less h = sym (lex_less x y (is_lt o) h)
    go Equal h = sym (lex_same x y (is_lt o) h)
    go Greater h = sym (lex_more x y (is_lt o) h)

cmp_less : (x y : ℕ) → is_lt (nat_cmp x y) ≡ ltb x y
cmp_less x y = go (nat_cmp x y) (ranked x y (nat_cmp x y) refl)
  where
    go : (r : Ordering) → MatchOrdering r (x < y) (x ≡ y) (y < x) → is_lt r ≡ ltb x y
    go Less h = sym (lt-ltb x y h)
    go Equal h = sym (le-ltb x y (omega arith))
    go Greater h = sym (le-ltb x y (omega arith))

pub cmp_before : (a b : Fault) → is_lt ((derived.TheImpl.cmp-value).it a b) ≡ before a b
cmp_before a b = rw (then_less, then_less, then_less, cmp_less) (sym (by_parts a b))

-- what stands at a later place is not before
module _ (a b : Fault) where
  pub later_record : a.«record» < b.«record» → before b a ≡ false
  later_record h = sym (by_record b a λ e. omega arith) ∙ le-ltb b.«record» a.«record» (omega arith)

  module _ (r : b.«record» ≡ a.«record») where
    pub later-field : a.field < b.field → before b a ≡ false
    later-field h = sym (by_field b a r λ e. omega arith) ∙ le-ltb b.field a.field (omega arith)

    module _ (f : b.field ≡ a.field) where
      pub later-sub : a.sub < b.sub → before b a ≡ false
      later-sub h = sym (by-sub b a r f λ e. omega arith) ∙ le-ltb b.sub a.sub (omega arith)

      pub later-kind : b.sub ≡ a.sub → a.kind ≤ b.kind → before b a ≡ false
      later-kind s h = sym (by_kind b a r f s) ∙ le-ltb b.kind a.kind h

-- the laws
pub before_split : (a b c : Fault) → before a c ≡ true → (before a b ≡ true) ⊎ (before b c ≡ true)
before_split a b c e =
    rw (by_parts a b, by_parts b c) (
    lex_split a.«record» b.«record» c.«record» (on_field a b) (on_field b c) (on_field a c) (
    lex_split a.field b.field c.field (on_sub a b) (on_sub b c) (on_sub a c) (
    lex_split a.sub b.sub c.sub (on_kind a b) (on_kind b c) (on_kind a c) (less_split a.kind b.kind c.kind)))
    (sym (by_parts a c) ∙ e))

pub before_asym : (a b : Fault) → before a b ≡ true → before b a ≡ false
before_asym a b e =
    by_parts b a ∙
    lex_asym a.«record» b.«record» (on_field a b) (on_field b a) (
    lex_asym a.field b.field (on_sub a b) (on_sub b a) (
    lex_asym a.sub b.sub (on_kind a b) (on_kind b a) (less_asym a.kind b.kind)))
    (sym (by_parts a b) ∙ e)

pub before_irrefl : (a : Fault) → before a a ≡ false
before_irrefl a = by_test (before a a) (before_asym a a) λ f. f

-- what comes neither before nor after is the same
pub before_even : (a b : Fault) → before a b ≡ false → before b a ≡ false → a ≡ b
before_even a b e f =
    let r = lex_even a.«record» b.«record» (on_field a b) (on_field b a) (sym (by_parts a b) ∙ e) (sym (by_parts b a) ∙ f) in
    let i = lex_even a.field b.field (on_sub a b) (on_sub b a) r.1 r.2 in
    let s = lex_even a.sub b.sub (on_kind a b) (on_kind b a) i.1 i.2 in
    let g : b.kind ≤ a.kind = ltb-false a.kind b.kind s.1 in
    let h : a.kind ≤ b.kind = ltb-false b.kind a.kind s.2 in
    let k : a.kind ≡ b.kind = omega arith in
    λ j. record { «record» = r.0 j; field = i.0 j; sub = s.0 j; kind = k j }

pub before_trans : (a b c : Fault) → before a b ≡ true → before b c ≡ true → before a c ≡ true
before_trans a b c e f = ⊎_elim (λ h. h) (λ h. true-false h (before_asym b c f)) (before_split a c b e)

-- what is not before b, which is not before a, is not before a
pub before-after : (a b c : Fault) → before b a ≡ false → before c b ≡ false → before c a ≡ false
before-after a b c t u =
    by_test (before c a) (λ e. ⊎_elim (λ h. true-false h u) (λ h. true-false h t) (before_split c b a e)) λ e. e
