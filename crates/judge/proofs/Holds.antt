-- What holds of every fault of a list holds of its least, part by part. Where a fault of a field fits the word, and the rest are of the
-- same field, the least fits too: its sub is no greater.
use mathlib.Core.Bool.{true, false}
use mathlib.Core.List.{List, [], ◌∷◌, ◌++◌}
use mathlib.Core.Path.{◌≡◌, sym, subst, ◌∙◌}
use Prim.Native.Nat.{ℕ, ◌≤◌, ◌<◌}
use native.Mathlib.Omega.{arith}
use lib.Dec.{ltb}
use borrow.Author.Tests.{ltb-true, ltb-false}
use Rattle.notation.proofs.Booleans.{by_test, true-false}
use Rattle.fault.specs.declared.Fault.{Fault}
use Rattle.fault.specs.Fault.{before, lesser, least}
use Rattle.fault.proofs.Order.{later-field, later-sub}
use Rattle.fault.proofs.Leasts.{lesser-first, lesser-second, lesser-none, none-lesser, lesser_comm, least_append}
use Rattle.judge.specs.Bounds.{OfStageB, Fitting}
use Rattle.std.specs.Prelude.{Option, None, Some}

-- of all of a list, and of the fault, if there is one
pub data All {A : Type 0} (P : A → Type 0) : List A → Type 0 where
  none : All P []
  more : {x : A} {l : List A} → P x → All P l → All P (x ∷ l)

pub data Holds (P : Fault → Type 0) : Option Fault → Type 0 where
  nothing : Holds P None
  holding : {f : Fault} → P f → Holds P (Some f)

module _ {A : Type 0} {P : A → Type 0} where
  pub only : {x : A} → P x → All P (x ∷ [])
  only h = more h none

  pub all_append : {xs ys : List A} → All P xs → All P ys → All P (xs ++ ys)
  all_append none k = k
  all_append (more h hs) k = more h (all_append hs k)

pub holds-map : {P Q : Fault → Type 0} {x : Option Fault} → ((f : Fault) → P f → Q f) → Holds P x → Holds Q x
holds-map t nothing = nothing
holds-map t (holding {f = f} h) = holding (t f h)

module _ {P : Fault → Type 0} where
  pub holds-is : {x : Option Fault} {f : Fault} → Holds P x → x ≡ Some f → P f
  holds-is nothing e = let z : ◌≡◌ {A = ℕ} 0 1 = cc in absurd (omega arith)
  holds-is (holding h) e = subst P (cc) h

  pub holds-lesser : {x y : Option Fault} → Holds P x → Holds P y → Holds P (lesser x y)
  holds-lesser {y = y} nothing k = rw (none-lesser y) k
  holds-lesser (holding {f = a} h) nothing = rw (lesser-none (Some a)) (holding h)
  holds-lesser (holding {f = a} h) (holding {f = b} k) =
      by_test (before b a) (λ e. rw (lesser-second a b e) (holding k)) (λ e. rw (lesser-first a b e) (holding h))

  pub holds-least : {l : List Fault} → All P l → Holds P (least l)
  unfolding least
  holds-least none = nothing
  holds-least (more h hs) = holds-lesser (holding h) (holds-least hs)

  pub holds_append : (xs ys : List Fault) → Holds P (least xs) → Holds P (least ys) → Holds P (least (xs ++ ys))
  holds_append xs ys h k = rw (least_append xs ys) (holds-lesser h k)

-- in the same record, a later item in a field no earlier
pub after-sub : (a b : Fault) → b.«record» ≡ a.«record» → a.field ≤ b.field → a.sub < b.sub → before b a ≡ false
after-sub a b r f s =
    by_test (ltb a.field b.field) (λ t. later-field a b r (ltb-true a.field b.field t))
    (λ t. let h : b.field ≤ a.field = ltb-false a.field b.field t in later-sub a b r (omega arith) s)

-- a fault that comes after none of the others is the least
pub first_stays : (a : Fault) {y : Option Fault} → Holds (λ f. before f a ≡ false) y → lesser (Some a) y ≡ Some a
first_stays a nothing = lesser-none (Some a)
first_stays a (holding {f = b} h) = lesser-first a b h

-- a fault of stage B in this field of this record
pub record Of (r φ : ℕ) (f : Fault) : Type 0 where
  pub rec : f.«record» ≡ r
  pub field : f.field ≡ φ
  pub kind : OfStageB f.kind

-- there is one, and it fits
pub record Small (r φ : ℕ) (x : Option Fault) : Type 0 where
  pub what : Fault
  pub is : x ≡ Some what
  pub of : Of r φ what
  pub fits : Fitting what

pub small-fits : {r φ : ℕ} {x : Option Fault} → Small r φ x → Holds Fitting x
small-fits s = rw s.is (holding s.fits)

module _ {r φ : ℕ} where
  small-two : (a b : Fault) → Of r φ a → Fitting a → Of r φ b → Small r φ (lesser (Some a) (Some b))
  small-two a b o f i = by_test (before b a) second (λ e. record { what = a; is = lesser-first a b e; of = o; fits = f })
    where
      second : before b a ≡ true → Small r φ (lesser (Some a) (Some b))
      second e =
          record {
            what = b;
            is = lesser-second a b e;
            of = i;
            fits =
                record {
                  rec = omega (arith, o.rec, i.rec, f.rec);
                  field = omega (arith, o.field, i.field, f.field);
                  sub =
                      by_test (ltb a.sub b.sub)
                      (λ t. true-false e (after-sub a b (i.rec ∙ sym o.rec) (omega (arith, o.field, i.field)) (ltb-true a.sub b.sub t)))
                      (λ t. omega (arith, ltb-false a.sub b.sub t, f.sub));
                  kind = i.kind;
                };
          }

  -- with one that fits on either side
  pub small-left : {x y : Option Fault} → Small r φ x → Holds (Of r φ) y → Small r φ (lesser x y)
  small-left {x} s nothing = rw (lesser-none x) s
  small-left s (holding {f = b} h) = rw s.is (small-two s.what b s.of s.fits h)

  pub small_right : {x y : Option Fault} → Holds (Of r φ) x → Small r φ y → Small r φ (lesser x y)
  small_right {x} {y} h s = rw (lesser_comm x y) (small-left s h)
