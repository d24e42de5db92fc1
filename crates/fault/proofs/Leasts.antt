-- The least fault of a list, for judges that find faults part by part: it may be taken of parts and in any order, and it is a fault of the list that no other
-- comes before.
use mathlib.Core.Bool.{true, false}
use mathlib.Core.List.Memᴰ
use mathlib.Core.List.{List, [], ◌∷◌, ◌++◌, Memᴰ}
use mathlib.Core.Logic.{⊎_elim}
use mathlib.Core.Path.{◌≡◌, refl, sym, ap, subst, ◌∙◌}
use Prim.Native.Nat.{ℕ}
use native.Mathlib.Omega.{arith}
use Rattle.notation.proofs.Booleans.{by_test}
use Rattle.std.specs.Ordering.{ord_min}
use Rattle.fault.specs.contracts.FaultOrd as derived
use Rattle.fault.specs.declared.Fault.{Fault}
use Rattle.fault.specs.Fault.{before, lesser, least}
use Rattle.fault.proofs.Order.{before_asym, before_even, before_irrefl, before_trans, before-after, cmp_before}
use Rattle.std.specs.Prelude.{Option, None, Some}

-- of two
module _ (a b : Fault) where
  pub lesser-second : before b a ≡ true → lesser (Some a) (Some b) ≡ Some b
  unfolding lesser
  lesser-second e = rw e

  pub lesser-first : before b a ≡ false → lesser (Some a) (Some b) ≡ Some a
  unfolding lesser
  lesser-first e = rw e

-- as the derived order tells it
pub lesser_min : (a b : Fault) → Some (ord_min (derived.TheImpl.cmp-value).it a b) ≡ lesser (Some a) (Some b)
lesser_min a b =
    by_test (before b a)
    (λ t. rw (cmp_before b a ∙ t) (sym (lesser-second a b t)))
    (λ f. rw (cmp_before b a ∙ f) (sym (lesser-first a b f)))

pub lesser-none : (x : Option Fault) → lesser x None ≡ x
unfolding lesser
lesser-none None = refl
lesser-none (Some a) = refl

pub none-lesser : (x : Option Fault) → lesser None x ≡ x
unfolding lesser
none-lesser x = refl

pub lesser_comm : (x y : Option Fault) → lesser x y ≡ lesser y x
lesser_comm None y = none-lesser y ∙ sym (lesser-none y)
lesser_comm (Some a) None = lesser-none (Some a) ∙ sym (none-lesser (Some a))
lesser_comm (Some a) (Some b) =
    by_test (before b a) (λ t. lesser-second a b t ∙ sym (lesser-first b a (before_asym b a t))) λ f.
    by_test (before a b) (λ t. lesser-first a b f ∙ sym (lesser-second b a t)) λ g.
    lesser-first a b f ∙ ap Some (before_even a b g f) ∙ sym (lesser-first b a g)

pub lesser_assoc : (x y z : Option Fault) → lesser (lesser x y) z ≡ lesser x (lesser y z)
lesser_assoc None y z = ap (λ (u : Option Fault). lesser u z) (none-lesser y) ∙ sym (none-lesser (lesser y z))
lesser_assoc (Some a) None z = ap (λ (u : Option Fault). lesser u z) (lesser-none (Some a)) ∙ ap (lesser (Some a)) (sym (none-lesser z))
lesser_assoc (Some a) (Some b) None = lesser-none (lesser (Some a) (Some b)) ∙ ap (lesser (Some a)) (sym (lesser-none (Some b)))
lesser_assoc (Some a) (Some b) (Some c) = by_test (before b a) second first
  where
    second : before b a ≡ true → lesser (lesser (Some a) (Some b)) (Some c) ≡ lesser (Some a) (lesser (Some b) (Some c))
    second t =
        by_test (before c b)
        (λ u. rw (lesser-second a b t, lesser-second b c u) (sym (lesser-second a c (before_trans c b a u t))))
        (λ u. rw (lesser-second a b t, lesser-first b c u) (sym (lesser-second a b t)))

    first : before b a ≡ false → lesser (lesser (Some a) (Some b)) (Some c) ≡ lesser (Some a) (lesser (Some b) (Some c))
    first t =
        by_test (before c b)
        (λ u. rw (lesser-first a b t, lesser-second b c u))
        (λ u. rw (lesser-first a b t, lesser-first b c u) (lesser-first a c (before-after a b c t u) ∙ sym (lesser-first a b t)))

-- of a list, part by part
pub least-one : (a : Fault) → least (a ∷ []) ≡ Some a
unfolding least
least-one a = lesser-none (Some a)

pub least_append : (xs ys : List Fault) → least (xs ++ ys) ≡ lesser (least xs) (least ys)
unfolding least
least_append [] ys = sym (none-lesser (least ys))
least_append (a ∷ xs) ys = ap (lesser (Some a)) (least_append xs ys) ∙ sym (lesser_assoc (Some a) (least xs) (least ys))

-- a stands in the list, and nothing of the list comes before it
pub record First (a : Fault) (l : List Fault) : Type 0 where
  pub stands : Memᴰ a l
  pub first : (b : Fault) → Memᴰ b l → before b a ≡ false

pub none_is : {A : Type 0} {a : Fault} → None ≡ Some a → A
none_is e = let z : ◌≡◌ {A = ℕ} 0 1 = cc in absurd (omega arith)

-- a fault is never hidden
some : {A : Type 0} (a : Fault) (y : Option Fault) → lesser (Some a) y ≡ None → A
some a None e = none_is (sym e ∙ lesser-none (Some a))
some a (Some b) e = by_test (before b a) (λ t. none_is (sym e ∙ lesser-second a b t)) λ f. none_is (sym e ∙ lesser-first a b f)

pub both-none : (x y : Option Fault) → lesser x y ≡ None → (x ≡ None) × (y ≡ None)
both-none None y e = (refl, sym (none-lesser y) ∙ e)
both-none (Some a) y e = some a y e

pub least-none : (l : List Fault) → least l ≡ None → l ≡ []
unfolding least
least-none [] e = refl
least-none (a ∷ l) e = some a (least l) e

pub none-least : (l : List Fault) → l ≡ [] → least l ≡ None
unfolding least
none-least l e = ap least e

-- one fault more in front
module _ (a : Fault) (l : List Fault) where
  -- a comes after itself, and after what is equal to it
  itself : (b : Fault) → b ≡ a → before b a ≡ false
  itself b e = ap (λ (z : Fault). before z a) e ∙ before_irrefl a

  first_alone : l ≡ [] → First a (a ∷ l)
  first_alone n =
      record {
        stands = Memᴰ.head refl;
        first = λ b m. ⊎_elim (itself b) (λ k. absurd (Memᴰ.not-nil (subst (Memᴰ b) n k))) (Memᴰ.cases_cons m);
      }

  module _ (b : Fault) (f : First b l) where
    first-later : before b a ≡ true → First b (a ∷ l)
    first-later t =
        record {
          stands = Memᴰ.tail f.stands;
          first = λ c m. ⊎_elim (λ e. ap (λ (z : Fault). before z b) e ∙ before_asym b a t) (f.first c) (Memᴰ.cases_cons m);
        }

    first-here : before b a ≡ false → First a (a ∷ l)
    first-here u =
        record {
          stands = Memᴰ.head refl;
          first = λ c m. ⊎_elim (itself c) (λ k. before-after a b c u (f.first c k)) (Memᴰ.cases_cons m);
        }

is-is : {a b : Fault} → Some a ≡ Some b → a ≡ b
is-is e = cc

pub least_first : (l : List Fault) (a : Fault) → least l ≡ Some a → First a l
unfolding least
least_first [] a e = none_is e
least_first (c ∷ l) a e = go (least l) refl e (least_first l)
  where
    at : {x : Fault} → Some x ≡ Some a → First x (c ∷ l) → First a (c ∷ l)
    at q f = subst (λ (z : Fault). First z (c ∷ l)) (is-is q) f

    go : (x : Option Fault) → least l ≡ x → lesser (Some c) x ≡ Some a → ((b : Fault) → least l ≡ Some b → First b l) → First a (c ∷ l)
    go None h k ih = at (sym (lesser-none (Some c)) ∙ k) (first_alone c l (least-none l h))
    go (Some b) h k ih =
        by_test (before b c)
        (λ t. at (sym (lesser-second c b t) ∙ k) (first-later c l b (ih b h) t))
        (λ f. at (sym (lesser-first c b f) ∙ k) (first-here c l b (ih b h) f))

-- what stands before all that follows hides it
pub least-early : (xs ys : List Fault) (a : Fault) → least xs ≡ Some a → ((b : Fault) → Memᴰ b ys → before b a ≡ false) →
    least (xs ++ ys) ≡ Some a
least-early xs ys a e later = least_append xs ys ∙ ap (λ (x : Option Fault). lesser x (least ys)) e ∙ go (least ys) refl
  where
    go : (y : Option Fault) → least ys ≡ y → lesser (Some a) y ≡ Some a
    go None h = lesser-none (Some a)
    go (Some b) h = lesser-first a b (later b (least_first ys b h).stands)
