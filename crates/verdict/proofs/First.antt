-- The verdict names the least broken rule: a set is accepted just where none is broken, and the rule that is named stands among the broken ones with none
-- of them before it.
use mathlib.Core.Bool.{true, false}
use mathlib.Core.List.Memᴰ
use mathlib.Core.List.{List, [], ◌∷◌, Memᴰ}
use mathlib.Core.Path.{◌≡◌, refl, sym, ap, subst, ◌∙◌}
use Prim.Native.Nat.{ℕ}
use native.Mathlib.Omega.{arith}
use Rattle.notation.proofs.Booleans.{by_test}
use Rattle.word.specs.declared.Parts.{Parts}
use Rattle.schema.specs.Shape.{Table}
use Rattle.judge.proofs.Holds.{All, none, more}
use Rattle.cross.specs.Stage.{Feeds}
use Rattle.verdict.specs.Verdict.{broken_rules, before, earlier, first, verdict_of}
use Rattle.verdict.specs.Demand2.{First}
use Rattle.verdict.proofs.Every.{all-at, all_of}
use Rattle.verdict.proofs.Order.{before_irrefl, before_asym, before-after}
use Rattle.fault.specs.Outcome.{Outcome, unbroken}
use Rattle.std.specs.Prelude.{Err, Ok}

-- none of these comes before p
abbrev NoneBefore : Parts → List Parts → Type 0
NoneBefore p l = All (λ q. before q p ≡ false) l

first_of : {p : Parts} {l : List Parts} → Memᴰ p l → NoneBefore p l → First p l
first_of m a = record { among = m; first = λ q. all-at a }

clean-broken : {A : Type 0} {p : Parts} → unbroken ≡ Err p → A
clean-broken e = let z : ◌≡◌ {A = ℕ} 0 1 = cc in absurd (omega arith)

pub broken-parts : {p q : Parts} → ◌≡◌ {A = Outcome} (Err p) (Err q) → p ≡ q
broken-parts e = cc

-- of a rule and what is first of the rest
module _ (p q : Parts) where
  pub earlier-second : before q p ≡ true → earlier p (Err q) ≡ Err q
  earlier-second e = rw e

  pub earlier-first : before q p ≡ false → earlier p (Err q) ≡ Err p
  earlier-first e = rw e

-- where there is a rule, one is named
pub record Named (x : Outcome) : Type 0 where
  pub parts : Parts
  pub is : x ≡ Err parts

pub earlier-named : (p : Parts) (x : Outcome) → Named (earlier p x)
earlier-named p (Ok _) = record { parts = p; is = refl }
earlier-named p (Err q) =
    by_test (before q p) (λ t. record { parts = q; is = earlier-second p q t }) (λ f. record { parts = p; is = earlier-first p q f })

pub first-clean : (l : List Parts) → first l ≡ unbroken → l ≡ []
unfolding first
first-clean [] e = refl
first-clean (p ∷ l) e = let n = earlier-named p (first l) in clean-broken (sym e ∙ n.is)

pub first-named : (l : List Parts) (q : Parts) → Memᴰ q l → Named (first l)
unfolding first
first-named [] q m = absurd (Memᴰ.not-nil m)
first-named (p ∷ l) q m = earlier-named p (first l)

-- one rule more in front
module _ (p : Parts) (l : List Parts) where
  first_alone : l ≡ [] → First p (p ∷ l)
  first_alone e = first_of (Memᴰ.head refl) (more (before_irrefl p) (subst (NoneBefore p) (sym e) none))

  module _ (q : Parts) (f : First q l) where
    first-later : before q p ≡ true → First q (p ∷ l)
    first-later t = first_of (Memᴰ.tail f.among) (more (before_asym q p t) (all_of l f.first))

    first-here : before q p ≡ false → First p (p ∷ l)
    first-here u = first_of (Memᴰ.head refl) (more (before_irrefl p) (all_of l (λ r m. before-after p q r u (f.first r m))))

pub first-broken : (l : List Parts) (p : Parts) → first l ≡ Err p → First p l
unfolding first
first-broken [] p e = clean-broken e
first-broken (r ∷ l) p e = go (first l) refl e (first-broken l)
  where
    at : {q : Parts} → ◌≡◌ {A = Outcome} (Err q) (Err p) → First q (r ∷ l) → First p (r ∷ l)
    at e f = subst (λ (z : Parts). First z (r ∷ l)) (broken-parts e) f

    go : (x : Outcome) → first l ≡ x → earlier r x ≡ Err p → ((q : Parts) → first l ≡ Err q → First q l) → First p (r ∷ l)
    go (Ok _) h k ih = at k (first_alone r l (first-clean l h))
    go (Err q) h k ih =
        by_test (before q r)
        (λ t. at (sym (earlier-second r q t) ∙ k) (first-later r l q (ih q h) t))
        (λ f. at (sym (earlier-first r q f) ∙ k) (first-here r l q (ih q h) f))

-- of a set
module _ (t : Table) (s : Feeds) where
  pub accepted : broken_rules t s ≡ [] → verdict_of t s ≡ unbroken
  unfolding verdict_of first
  accepted e = ap first e

  pub accepted-only : verdict_of t s ≡ unbroken → broken_rules t s ≡ []
  unfolding verdict_of
  accepted-only e = first-clean (broken_rules t s) e

  pub refused-first : (p : Parts) → verdict_of t s ≡ Err p → First p (broken_rules t s)
  unfolding verdict_of
  refused-first p e = first-broken (broken_rules t s) p e
