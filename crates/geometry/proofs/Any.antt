-- Whether one of a list passes a test: one does exactly where it is so found, in whatever order they stand.
use mathlib.Core.Bool.{Bool, true, false}
use mathlib.Core.List.Memᴰ
use mathlib.Core.List.{List, [], ◌∷◌, Memᴰ}
use mathlib.Core.Logic.{⊎_elim}
use mathlib.Core.Path.{◌≡◌, refl, sym, ap, ◌∙◌}
use Rattle.notation.specs.Choice.{◌⇒◌else◌}
use Rattle.geometry.proofs.Tests.{differ}

module _ {A : Type 0} (test : A → Bool) (any : List A → Bool) (None-passes : any [] ≡ false)
    (next : (x : A) (l : List A) → any (x ∷ l) ≡ (test x ⇒ true else any l)) where
  found : (x : A) (l : List A) → any (x ∷ l) ≡ true → (any l ≡ true → (y : A) × Memᴰ y l × (test y ≡ true))
      → (y : A) × Memᴰ y (x ∷ l) × (test y ≡ true)
  found x l e later = go (test x) refl
    where
      go : (t : Bool) → test x ≡ t → (y : A) × Memᴰ y (x ∷ l) × (test y ≡ true)
      go true t = (x, Memᴰ.head refl, t)
      go false t = let k = later (sym (next x l ∙ ap (λ (b : Bool). b ⇒ true else any l) t) ∙ e) in (k.0, Memᴰ.tail k.1, k.2)

  pub any-one : (l : List A) → any l ≡ true → (x : A) × Memᴰ x l × (test x ≡ true)
  any-one [] e = absurd (differ (sym None-passes ∙ e))
  any-one (x ∷ l) e = found x l e (any-one l)

  pub one-any : (l : List A) (x : A) → Memᴰ x l → test x ≡ true → any l ≡ true
  one-any [] x m t = absurd (Memᴰ.not-nil m)
  one-any (y ∷ l) x m t = next y l ∙ go (test y) refl (one-any l x)
    where
      go : (u : Bool) → test y ≡ u → (Memᴰ x l → test x ≡ true → any l ≡ true) → (u ⇒ true else any l) ≡ true
      go true u later = refl
      go false u later =
          ⊎_elim (λ (e : x ≡ y). absurd (differ (sym u ∙ ap test (sym e) ∙ t))) (λ (k : Memᴰ x l). later k t) (Memᴰ.cases_cons m)

  -- of the same values
  pub any_same : (l k : List A) → ((x : A) → Memᴰ x l → Memᴰ x k) → ((x : A) → Memᴰ x k → Memᴰ x l) → any l ≡ any k
  any_same l k f g = go (any l) refl (any k) refl
    where
      go : (s : Bool) → any l ≡ s → (t : Bool) → any k ≡ t → s ≡ t
      go true e true h = refl
      go true e false h = let o = any-one l e in sym (one-any k o.0 (f o.0 o.1) o.2) ∙ h
      go false e true h = let o = any-one k h in sym e ∙ one-any l o.0 (g o.0 o.1) o.2
      go false e false h = refl
