-- The plan of an id among records of which no two have one id: the record that has it; none, where none has. And the plan is one of the records.
use mathlib.Core.Bool.{true, false}
use mathlib.Core.List.Memᴰ
use mathlib.Core.List.{List, [], ◌∷◌, map, Memᴰ}
use mathlib.Core.Logic.{⊎_elim}
use mathlib.Core.Path.{◌≡◌, refl, sym, ap, ◌∙◌}
use Prim.Native.Nat.{ℕ}
use native.Mathlib.Omega.{arith}
use Rattle.notation.proofs.Booleans.{by_test, true-false}
use Rattle.text.specs.Text.{same}
use Rattle.text.proofs.Laws.{same_true}
use Rattle.schema.specs.Pick.{Picked}
use Rattle.document.specs.Document.{text}
use Rattle.document.specs.inner.Values.{is_id}
use Rattle.clean.proofs.Apart.{Apart}
use Rattle.quote.specs.Plan.{plan_of}
use Rattle.std.specs.Prelude.{Option, None, Some}

module _ (id : List ℕ) where
  -- a text that is the id
  id_text : (o : Option (List ℕ)) → is_id id o ≡ true → (t : List ℕ) × (o ≡ Some t) × (same t id ≡ true)
  id_text None e = true-false e refl
  id_text (Some t) e = (t, refl, e)

  -- the first record is the plan, or it is not
  first-is : (x : Picked) (l : List Picked) → is_id id (text 50 x) ≡ true → plan_of (x ∷ l) id ≡ Some x
  unfolding plan_of
  first-is x l e = let (t, h, i) = id_text (text 50 x) e in rw (plan_of, h, i)

  first-not : (x : Picked) (l : List Picked) → is_id id (text 50 x) ≡ false → plan_of (x ∷ l) id ≡ plan_of l id
  unfolding plan_of
  first-not x l = go (text 50 x) refl
    where
      go : (o : Option (List ℕ)) → text 50 x ≡ o → is_id id o ≡ false → plan_of (x ∷ l) id ≡ plan_of l id
      go None h e = rw (plan_of, h)
      go (Some t) h e = rw (plan_of, h, e)

  pub plan-is : {l : List Picked} → Apart 50 l → (x : Picked) → Memᴰ x l → is_id id (text 50 x) ≡ true → plan_of l id ≡ Some x
  plan-is Apart.no_record x i e = absurd (Memᴰ.not-nil i)
  plan-is (Apart.one_record {z} {l} apart a) x i e =
      let ih = plan-is a x in
      ⊎_elim (λ k. ap (λ (y : Picked). plan_of (y ∷ l) id) (sym k) ∙ first-is x l e)
      (λ k. by_test (is_id id (text 50 z))
      (λ h.
      let (t, q, u) = id_text (text 50 x) e in
      let (v, r, w) = id_text (text 50 z) h in
      absurd (apart x t k q (r ∙ ap Some (same_true v id w ∙ sym (same_true t id u)))))
      (λ h. first-not z l h ∙ ih k e))
      (Memᴰ.cases_cons i)

  module _ {A : Type 0} (g : A → Picked) where
    pub plan-none : (ms : List A) → ((m : A) → Memᴰ m ms → is_id id (text 50 (g m)) ≡ false) → plan_of (map g ms) id ≡ None
    unfolding plan_of
    plan-none [] h = refl
    plan-none (m ∷ ms) h = first-not (g m) (map g ms) (h m (Memᴰ.head refl)) ∙ plan-none ms (λ n i. h n (Memᴰ.tail i))

    pub plan-among : (ms : List A) (y : Picked) → plan_of (map g ms) id ≡ Some y → (m : A) × Memᴰ m ms × (y ≡ g m)
    unfolding plan_of
    plan-among [] y e = let z : ◌≡◌ {A = ℕ} 0 1 = cc in absurd (omega arith)
    plan-among (m ∷ ms) y e =
        let ih = plan-among ms y in
        by_test (is_id id (text 50 (g m)))
        (λ h. let k : Some (g m) ≡ Some y = sym (first-is (g m) (map g ms) h) ∙ e in (m, Memᴰ.head refl, cc))
        (λ h. let (n, i, k) = ih (sym (first-not (g m) (map g ms) h) ∙ e) in (n, Memᴰ.tail i, k))
