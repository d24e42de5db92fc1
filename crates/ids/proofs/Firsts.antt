-- The first record that repeats an id, by the texts of ids and by the records: a record has the id of another exactly where both texts are the same, and
-- no id has an empty text.
use mathlib.Core.Bool.{Bool, true, false}
use mathlib.Core.List.{List, [], ◌∷◌}
use mathlib.Core.Path.{◌≡◌, refl, sym, ap, ap₂, ◌∙◌}
use Prim.Native.Nat.{ℕ, zero, suc, ◌+◌, ◌≤◌, ◌<◌}
use native.Mathlib.Numerals.{add-one}
use native.Mathlib.Omega.{arith}
use lib.Dec.{ltb}
use lib.ListN.{length, get_or, drop}
use lib.Seq.{drop-cons, drop-length}
use borrow.Author.Tests.{lt-ltb, le-ltb}
use Rattle.notation.specs.Choice.{◌⇒◌else◌}
use Rattle.notation.proofs.Booleans.{by_test, true-false}
use Rattle.text.specs.Text.{same}
use Rattle.text.proofs.Laws.{same_true, same_refl}
use Rattle.sorting.specs.Repeats as sorting
use Rattle.sorting.specs.Repeats.{same_id, used_before}
use Rattle.document.specs.inner.Values.{is_id}
use Rattle.ids.specs.inner.Ids.{id_of, text_or, id_text, has_id, any_has, repeated, repeat_from, first_repeat, earlier}
use Rattle.ids.proofs.Texts.{id_given}
use Rattle.std.specs.Prelude.{Option, None, Some}

-- a record has an id that is given, by the text of its own
module _ (sheet : ℕ) (id q : List ℕ) where
  pub has-text : has_id sheet id q ≡ true → id_text sheet q ≡ id
  unfolding id_text
  has-text = go (id_of sheet q)
    where
      go : (o : Option (List ℕ)) → is_id id o ≡ true → text_or o ≡ id
      go None e = true-false e refl
      go (Some t) e = same_true t id e

  pub text-has : 0 < length id → id_text sheet q ≡ id → has_id sheet id q ≡ true
  unfolding id_text
  text-has h = go (id_of sheet q)
    where
      go : (o : Option (List ℕ)) → text_or o ≡ id → is_id id o ≡ true
      go None e = absurd (omega (arith, ap length e))
      go (Some t) e = ap (λ (x : List ℕ). same x id) e ∙ same_refl id

pub no-has : (sheet : ℕ) (q : List ℕ) → has_id sheet [] q ≡ false
no-has sheet q = by_test (has_id sheet [] q) (λ t. go (id_of sheet q) refl t) λ t. t
  where
    go : (o : Option (List ℕ)) → id_of sheet q ≡ o → is_id [] o ≡ true → has_id sheet [] q ≡ false
    go None e t = true-false t refl
    go (Some x) e t = absurd (omega (arith, id_given sheet q x e, ap length (same_true x [] t)))

module _ (sheet : ℕ) (rs : List (List ℕ)) (ids : ℕ → List ℕ) (are : (k : ℕ) → k < length rs → ids k ≡ id_text sheet (get_or rs k [])) where
  -- one of those before has the id of the record j
  used_any : (id : List ℕ) → 0 < length id → (j n : ℕ) → ids j ≡ id → n ≤ length rs → used_before ids j n ≡ any_has sheet id (earlier rs n)
  unfolding used_before any_has earlier same_id
  used_any id h j zero e l = refl
  used_any id h j (suc n) e l =
      let q = get_or rs n [] in
      let ih = used_any id h j n e (omega arith) in
      let one : same_id ids n j ≡ has_id sheet id q = same-has in
      by_test (has_id sheet id q) (λ t. rw (used_before, earlier, any_has, one ∙ t, t)) λ t. rw (used_before, earlier, any_has, one ∙ t, t) ih
    where
      same-has : same_id ids n j ≡ has_id sheet id (get_or rs n [])
      same-has =
          let given : ltb 0 (length (ids j)) ≡ true = lt-ltb 0 (length (ids j)) (omega (arith, h, ap length e)) in
          let is : id_text sheet (get_or rs n []) ≡ ids n = sym (are n (omega arith)) in
          by_test (has_id sheet id (get_or rs n []))
          (λ t. rw (same_id, given) (ap₂ same (sym is ∙ has-text sheet id (get_or rs n []) t) e ∙ same_refl id ∙ sym t))
          λ t.
          by_test (same (ids n) (ids j))
          (λ s. true-false (text-has sheet id (get_or rs n []) h (is ∙ same_true (ids n) (ids j) s ∙ e)) t)
          λ s. rw (same_id, given) (s ∙ sym t)

  none_used : (j n : ℕ) → ids j ≡ [] → used_before ids j n ≡ false
  unfolding used_before same_id
  none_used j zero e = refl
  none_used j (suc n) e =
      let ih = none_used j n e in
      let none : ltb 0 (length (ids j)) ≡ false = le-ltb 0 (length (ids j)) (omega (arith, ap length e)) in
      rw (used_before, same_id, none) ih

  used_repeated : (k : ℕ) → k < length rs → used_before ids k k ≡ repeated sheet (earlier rs k) (get_or rs k [])
  unfolding id_text
  used_repeated k h = go (id_of sheet (get_or rs k [])) refl
    where
      text : (o : Option (List ℕ)) → id_of sheet (get_or rs k []) ≡ o → ids k ≡ text_or o
      text o e = are k h ∙ ap text_or e

      go : (o : Option (List ℕ)) → id_of sheet (get_or rs k []) ≡ o → used_before ids k k ≡ (elim o [ None ↦ false | Some id ↦ any_has sheet id (earlier rs k) ])
      go None e = none_used k k (text None e)
      go (Some id) e = used_any id (id_given sheet (get_or rs k []) id e) k k (text (Some id) e) (omega arith)

  from-same : (n k : ℕ) → k + n ≡ length rs → sorting.repeat_from ids k n ≡ repeat_from sheet (k + 1) (earlier rs k) (drop k rs)
  unfolding sorting.repeat_from repeat_from earlier
  from-same zero k e =
      let z : k ≡ length rs = omega arith in
      sym (ap (λ (x : ℕ). repeat_from sheet (k + 1) (earlier rs k) (drop x rs)) z ∙ ap (repeat_from sheet (k + 1) (earlier rs k)) (drop-length rs))
  from-same (suc n) k e =
      let h : k < length rs = omega arith in
      let ih = from-same n (k + 1) (omega arith) in
      let u = used_repeated k h in
      let step : repeat_from sheet (k + 1) (earlier rs k) (drop k rs) ≡ (repeated sheet (earlier rs k) (get_or rs k []) ⇒ k + 1 else repeat_from sheet (k + 1 + 1) (get_or rs k [] ∷ earlier rs k) (drop (suc k) rs)) =
      ap (repeat_from sheet (k + 1) (earlier rs k)) (drop-cons rs k [] h) in
      by_test (repeated sheet (earlier rs k) (get_or rs k []))
      (λ t. rw (sorting.repeat_from, u ∙ t) (sym (step ∙ ap (λ (b : Bool). b ⇒ k + 1 else repeat_from sheet (k + 1 + 1) (get_or rs k [] ∷ earlier rs k) (drop (suc k) rs)) t)))
      λ t.
      rw (sorting.repeat_from, u ∙ t)
      (ih ∙ ap (λ (x : ℕ). repeat_from sheet (k + 1 + 1) (earlier rs x) (drop x rs)) (add-one k)
      ∙ sym (step ∙ ap (λ (b : Bool). b ⇒ k + 1 else repeat_from sheet (k + 1 + 1) (get_or rs k [] ∷ earlier rs k) (drop (suc k) rs)) t))

  pub first-same : sorting.first_repeat ids (length rs) ≡ first_repeat sheet rs
  unfolding first_repeat earlier
  first-same = from-same (length rs) 0 (omega arith)

-- it is one of the records
repeat_most : (ids : ℕ → List ℕ) (k n : ℕ) → sorting.repeat_from ids k n ≤ k + n
unfolding sorting.repeat_from
repeat_most ids k zero = omega arith
repeat_most ids k (suc n) =
    let ih = repeat_most ids (k + 1) n in
    by_test (used_before ids k k) (λ t. rw (sorting.repeat_from, t) (omega arith)) λ t. rw (sorting.repeat_from, t) (omega arith)

pub first-most : (ids : ℕ → List ℕ) (n : ℕ) → sorting.first_repeat ids n ≤ n
first-most ids n = omega (arith, repeat_most ids 0 n)
