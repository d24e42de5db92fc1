-- No two records of a clean file have one id: the later would repeat it.
use mathlib.Core.Bool.{true}
use mathlib.Core.List.Memᴰ
use mathlib.Core.List.{List, [], ◌∷◌, Memᴰ}
use mathlib.Core.Logic.{⊎_elim}
use mathlib.Core.Path.{◌≡◌, refl, sym, ap, ◌∙◌}
use Prim.Native.Nat.{ℕ, ◌+◌}
use Rattle.notation.specs.Choice.{◌⇒◌else◌}
use Rattle.notation.proofs.Booleans.{by_test}
use Rattle.notation.proofs.Lists.{cons_nil}
use Rattle.word.specs.Kinds.{id_twice}
use Rattle.text.specs.Text.{same}
use Rattle.text.proofs.Laws.{same_refl}
use Rattle.schema.specs.Tables.{sheet_shape}
use Rattle.schema.specs.Records.{has_ids}
use Rattle.schema.specs.Pick.{Picked, pick}
use Rattle.fault.specs.declared.Fault.{Fault}
use Rattle.fault.specs.Fault.{fault}
use Rattle.document.specs.Document.{text}
use Rattle.ids.specs.inner.Ids.{id_field}
use Rattle.ids.proofs.Picked.{id_of_lem}
use Rattle.clean.specs.Clean.{tree_of, records_of, used_before, repeated_id, repeats_from}
use Rattle.clean.proofs.Faultless.{none_left, none_right}
use Rattle.clean.proofs.Repeated.{repeats-some}
use Rattle.clean.proofs.Cleans.{Sound}
use Rattle.std.specs.Prelude.{Option, None, Some}

-- no two of these records have one text in a field
pub data Apart (f : ℕ) : List Picked → Type 0 where
  no_record : Apart f []
  one_record : {z : Picked} {l : List Picked} → ((x : Picked) (t : List ℕ) → Memᴰ x l → text f x ≡ Some t → text f z ≡ Some t → ⊥) → Apart f l → Apart f (z ∷ l)

module _ (f : ℕ) (t : List ℕ) where
  -- an id that is not used before is that of no record before
  unused_rest : (z : Picked) (ps : List Picked) → used_before f (z ∷ ps) t ≡ [] → used_before f ps t ≡ []
  unfolding used_before
  unused_rest z ps = go (text f z)
    where
      go : (o : Option (List ℕ)) → ◌≡◌ {A = List ℕ} (elim o [ None ↦ used_before f ps t | Some u ↦ same u t ⇒ id_twice ∷ [] else used_before f ps t ]) [] → used_before f ps t ≡ []
      go None e = e
      go (Some u) e = by_test (same u t) (λ h. cons_nil (rw h at e)) (λ h. rw h at e)

  unused : (y : Picked) → text f y ≡ Some t → (ps : List Picked) → used_before f ps t ≡ [] → Memᴰ y ps → ⊥
  unfolding used_before
  unused y h [] e i = Memᴰ.not-nil i
  unused y h (z ∷ ps) e i =
      let ih = unused y h ps (unused_rest z ps e) in
      ⊎_elim
      (λ k. let is : text f z ≡ Some t = ap (text f) (sym k) ∙ h in let u : used_before f (z ∷ ps) t ≡ id_twice ∷ [] = rw (used_before, is, same_refl t) in cons_nil (sym u ∙ e))
      ih (Memᴰ.cases_cons i)

  -- nor is that of a record that repeats none
  unrepeated : (n : ℕ) (ps : List Picked) (x : Picked) → text f x ≡ Some t → repeated_id f n ps x ≡ [] → used_before f ps t ≡ []
  unfolding repeated_id
  unrepeated n ps x h e = go (used_before f ps t) (rw (repeated_id, h) at e)
    where
      go : (us : List ℕ) → ◌≡◌ {A = List Fault} (elim us [ [] ↦ [] | k ∷ ks ↦ fault n f 0 k ∷ [] ]) [] → us ≡ []
      go [] i = refl
      go (k ∷ ks) i = cons_nil i

  before-after : (n : ℕ) (ps l : List Picked) → repeats_from f n ps l ≡ [] → (x y : Picked) → text f x ≡ Some t → text f y ≡ Some t → Memᴰ y ps → Memᴰ x l → ⊥
  unfolding repeats_from
  before-after n ps [] e x y h k i j = Memᴰ.not-nil j
  before-after n ps (z ∷ l) e x y h k i j =
      let ih = before-after (n + 1) (z ∷ ps) l (none_right (repeated_id f n ps z) _ e) x y h k (Memᴰ.tail i) in
      ⊎_elim (λ q. unused y k ps (unrepeated n ps z (ap (text f) (sym q) ∙ h) (none_left (repeated_id f n ps z) _ e)) i) ih (Memᴰ.cases_cons j)

apart_from : (f n : ℕ) (ps l : List Picked) → repeats_from f n ps l ≡ [] → Apart f l
unfolding repeats_from
apart_from f n ps [] e = no_record
apart_from f n ps (z ∷ l) e =
    let k = none_right (repeated_id f n ps z) _ e in
    one_record (λ x t i h j. before-after f t (n + 1) (z ∷ ps) l k x z h j (Memᴰ.head refl) i) (apart_from f (n + 1) (z ∷ ps) l k)

pub clean-apart : (n : ℕ) → has_ids n ≡ true → (s : List ℕ) → Sound n s → Apart (id_field n) (records_of (sheet_shape n) (pick (sheet_shape n) (tree_of s)))
clean-apart n h s c = apart_from (id_field n) 1 [] _ (sym (repeats-some n (id_of_lem n h) _) ∙ c.single)
