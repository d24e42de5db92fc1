-- One pass fills every slot: a member goes to the row of its name and leaves the other slots as they were, so each slot counts the members of
-- its own row's name. The places in the slots are in the text, whatever the rows.
use mathlib.Core.Bool.{Bool, true, false}
use mathlib.Core.List.{List, [], ◌∷◌, foldl}
use mathlib.Core.Path.{◌≡◌, refl, sym, ap, subst, ◌∙◌}
use Prim.Native.Nat.{ℕ, zero, suc, ◌+◌, ◌≤◌, ◌<◌}
use native.Mathlib.Decide.{ℕ_discrete}
use native.Mathlib.Omega.{arith}
use lib.Dec.{ltb}
use lib.ListN.{length, get_or, set, length-set, replicate}
use lib.Seq.{get_or-set_same, get_or-set_other}
use borrow.Author.Tests.{lt-ltb, le-ltb, ltb-true, ltb-false}
use Rattle.notation.specs.Choice.{◌⇒◌else◌}
use Rattle.notation.proofs.Booleans.{by_test}
use Rattle.json_text.specs.Tree.{Json, Members}
use Rattle.text.specs.Text.{same}
use Rattle.walk.specs.declared.Member.{Member}
use Rattle.walk.specs.Walk.{members_of}
use Rattle.walk.specs.Part.{Whole}
use Rattle.walk.proofs.Parts.{name_of}
use Rattle.schema.specs.Shape.{Rows}
use Rattle.schema.specs.inner.Sound.{distinct_rows}
use Rattle.schema.specs.Tables.{sheets}
use Rattle.schema.proofs.Walk.{Laid, lines_in}
use Rattle.slots.specs.declared.Found.{Found}
use Rattle.slots.specs.declared.Found.TheVariants.{Missing, Once, Twice}
use Rattle.slots.specs.declared.Slots.{Slots}
use Rattle.slots.specs.Found.{one_more, noted, found_in}
use Rattle.slots.specs.inner.Found.{Within}
use Rattle.slots.specs.inner.Rows.{most_rows, names_in, line_names, row_named}
use Rattle.slots.specs.inner.Slots.{empty, slot_at, is_missing, new_at, put_in, absorbed, gathered, Gathered}
use Rattle.slots.proofs.Named.{Apart, distinct_apart, names-laid, named_by, named_else}

-- a slot, and whether it is new
module _ (s : Slots) (row : ℕ) where
  pub slot-past : most_rows ≤ row → slot_at s row ≡ Missing
  unfolding slot_at
  slot-past h = rw (slot_at, le-ltb row most_rows h)

  pub slot_here : row < most_rows → slot_at s row ≡ get_or s.rows row Missing
  unfolding slot_at
  slot_here h = rw (slot_at, lt-ltb row most_rows h)

  pub new-past : most_rows ≤ row → new_at s row ≡ false
  unfolding new_at
  new-past h = rw (new_at, le-ltb row most_rows h)

  pub new_here : row < most_rows → new_at s row ≡ is_missing (get_or s.rows row Missing)
  unfolding new_at
  new_here h = rw (new_at, lt-ltb row most_rows h)

-- one value more
module _ (s : Slots) (row from upto : ℕ) where
  abbrev put_more : Slots
  put_more = record { rows = set s.rows row (one_more (get_or s.rows row Missing) from upto) }

  pub put-past : most_rows ≤ row → put_in s row from upto ≡ s
  unfolding put_in
  put-past h = rw (put_in, le-ltb row most_rows h)

  pub put_here : row < most_rows → put_in s row from upto ≡ record { rows = set s.rows row (one_more (get_or s.rows row Missing) from upto) }
  unfolding put_in
  put_here h = rw (put_in, lt-ltb row most_rows h)

-- there is a place for each row
pub record Sized (s : Slots) : Type 0 where
  pub rows : length s.rows ≡ most_rows

module _ (s : Slots) (row from upto : ℕ) (z : Sized s) where
  pub put-sized : Sized (put_in s row from upto)
  put-sized =
      by_test (ltb row most_rows)
      (λ t. rw (put_here s row from upto (ltb-true row most_rows t)) (record { rows = simp length-set z.rows }))
      (λ t. rw (put-past s row from upto (ltb-false row most_rows t)) z)

  put_same : row < most_rows → slot_at (put_in s row from upto) row ≡ one_more (slot_at s row) from upto
  put_same h =
      let k : row < length s.rows = omega (arith, z.rows) in
      rw (put_here s row from upto h, slot_here s row h)
      (slot_here (put_more s row from upto) row h ∙ get_or-set_same s.rows row (one_more (get_or s.rows row Missing) from upto) Missing k)

  put_other : (j : ℕ) → (j ≡ row → ⊥) → slot_at (put_in s row from upto) j ≡ slot_at s j
  unfolding slot_at
  put_other j n =
      by_test (ltb row most_rows)
      (λ t. rw (put_here s row from upto (ltb-true row most_rows t)) (simp (slot_at, get_or-set_other)))
      (λ t. rw (put-past s row from upto (ltb-false row most_rows t)))

-- a slot that holds one value after a put: it was put there, as the first of its row, or was there before
pub data Put (s : Slots) (row from upto j a e : ℕ) : Type 0 where
  here : j ≡ row → new_at s row ≡ true → a ≡ from → e ≡ upto → Put s row from upto j a e
  there : (j ≡ row → ⊥) → slot_at s j ≡ Once a e → Put s row from upto j a e

module _ (s : Slots) (row from upto : ℕ) (z : Sized s) where
  new_row : row < most_rows → slot_at s row ≡ Missing → new_at s row ≡ true
  new_row h m = new_here s row h ∙ ap is_missing (sym (slot_here s row h) ∙ m)

  pub put-once : (j a e : ℕ) → slot_at (put_in s row from upto) j ≡ Once a e → Put s row from upto j a e
  put-once j a e h = elim (ℕ_discrete j row) [ yes d ↦ in_row d (ltb row most_rows) refl | no d ↦ there d (sym (put_other s row from upto z j d) ∙ h) ]
    where
      by-slot : j ≡ row → row < most_rows → (o : Found) → slot_at s row ≡ o → one_more o from upto ≡ Once a e → Put s row from upto j a e
      by-slot d k Missing m i = let b : a ≡ from = cc in let f : e ≡ upto = cc in here d (new_row k m) b f
      by-slot d k (Once b f) m i = let n : ◌≡◌ {A = ℕ} 0 1 = cc in absurd (omega arith)
      by-slot d k Twice m i = let n : ◌≡◌ {A = ℕ} 0 1 = cc in absurd (omega arith)

      in_row : j ≡ row → (t : Bool) → ltb row most_rows ≡ t → Put s row from upto j a e
      in_row d true t =
          let k : row < most_rows = ltb-true row most_rows t in
          by-slot d k (slot_at s row) refl (sym (put_same s row from upto z k) ∙ ap (slot_at (put_in s row from upto)) (sym d) ∙ h)
      in_row d false t =
          let k : most_rows ≤ row = ltb-false row most_rows t in
          let past = slot-past (put_in s row from upto) j (omega arith) in
          let n : ◌≡◌ {A = ℕ} 0 1 = cc (h, past) in absurd (omega arith)

-- a member of the name x, among rows of these names
module _ (names : List (List ℕ)) (apart : Apart names) (few : length names ≤ most_rows) (j : ℕ) (h : j < length names) where
  absorb_one : (x : List ℕ) (s : Slots) (from upto : ℕ) → Sized s
      → slot_at (put_in s (row_named x names 0) from upto) j ≡ (same x (get_or names j []) ⇒ one_more (slot_at s j) from upto else slot_at s j)
  absorb_one x s from upto z =
      by_test (same x (get_or names j []))
      (λ t.
      let e : row_named x names 0 ≡ j = named_by x names j 0 apart h t ∙ omega arith in
      rw (e, t) (put_same s j from upto z (omega arith)))
      (λ t. rw t (put_other s (row_named x names 0) from upto z j (λ e.
      let i : 0 + j ≡ row_named x names 0 = omega arith in named_else x names j 0 (omega arith) h t i)))

  fold_filled : (p : List ℕ) (ms : List Member) (s : Slots) → Sized s
      → slot_at (foldl (absorbed p names) s ms) j ≡ foldl (noted p (get_or names j [])) (slot_at s j) ms
  fold_filled p [] s z = refl
  fold_filled p (m ∷ ms) s z =
      fold_filled p ms (absorbed p names s m) (put-sized s _ m.value m.value_end z)
      ∙ ap (λ (o : Found). foldl (noted p (get_or names j [])) o ms) (absorb_one (name_of p m) s m.value m.value_end z)

pub empty-sized : Sized empty
empty-sized = record { rows = refl }

get_or-replicate : (n j : ℕ) → get_or (replicate n Missing) j Missing ≡ Missing
get_or-replicate zero j = refl
get_or-replicate (suc n) zero = refl
get_or-replicate (suc n) (suc j) = get_or-replicate n j

pub empty-missing : (j : ℕ) → slot_at empty j ≡ Missing
empty-missing j =
    by_test (ltb j most_rows)
    (λ t. slot_here empty j (ltb-true j most_rows t) ∙ get_or-replicate most_rows j)
    (λ t. slot-past empty j (ltb-false j most_rows t))

filled : (p : List ℕ) (names : List (List ℕ)) → Apart names → length names ≤ most_rows → (j : ℕ) → j < length names
    → slot_at (gathered p names) j ≡ found_in p (get_or names j [])
unfolding gathered found_in
filled p names apart few j h =
    fold_filled names apart few j h p (members_of p) empty empty-sized
    ∙ ap (λ (o : Found). foldl (noted p (get_or names j [])) o (members_of p)) (empty-missing j)

pub gathered-slot : (p : List ℕ) (first count : ℕ) (rows : Rows) → Laid sheets first rows → lines_in rows ≡ count → distinct_rows rows ≡ true
    → length (names_in rows) ≤ most_rows → (j : ℕ) → j < length (names_in rows) → slot_at (gathered p (line_names first count)) j ≡ found_in p (get_or (names_in rows) j [])
gathered-slot p first count rows l c d few j h = rw (names-laid rows first count l c few) (filled p (names_in rows) (distinct_apart rows d) few j h)

-- places that are in n bytes, in each slot
pub record PlacesWithin (n : ℕ) (s : Slots) : Type 0 where
  sized : Sized s
  pub inside : (j : ℕ) → Within n (slot_at s j)

pub empty-kept : (n : ℕ) → PlacesWithin n empty
empty-kept n = record { sized = empty-sized; inside = λ j. subst (Within n) (sym (empty-missing j)) tt }

more_within : (n from upto : ℕ) (o : Found) → from < upto → upto ≤ n → Within n (one_more o from upto)
more_within n from upto Missing h i = (h, i)
more_within n from upto (Once a e) h i = tt
more_within n from upto Twice h i = tt

pub put-kept : (n : ℕ) (s : Slots) (row from upto : ℕ) → from < upto → upto ≤ n → PlacesWithin n s → PlacesWithin n (put_in s row from upto)
put-kept n s row from upto h i k =
    record {
      sized = put-sized s row from upto k.sized;
      inside = λ j.
          elim (ℕ_discrete j row) [
            | yes e ↦
                by_test (ltb row most_rows)
                (λ t. rw (e, put_same s row from upto k.sized (ltb-true row most_rows t)) (more_within n from upto (slot_at s row) h i))
                (λ t. rw (put-past s row from upto (ltb-false row most_rows t)) (k.inside j))
            | no e ↦ rw (put_other s row from upto k.sized j e) (k.inside j)
          ];
    }

pub gathers : (p : List ℕ) (first count : ℕ) (s : Slots) → PlacesWithin (length p) s → ((ms : Members) → Whole p (Json.object ms) → s ≡ gathered p (line_names first count))
    → Gathered p first count s
gathers p first count s k e =
    record {
      slot = λ {ms} w rows l c d few j h.
          rw (e ms w) (gathered-slot p first count rows l c d few j h);
      inside = k.inside;
    }
