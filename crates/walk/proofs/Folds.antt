-- A loop over the members of an object or the items of an array, for any fold over them: what is still to come decides the result. A loop over members has
-- `Walk (member_steps p) g s at (foldl g s₀ (members_of p))` for its invariant and cites `members-start`, `walk_more` and `walk_end`; one over items has `Comes`
-- (`Left.antt`). A step goes on by a byte at least, so the text's length bounds their number.
use mathlib.Core.List.Memᴰ
use mathlib.Core.List.{List, [], ◌∷◌, foldl, Memᴰ}
use mathlib.Core.Logic.{◌⊎◌, inl, inr, ⊎_elim}
use mathlib.Core.Path.{◌≡◌, refl, sym, ap, subst, ◌∙◌}
use Prim.Native.Nat.{ℕ, zero, suc, ◌+◌, ◌≤◌, ◌<◌}
use native.Mathlib.Omega.{arith}
use lib.ListN.{length}
use Rattle.walk.specs.declared.Member.{Member}
use Rattle.walk.specs.declared.Item.{Item}
use Rattle.walk.specs.Walk.{member_at, member_then, members_from, members_of, item_at, item_then, items_from}
use Rattle.walk.proofs.Places.{member-placed, item-placed}
use Rattle.std.specs.Prelude.{Option, Some, None}

-- steps through a text of n bytes: what one finds at a place, where the next is looked for, and all that is found from a place on
pub record Steps (n : ℕ) (M : Type 0) : Type 1 where
  pub Finds : ℕ → M → Type 0
  pub Ends : ℕ → Type 0
  pub next : M → ℕ
  pub from : ℕ → ℕ → List M
  pub either : (at : ℕ) → Ends at ⊎ ((m : M) × Finds at m)
  pub later : (at : ℕ) (m : M) → Finds at m → at < next m
  pub inside : (at : ℕ) (m : M) → Finds at m → next m ≤ n
  pub none : (at : ℕ) → from zero at ≡ []
  pub end : (k at : ℕ) → Ends at → from k at ≡ []
  pub more : (k at : ℕ) (m : M) → Finds at m → from (suc k) at ≡ m ∷ from k (next m)

-- the fold g, which has come to s at the place `at`, will come to r
abbrev pub Walk : {n : ℕ} {M A : Type 0} → Steps n M → (A → M → A) → A → ℕ → A → Type 0
Walk {n} w g s at r = (k : ℕ) × (n ≤ at + k) × (foldl g s (w.from k at) ≡ r)

module _ {n : ℕ} {M : Type 0} (w : Steps n M) where
  -- enough steps are left where one finds something
  pub one_more_lem : (k at : ℕ) (m : M) → w.Finds at m → n ≤ at + k → (j : ℕ) × (n ≤ w.next m + j) × (w.from k at ≡ m ∷ w.from j (w.next m))
  one_more_lem zero at m f h = absurd (omega (arith, w.later at m f, w.inside at m f))
  one_more_lem (suc k) at m f h = (k, omega (arith, w.later at m f), w.more k at m f)

  -- what holds of all that a step finds holds of each in the list
  pub each : (P : M → Type 0) → ((at : ℕ) (m : M) → w.Finds at m → P m) → (k at : ℕ) (m : M) → Memᴰ m (w.from k at) → P m
  each P holds zero at m i = absurd (Memᴰ.not-nil (subst (Memᴰ m) (w.none at) i))
  each P holds (suc k) at m i =
      let ih = each P holds k in
      ⊎_elim (λ e. absurd (Memᴰ.not-nil (subst (Memᴰ m) (w.end (suc k) at e) i)))
      (λ f. ⊎_elim (λ e. subst P (sym e) (holds at f.0 f.1)) (ih (w.next f.0) m)
      (Memᴰ.cases_cons (subst (Memᴰ m) (w.more k at f.0 f.1) i)))
      (w.either at)

  module _ {A : Type 0} (g : A → M → A) where
    pub walk_start : (s : A) (at : ℕ) → Walk w g s at (foldl g s (w.from n at))
    walk_start s at = (n, omega arith, refl)

    pub walk_more : (s : A) (at : ℕ) (r : A) (m : M) → w.Finds at m → Walk w g s at r → Walk w g (g s m) (w.next m) r
    walk_more s at r m f (k, h, e) = let j = one_more_lem k at m f h in (j.0, j.1, ap (foldl g s) (sym j.2) ∙ e)

    pub walk_end : (s : A) (at : ℕ) (r : A) → w.Ends at → Walk w g s at r → s ≡ r
    walk_end s at r f (k, h, e) = ap (foldl g s) (sym (w.end k at f)) ∙ e

-- Steps of which each looks at one place and answers `end`, or `found m`: all that is found from a place on is what the step there finds, and then what is found
-- where the next is looked for.
module _ {n : ℕ} {M S : Type 0} (look : ℕ → S) (end : S) (found : M → S) (next : M → ℕ) (either : (s : S) → (s ≡ end) ⊎ ((m : M) × (s ≡ found m)))
    (placed : (at : ℕ) (m : M) → look at ≡ found m → (at < next m) × (next m ≤ n)) (from : ℕ → ℕ → List M) (then : (ℕ → List M) → S → List M)
    (at-end : (rest : ℕ → List M) → then rest end ≡ []) (at-found : (rest : ℕ → List M) (m : M) → then rest (found m) ≡ m ∷ rest (next m))
    (none : (at : ℕ) → from zero at ≡ []) (some : (k at : ℕ) → from (suc k) at ≡ then (from k) (look at)) where
  pub from_end : (k at : ℕ) → look at ≡ end → from k at ≡ []
  from_end zero at e = none at
  from_end (suc k) at e = some k at ∙ ap (then (from k)) e ∙ at-end (from k)

  abbrev pub steps_by : Steps n M
  steps_by =
      record {
        Finds = λ at m. look at ≡ found m;
        Ends = λ at. look at ≡ end;
        next = next;
        from = from;
        either = λ at. either (look at);
        later = λ at m e. (placed at m e).0;
        inside = λ at m e. (placed at m e).1;
        none = none;
        end = from_end;
        more = λ k at m e. some k at ∙ ap (then (from k)) e ∙ at-found (from k) m;
      }

-- members
abbrev members-either : (s : Option Member) → (s ≡ None) ⊎ ((m : Member) × (s ≡ Some m))
members-either None = inl refl
members-either (Some m) = inr (m, refl)

module _ (p : List ℕ) where
  pub members-none : (at : ℕ) → members_from zero p at ≡ []
  unfolding members_from
  members-none at = refl

  pub members-some : (k at : ℕ) → members_from (suc k) p at ≡ member_then (members_from k p) (member_at p at)
  unfolding members_from
  members-some k at = refl

  abbrev pub member_steps : Steps (length p) Member
  member_steps =
      steps_by (member_at p) None Some (λ m. m.next) members-either
      (λ at m e. let i = member-placed p at m e in (omega arith, i.inside)) (λ k at. members_from k p at) member_then (λ rest. refl) (λ rest m. refl) members-none members-some

  pub members-start : {A : Type 0} (g : A → Member → A) (s : A) → Walk member_steps g s 1 (foldl g s (members_of p))
  unfolding members_of
  members-start g s = walk_start member_steps g s 1

-- items
abbrev items-either : (s : Option Item) → (s ≡ None) ⊎ ((m : Item) × (s ≡ Some m))
items-either None = inl refl
items-either (Some m) = inr (m, refl)

module _ (p : List ℕ) where
  pub items-none : (at : ℕ) → items_from zero p at ≡ []
  unfolding items_from
  items-none at = refl

  pub items-some : (k at : ℕ) → items_from (suc k) p at ≡ item_then (items_from k p) (item_at p at)
  unfolding items_from
  items-some k at = refl

  abbrev pub item_steps : Steps (length p) Item
  item_steps =
      steps_by (item_at p) None Some (λ m. m.next) items-either
      (λ at m e. let i = item-placed p at m e in (omega arith, i.inside)) (λ k at. items_from k p at) item_then (λ rest. refl) (λ rest m. refl) items-none items-some

  pub items-end : (k at : ℕ) → item_at p at ≡ None → items_from k p at ≡ []
  items-end = item_steps.end
