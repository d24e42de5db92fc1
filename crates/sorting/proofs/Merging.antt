-- The loop that merges two runs: what stands in the list so far, with the merge of what is left of both behind it, is the merge of the whole.
use mathlib.Core.Bool.{Bool, true, false}
use mathlib.Core.List.{List, [], ◌∷◌, ◌++◌, append_assoc, append-nil}
use mathlib.Core.Path.{◌≡◌, refl, sym, ap, ◌∙◌}
use Prim.Native.Nat.{ℕ, suc, ◌+◌, ◌≤◌, ◌<◌}
use native.Mathlib.Omega.{arith}
use lib.ListN.{length, take, drop, get_or, set, length-drop, drop_of_length-le, length-set}
use lib.Seq.{take-suc-set, take-length}
use Rattle.notation.proofs.Lists.{at_cons}
use Rattle.notation.proofs.Booleans.{true-false}
use Rattle.sorting.specs.inner.Merge.{leads, merge}
use Rattle.sorting.proofs.Sorts.{merge_none, merge-first, merge-second}

module _ (le : ℕ → ℕ → Bool) where
  -- which run the next number comes from, by what is left of both
  module _ (a b : List ℕ) (i j : ℕ) where
    pub leads-none : length a ≤ i → false ≡ leads le (drop i a) (drop j b)
    unfolding leads
    leads-none h = rw (drop_of_length-le a h)

    pub leads-only : i < length a → length b ≤ j → true ≡ leads le (drop i a) (drop j b)
    unfolding leads
    leads-only g h = rw (drop_of_length-le b h, at_cons a i g)

    pub leads-both : i < length a → j < length b → le (get_or a i 0) (get_or b j 0) ≡ leads le (drop i a) (drop j b)
    unfolding leads
    leads-both g h = rw (at_cons b j h, at_cons a i g)

  -- there is one
  leads-some : (xs ys : List ℕ) → leads le xs ys ≡ true → 0 < length xs
  unfolding leads
  leads-some [] ys e = true-false e refl
  leads-some (x ∷ xs) ys e = omega arith

  leads-other : (xs ys : List ℕ) → leads le xs ys ≡ false → 0 < length xs + length ys → 0 < length ys
  unfolding leads
  leads-other [] ys e h = omega arith
  leads-other (x ∷ xs) [] e h = true-false refl e
  leads-other (x ∷ xs) (y ∷ ys) e h = omega arith

  -- it is the first of the merge
  from_first : (x : ℕ) (xs ys : List ℕ) → leads le (x ∷ xs) ys ≡ true → merge le (x ∷ xs) ys ≡ x ∷ merge le xs ys
  unfolding leads
  from_first x xs [] e = merge_none le (x ∷ xs) ∙ ap (λ l. x ∷ l) (sym (merge_none le xs))
  from_first x xs (y ∷ ys) e = merge-first le x xs y ys e

  from_second : (xs : List ℕ) (y : ℕ) (ys : List ℕ) → leads le xs (y ∷ ys) ≡ false → merge le xs (y ∷ ys) ≡ y ∷ merge le xs ys
  unfolding leads merge
  from_second [] y ys e = refl
  from_second (x ∷ xs) y ys e = merge-second le x xs y ys e

  -- i numbers of the run a and j of the run b stand in `out`
  pub record Merging (a b out : List ℕ) (i j : ℕ) : Type 0 where
    pub first : i ≤ length a
    pub second : j ≤ length b
    pub long : length out ≡ length a + length b
    pub whole : take (i + j) out ++ merge le (drop i a) (drop j b) ≡ merge le a b

  module _ (a b : List ℕ) where
    pub merging_start : (out : List ℕ) → length out ≡ length a + length b → Merging a b out 0 0
    merging_start out e = record { first = omega arith; second = omega arith; long = e; whole = refl }

    module _ (out : List ℕ) (i j : ℕ) (w : Merging a b out i j) where
      pub in_first : leads le (drop i a) (drop j b) ≡ true → i < length a
      in_first e = omega (arith, leads-some (drop i a) (drop j b) e, length-drop i a)

      pub in_second : leads le (drop i a) (drop j b) ≡ false → i + j < length out → j < length b
      in_second e h = omega (arith, leads-other (drop i a) (drop j b) e (omega (arith, length-drop i a, length-drop j b, w.long, w.first, w.second)), length-drop j b)

      -- one more, x, of the merge of what is left
      one_more_lem : (x : ℕ) (rest : List ℕ) (k : ℕ) → k ≡ suc (i + j) → i + j < length out → merge le (drop i a) (drop j b) ≡ x ∷ rest
          → take k (set out (i + j) x) ++ rest ≡ merge le a b
      one_more_lem x rest k n h e =
          ap (λ k. take k (set out (i + j) x) ++ rest) n
          ∙ ap (λ l. l ++ rest) (take-suc-set out (i + j) x h)
          ∙ append_assoc (take (i + j) out) (x ∷ []) rest
          ∙ ap (λ l. take (i + j) out ++ l) (sym e)
          ∙ w.whole

      pub merging_first : leads le (drop i a) (drop j b) ≡ true → i + j < length out → Merging a b (set out (i + j) (get_or a i 0)) (i + 1) j
      merging_first e h =
          let m = in_first e in let c = at_cons a i m in
          record {
            first = omega arith;
            second = w.second;
            long = length-set out (i + j) (get_or a i 0) ∙ w.long;
            whole = one_more_lem (get_or a i 0) _ (i + 1 + j) (omega arith) h (ap (λ l. merge le l (drop j b)) c ∙ from_first (get_or a i 0) (drop (i + 1) a) (drop j b) (rw c at e));
          }

      pub merging_second : leads le (drop i a) (drop j b) ≡ false → i + j < length out → Merging a b (set out (i + j) (get_or b j 0)) i (j + 1)
      merging_second e h =
          let m = in_second e h in let c = at_cons b j m in
          record {
            first = w.first;
            second = omega arith;
            long = length-set out (i + j) (get_or b j 0) ∙ w.long;
            whole = one_more_lem (get_or b j 0) _ (i + (j + 1)) (omega arith) h (ap (merge le (drop i a)) c ∙ from_second (drop i a) (get_or b j 0) (drop (j + 1) b) (rw c at e));
          }

      pub merging_end : length out ≤ i + j → out ≡ merge le a b
      merging_end h =
          let n : i + j ≡ length out = omega (arith, w.long, w.first, w.second) in
          let g : length a ≤ i = omega (arith, w.long, w.second) in
          let f : length b ≤ j = omega (arith, w.long, w.first) in
          sym (append-nil out) ∙ ap (λ l. l ++ []) (sym (take-length out) ∙ ap (λ k. take k out) (sym n))
          ∙ ap (λ l. take (i + j) out ++ l) (sym (none_left (drop_of_length-le a g) (drop_of_length-le b f)))
          ∙ w.whole
        where
          none_left : drop i a ≡ [] → drop j b ≡ [] → merge le (drop i a) (drop j b) ≡ []
          none_left e f = rw (e, f) (merge_none le [])

-- what each test of `takes_first` decides
pub ruleset leads_rules = (leads-none, leads-only, leads-both)
