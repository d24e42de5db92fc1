-- File after file. Of lists of rules: what holds of each file's holds of all, what stands in one stands among all, equal ones make equal lists, and where
-- there are none at all no file has any; by induction on how many files are left.
use mathlib.Core.List.Memᴰ
use mathlib.Core.List.{List, [], ◌∷◌, ◌++◌, Memᴰ}
use mathlib.Core.Path.{◌≡◌, refl, sym, ap₂, subst}
use Prim.Native.Nat.{ℕ, zero, suc, ◌+◌, ◌≤◌, ◌<◌}
use native.Mathlib.Decide.{ℕ_discrete}
use native.Mathlib.Omega.{arith}
use Rattle.fault.specs.Outcome.{file_count}
use Rattle.judge.proofs.Holds.{All, none, more, all_append}
use Rattle.verdict.specs.Verdict.{each_from, every_file}

module _ {A : Type 0} where
  pub all-at : {P : A → Type 0} {l : List A} {x : A} → All P l → Memᴰ x l → P x
  all-at {P} (more h hs) (Memᴰ.head e) = subst P (sym e) h
  all-at (more h hs) (Memᴰ.tail m) = all-at hs m
  all-at {P = P} none m = elim m [ ]

  pub all_of : {P : A → Type 0} (l : List A) → ((x : A) → Memᴰ x l → P x) → All P l
  all_of [] h = none
  all_of (x ∷ l) h = more (h x (Memᴰ.head refl)) (all_of l (λ y m. h y (Memᴰ.tail m)))

  pub all_map : {P Q : A → Type 0} {l : List A} → ((x : A) → P x → Q x) → All P l → All Q l
  all_map t none = none
  all_map t (more {x = x} h hs) = more (t x h) (all_map t hs)

  from_all : {P : A → Type 0} (f : ℕ → List A) (file left : ℕ) → ((k : ℕ) → file ≤ k → k < file + left → All P (f k)) → All P (each_from f file left)
  unfolding each_from
  from_all f file zero h = none
  from_all f file (suc left) h = all_append (h file (omega arith) (omega arith)) (from_all f (file + 1) left (λ k i j. h k (omega arith) (omega arith)))

  pub every_all : {P : A → Type 0} (f : ℕ → List A) → ((file : ℕ) → 1 ≤ file → file ≤ file_count → All P (f file)) → All P (every_file f)
  every_all f h = from_all f 1 file_count (λ k i j. h k i (omega arith))

  from_member : (f : ℕ → List A) (x : A) (file left k : ℕ) → file ≤ k → k < file + left → Memᴰ x (f k) → Memᴰ x (each_from f file left)
  unfolding each_from
  from_member f x file zero k h i m = absurd (omega arith)
  from_member f x file (suc left) k h i m =
      let ih = from_member f x (file + 1) left k in
      elim (ℕ_discrete k file) [
        | yes e ↦ Memᴰ.append_left (each_from f (file + 1) left) (subst (λ (n : ℕ). Memᴰ x (f n)) e m)
        | no e ↦ Memᴰ.append_right (f file) (ih (omega arith) (omega arith) m)
      ]

  pub every_member : (f : ℕ → List A) (x : A) (file : ℕ) → 1 ≤ file → file ≤ file_count → Memᴰ x (f file) → Memᴰ x (every_file f)
  every_member f x file h i m = from_member f x 1 file_count file h (omega arith) m

  from-same : (f g : ℕ → List A) (file left : ℕ) → ((k : ℕ) → file ≤ k → k < file + left → f k ≡ g k) → each_from f file left ≡ each_from g file left
  unfolding each_from
  from-same f g file zero e = refl
  from-same f g file (suc left) e = ap₂ ◌++◌ (e file (omega arith) (omega arith)) (from-same f g (file + 1) left (λ k i j. e k (omega arith) (omega arith)))

  pub every_same : (f g : ℕ → List A) → ((file : ℕ) → 1 ≤ file → file ≤ file_count → f file ≡ g file) → every_file f ≡ every_file g
  every_same f g e = from-same f g 1 file_count (λ k i j. e k i (omega arith))

  pub every_none : (f : ℕ → List A) → every_file f ≡ [] → (file : ℕ) → 1 ≤ file → file ≤ file_count → f file ≡ []
  every_none f e file h i = go (f file) refl
    where
      go : (l : List A) → f file ≡ l → l ≡ []
      go [] k = refl
      go (x ∷ l) k =
          absurd (Memᴰ.not-nil (subst (Memᴰ x) e (every_member f x file h i (subst (Memᴰ x) (sym k) (Memᴰ.head refl)))))
