-- The loops that make the keys. A front that the first records have in common gets no longer with each record, and a shorter one is still common to those before;
-- and a key that is written stays, since the later ones are written behind it.
use mathlib.Core.List.{List}
use mathlib.Core.Path.{◌≡◌, refl, sym, ap, ◌∙◌}
use Prim.Native.Nat.{ℕ, ◌+◌, ◌≤◌, ◌<◌}
use native.Mathlib.Decide.{ℕ_discrete}
use native.Mathlib.Omega.{arith}
use lib.ListN.{length, take, drop, get_or, set, length-set}
use lib.Seq.{take-take, get_or-set_same, get_or-set_other}
use Rattle.text.specs.inner.Key.{key_of}
use Rattle.text.proofs.Bytes.{text-bytes}
use Rattle.sorting.specs.Ids.{id_at}
use Rattle.sorting.specs.inner.Keys.{SameFront, Keyed}

shorter : (m n : ℕ) (x y : List ℕ) → m ≤ n → take n x ≡ take n y → take m x ≡ take m y
shorter m n x y h e = sym (take-take m n x h) ∙ ap (take m) e ∙ take-take m n y h

-- the first k ids begin as the first one does
abbrev pub LikeFirst : (ids : ℕ → List ℕ) → (k skip : ℕ) → Type 0
LikeFirst ids k skip = (j : ℕ) → j < k → take skip (ids j) ≡ take skip (ids 0)

module _ (ids : ℕ → List ℕ) where
  pub like_start : (skip : ℕ) → LikeFirst ids 1 skip
  like_start skip j h = let z : j ≡ 0 = omega arith in ap (λ k. take skip (ids k)) z

  pub like_next : (k skip less : ℕ) → LikeFirst ids k skip → less ≤ skip → take less (ids k) ≡ take less (ids 0) → LikeFirst ids (k + 1) less
  like_next k skip less f g e j h =
      elim (ℕ_discrete j k) [
        | yes z ↦ ap (λ i. take less (ids i)) z ∙ e
        | no z ↦ shorter less skip (ids j) (ids 0) g (f j (omega arith))
      ]

  pub like_all : (n k skip : ℕ) → LikeFirst ids k skip → n ≤ k → SameFront ids n skip
  like_all n k skip f h i j a b = f i (omega arith) ∙ sym (f j (omega arith))

-- the first k keys are written
pub record Written (ids : ℕ → List ℕ) (skip : ℕ) (before keys : List ℕ) (k : ℕ) : Type 0 where
  pub long : length keys ≡ length before
  pub key : (j : ℕ) → j < k → get_or keys j 0 ≡ key_of (drop skip (ids j))

module _ (ids : ℕ → List ℕ) (skip : ℕ) where
  pub written_none : (keys : List ℕ) → Written ids skip keys keys 0
  written_none keys = record { long = refl; key = λ j h. absurd (omega arith) }

  pub written_next : {before keys : List ℕ} {k : ℕ} (x : ℕ) → Written ids skip before keys k → k < length keys → x ≡ key_of (drop skip (ids k)) → Written ids skip before (set keys k x) (k + 1)
  written_next {before} {keys} {k} x w h e =
      record {
        long = length-set keys k x ∙ w.long;
        key = λ j l.
            elim (ℕ_discrete j k) [
              | yes z ↦ ap (λ i. get_or (set keys k x) i 0) z ∙ get_or-set_same keys k x 0 h ∙ e ∙ ap (λ i. key_of (drop skip (ids i))) (sym z)
              | no z ↦ get_or-set_other keys k j x 0 z ∙ w.key j (omega arith)
            ];
      }

-- all of them
pub written_all : (p places : List ℕ) {before keys : List ℕ} {skip k : ℕ} → Written (id_at p places) skip before keys k → length keys ≤ k
    → SameFront (id_at p places) (length before) skip → Keyed (id_at p places) (length before) skip keys
written_all p places w h f = record { front = f; bytes = λ k g. text-bytes (drop (get_or places k 0) p); key = λ k g. w.key k (omega (arith, w.long)) }
