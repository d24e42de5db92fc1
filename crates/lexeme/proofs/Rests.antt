-- A text from a place on: its first byte, the text after that byte, and the place of a rest of it. By the list laws of `drop`.
use mathlib.Core.Bool.{Bool, true, false}
use mathlib.Core.List.{List, [], ◌∷◌, ◌++◌, append_assoc}
use mathlib.Core.Path.{◌≡◌, refl, sym, ap, ◌∙◌}
use Prim.Native.Nat.{ℕ, suc, ◌+◌, ◌-◌, ◌≤◌, ◌<◌}
use native.Mathlib.Omega.{arith}
use lib.ListN.{length, drop, take, length-drop, length-append, take-append-drop, drop_of_length-le, get_or-eq_default}
use lib.Seq.{drop-drop, drop_at, drop-length, get_or-drop}
use Rattle.notation.proofs.Booleans.{true-false}
use Rattle.lexeme.specs.Character.{byte}

pub place_at : (s : List ℕ) (i : ℕ) → i ≤ length s → i ≡ length s - length (drop i s)
place_at s i h = simp length-drop (omega arith)

pub next-drop : (s : List ℕ) (i : ℕ) → drop 1 (drop i s) ≡ drop (i + 1) s
next-drop s i = drop-drop 1 i s

-- a byte and what is left, as many places after `at`: past the end, and before it
pub none_left : (s : List ℕ) (at k : ℕ) → length s ≤ at + k → drop (length s) s ≡ drop k (drop at s)
none_left s at k h = drop-length s ∙ sym (drop_of_length-le s h) ∙ sym (drop-drop k at s)

pub no_byte : (s : List ℕ) (at k : ℕ) → length s ≤ at + k → 0 ≡ byte (drop at s) k
no_byte s at k h = sym (get_or-eq_default s 0 h) ∙ sym (get_or-drop at s k 0)

pub first_byte : (s : List ℕ) (i : ℕ) → byte s i ≡ byte (drop i s) 0
first_byte s i = let z : i ≡ i + 0 = omega arith in ap (byte s) z ∙ sym (get_or-drop i s 0 0)

pub some_left : (s : List ℕ) (i : ℕ) → i < length s → 0 < length (drop i s)
some_left s i h = simp length-drop (omega arith)

-- a byte past the end is 0: a byte that a test admits, and 0 not, stands in the text
module _ (test : ℕ → Bool) (none : test 0 ≡ false) where
  pub shows : (l : List ℕ) → test (byte l 0) ≡ true → l ≡ byte l 0 ∷ drop 1 l
  shows [] h = true-false h none
  shows (b ∷ r) h = refl

  pub inside : (s : List ℕ) (i : ℕ) → test (byte (drop i s) 0) ≡ true → i < length s
  inside s i h =
      let e : length (drop i s) ≡ suc (length (drop 1 (drop i s))) = ap length (shows (drop i s) h) in
      omega (arith, length-drop i s)

-- the text that is left, after the part p of what stands from `at` on, begins where its length says
pub rest_at : (s : List ℕ) (i : ℕ) (p r : List ℕ) → drop i s ≡ p ++ r → drop (length s - length r) s ≡ r
rest_at s i p r e =
    let w : s ≡ (take i s ++ p) ++ r = sym (take-append-drop i s) ∙ ap (λ (x : List ℕ). take i s ++ x) e ∙ sym (append_assoc (take i s) p r) in
    let n : length (take i s ++ p) ≡ length s - length r = omega (arith, ap length w, length-append (take i s ++ p) r) in
    ap (drop (length s - length r)) w ∙ drop_at (take i s ++ p) r _ n

pub rest-after : (s : List ℕ) (i : ℕ) (p r : List ℕ) → drop i s ≡ p ++ r → i ≤ length s → i ≤ length s - length r
rest-after s i p r e h = omega (arith, ap length e, length-append p r, length-drop i s)
