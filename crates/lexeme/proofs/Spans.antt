-- A run of bytes that a test admits, and the text past it. Blanks and digits are such runs, so their loops share one argument:
-- what is past the run is the same from each of its bytes on.
use mathlib.Core.Bool.{Bool, true, false}
use mathlib.Core.List.{List, [], ◌∷◌, ◌++◌}
use mathlib.Core.Path.{◌≡◌, refl, sym, ap, ◌∙◌}
use Prim.Native.Nat.{ℕ, ◌+◌, ◌-◌, ◌≤◌, ◌<◌}
use native.Mathlib.Omega.{arith}
use lib.ListN.{length, drop, get_or, drop_of_length-le}
use Rattle.notation.proofs.Booleans.{by_test}
use Rattle.notation.proofs.Lists.{at_cons}
use Rattle.lexeme.specs.Read.{made, placed}
use Rattle.lexeme.specs.Read.Read.{done}
use Rattle.lexeme.specs.Numbers.{digit, digits}
use Rattle.lexeme.specs.Tokens.{blank, blanks}
use Rattle.lexeme.proofs.Placed.{ends}
use Rattle.lexeme.proofs.Rests.{place_at, rest_at, rest-after}
use Rattle.std.specs.Prelude.{Ok}

unfoldable pub past : (ℕ → Bool) → List ℕ → List ℕ
past test [] = []
past test (b ∷ r) = elim (test b) [ true ↦ past test r | false ↦ b ∷ r ]

pub past_splits : (test : ℕ → Bool) (l : List ℕ) → (p : List ℕ) × (l ≡ p ++ past test l)
unfolding past
past_splits test [] = ([], refl)
past_splits test (b ∷ r) =
    let w = past_splits test r in
    by_test (test b) (λ e. (b ∷ w.0, rw (e, past) (ap (λ (x : List ℕ). b ∷ x) w.1))) (λ e. ([], rw (e, past)))

-- The loop over a run, at i: x is the text past it. The code's test t of the byte there tells whether the run goes on.
module _ (test : ℕ → Bool) (s : List ℕ) (i : ℕ) {x : List ℕ} (left : past test (drop i s) ≡ x) where
  pub run_ends : length s ≤ i → length s ≡ length s - length x
  unfolding past
  run_ends h = let w : past test (drop i s) ≡ [] = rw (drop_of_length-le s h) in rw (sym left ∙ w) (omega arith)

  module _ (h : i < length s) {t : Bool} (e : t ≡ test (get_or s i 0)) where
    pub run_next : t ≡ true → past test (drop (i + 1) s) ≡ x
    unfolding past
    run_next n =
        let w : past test (drop i s) ≡ past test (drop (i + 1) s) = rw (at_cons s i h, sym e ∙ n, past) in
        sym w ∙ left

    pub run_stops : t ≡ false → i ≡ length s - length x
    unfolding past
    run_stops n =
        let w : past test (drop i s) ≡ drop i s = rw (at_cons s i h, sym e ∙ n, past) in
        rw (sym left ∙ w) (place_at s i (omega arith))

-- blanks
pub blanks-past : (l : List ℕ) → blanks l ≡ past blank l
unfolding blanks past
blanks-past [] = refl
blanks-past (b ∷ r) = let w = blanks-past r in by_test (blank b) (λ e. rw (e, blanks, past) w) (λ e. rw (e, blanks, past))

-- where the code finds the blanks' end
pub record Skipped (s : List ℕ) (at r : ℕ) : Type 0 where
  pub rest : drop r s ≡ blanks (drop at s)
  pub upto : r ≤ length s
  pub from : at ≤ length s → at ≤ r

pub skipped : (s : List ℕ) (at r : ℕ) → r ≡ length s - length (blanks (drop at s)) → Skipped s at r
skipped s at r e =
    let w = past_splits blank (drop at s) in
    let h : drop at s ≡ w.0 ++ blanks (drop at s) = w.1 ∙ ap (λ (x : List ℕ). w.0 ++ x) (sym (blanks-past (drop at s))) in
    record {
      rest = ap (λ (n : ℕ). drop n s) e ∙ rest_at s at w.0 (blanks (drop at s)) h;
      upto = omega arith;
      from = λ k. rw e (rest-after s at w.0 (blanks (drop at s)) h k);
    }

-- digits
pub digits-past : (l : List ℕ) → (x : List ℕ) × (digits l ≡ done x (past digit l))
unfolding digits past made
digits-past [] = ([], refl)
digits-past (b ∷ r) =
    let w = digits-past r in
    by_test (digit b) (λ e. (b ∷ w.0, rw (e, digits, past, w.1))) (λ e. ([], rw (e, digits, past)))

pub digits-end : (s l : List ℕ) {n : ℕ} → n ≡ length s - length (past digit l) → Ok n ≡ placed s (digits l)
digits-end s l {n} e = let d = digits-past l in ends s (past digit l) n _ e d.0 d.1
