-- Texts of a form have as many bytes as the form, each admitted by the form's byte at its place. So a part of the text is of that part of the form; and the
-- text's first bytes, one more than the form has, tell whether the whole is of the form.
use mathlib.Core.Bool.{Bool, true, false, ◌&&◌}
use mathlib.Core.List.{List, [], ◌∷◌}
use mathlib.Core.Path.{◌≡◌, refl, ap, ◌∙◌}
use Prim.Native.Nat.{ℕ, zero, suc, ◌<◌}
use native.Mathlib.Omega.{arith}
use lib.ListN.{length, take, drop}
use Rattle.std.specs.List.{list_all, zip}
use Rattle.notation.specs.Choice.{◌and◌}
use Rattle.notation.proofs.Booleans.{by_test, true-false, and_both}
use Rattle.calendar.specs.Written.{admits, admitted, has_form}

pub form_length : (form s : List ℕ) → has_form form s ≡ true → length form ≡ length s
unfolding has_form
form_length [] [] e = refl
form_length [] (b ∷ s) e = true-false e refl
form_length (f ∷ form) [] e = true-false e refl
form_length (f ∷ form) (b ∷ s) e = ap suc (form_length form s (and_both (admits f b) (has_form form s) e).1)

pub form_lengths : (form s : List ℕ) → (length form ≡ length s → ⊥) → has_form form s ≡ false
form_lengths form s h = by_test (has_form form s) (λ t. absurd (h (form_length form s t))) λ t. t

-- byte beside byte
pub form-zip : (form s : List ℕ) → length form ≡ length s → list_all admitted (zip form s) ≡ has_form form s
unfolding has_form
form-zip [] [] e = refl
form-zip [] (b ∷ s) e = absurd (omega arith)
form-zip (f ∷ form) [] e = absurd (omega arith)
form-zip (f ∷ form) (b ∷ s) e = ap (λ t. admits f b && t) (form-zip form s (omega arith)) ∙ both (admits f b) (has_form form s)
  where
    both : (t u : Bool) → (t && u) ≡ (t and u)
    both true u = refl
    both false u = refl

-- a part
form_drop : (k : ℕ) (form s : List ℕ) → has_form form s ≡ true → has_form (drop k form) (drop k s) ≡ true
unfolding has_form
form_drop zero form s e = e
form_drop (suc k) [] [] e = refl
form_drop (suc k) [] (b ∷ s) e = true-false e refl
form_drop (suc k) (f ∷ form) [] e = true-false e refl
form_drop (suc k) (f ∷ form) (b ∷ s) e = form_drop k form s (and_both (admits f b) (has_form form s) e).1

form_take : (n : ℕ) (form s : List ℕ) → has_form form s ≡ true → has_form (take n form) (take n s) ≡ true
unfolding has_form
form_take zero form s e = refl
form_take (suc n) [] [] e = refl
form_take (suc n) [] (b ∷ s) e = true-false e refl
form_take (suc n) (f ∷ form) [] e = true-false e refl
form_take (suc n) (f ∷ form) (b ∷ s) e = let t = and_both (admits f b) (has_form form s) e in rw (t.0, has_form) (form_take n form s t.1)

pub form_part : (k n : ℕ) (form s : List ℕ) → has_form form s ≡ true → has_form (take n (drop k form)) (take n (drop k s)) ≡ true
form_part k n form s e = form_take n (drop k form) (drop k s) (form_drop k form s e)

-- the first bytes, more than the form has
pub form_front : (n : ℕ) (form s : List ℕ) → length form < n → has_form form (take n s) ≡ has_form form s
unfolding has_form
form_front zero form s h = absurd (omega arith)
form_front (suc n) [] [] h = refl
form_front (suc n) [] (b ∷ s) h = refl
form_front (suc n) (f ∷ form) [] h = refl
form_front (suc n) (f ∷ form) (b ∷ s) h = ap (λ t. admits f b and t) (form_front n form s (omega arith))
