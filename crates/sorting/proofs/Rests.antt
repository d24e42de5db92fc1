-- A part that goes on to the end is what is left there.
use mathlib.Core.List.{List}
use mathlib.Core.Path.{◌≡◌, sym, ap, ◌∙◌}
use Prim.Native.Nat.{ℕ, ◌-◌, ◌≤◌, min}
use lib.Dec.{leb}
use borrow.Author.Tests.{leb-true, leb-false}
use Rattle.notation.proofs.Booleans.{by_test}
use native.Mathlib.Omega.{arith}
use lib.ListN.{length, take, drop, length-drop, drop_of_length-le}
use lib.Seq.{take_all, drop-length}

module _ (s : List ℕ) (at : ℕ) where
  pub to_end : take (length s - at) (drop at s) ≡ drop at s
  to_end = take_all (length s - at) (drop at s) (omega (arith, length-drop at s))

  pub past_end : length s ≤ at → drop (length s) s ≡ drop at s
  past_end h = drop-length s ∙ sym (drop_of_length-le s h)

-- a place that is brought to the end where it is past it
pub until_end : (s : List ℕ) (at : ℕ) {m : ℕ} → m ≡ min at (length s) → drop m s ≡ drop at s
until_end s at {m} e =
    by_test (leb at (length s)) (λ t. let h = leb-true at (length s) t in let z : m ≡ at = omega arith in ap (λ k. drop k s) z)
    λ f. let h = leb-false at (length s) f in let z : m ≡ length s = omega arith in ap (λ k. drop k s) z ∙ past_end s at (omega arith)
