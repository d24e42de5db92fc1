-- The character at the front by what its first byte says: `next` and `lead` ask the same tests in the same order, so the first that holds decides both.
use mathlib.Core.List.{List}
use mathlib.Core.Path.{◌≡◌, ap, ◌∙◌}
use Prim.Native.Nat.{ℕ}
use lib.Dec.{eqb, ltb}
use Rattle.notation.proofs.Booleans.{by_test}
use Rattle.lexeme.specs.Character.{Surrogates, byte, next}
use Rattle.lexeme.specs.inner.Lead.{Lead, lead, next_by}

pub next-by : (ρ : Surrogates) (l : List ℕ) → next ρ l ≡ next_by ρ l (lead (byte l 0))
unfolding next next_by lead
next-by ρ l =
    let b = byte l 0 in
    by_test (eqb b 0x22) (λ e. rw e) λ e. rw e
    (by_test (eqb b 0x5c) (λ e. rw e) λ e. rw e
    (by_test (ltb b 0x20) (λ e. rw e) λ e. rw e
    (by_test (ltb b 0x80) (λ e. rw e) λ e. rw e
    (by_test (ltb b 0xc2) (λ e. rw e) λ e. rw e
    (by_test (ltb b 0xe0) (λ e. rw e) λ e. rw e
    (by_test (eqb b 0xe0) (λ e. rw e) λ e. rw e
    (by_test (eqb b 0xed) (λ e. rw e) λ e. rw e
    (by_test (ltb b 0xf0) (λ e. rw e) λ e. rw e
    (by_test (eqb b 0xf0) (λ e. rw e) λ e. rw e
    (by_test (ltb b 0xf4) (λ e. rw e) λ e. rw e
    (by_test (eqb b 0xf4) (λ e. rw e) (λ e. rw e))))))))))))

-- `next`, where it is known what the first byte says
pub next_led : (ρ : Surrogates) (l : List ℕ) {t : Lead} → lead (byte l 0) ≡ t → next ρ l ≡ next_by ρ l t
next_led ρ l e = next-by ρ l ∙ ap (next_by ρ l) e
