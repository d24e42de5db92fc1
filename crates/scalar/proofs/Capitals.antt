-- A currency byte by byte: with n capitals passed, those that are left decide, and a fourth byte or another letter ends it.
use mathlib.Core.Bool.{true, false}
use mathlib.Core.List.{List, [], ◌∷◌}
use mathlib.Core.Path.{◌≡◌, sym, ap, ◌∙◌}
use Prim.Native.Nat.{ℕ, ◌+◌}
use native.Mathlib.Omega.{arith}
use lib.Dec.{eqb}
use lib.ListN.{length}
use borrow.Author.Tests.{ne_eqb}
use Rattle.notation.specs.Choice.{◌and◌}
use Rattle.notation.proofs.Booleans.{and-true, and-false}
use Rattle.lexeme.specs.Character.{within}
use Rattle.scalar.specs.Scalars.{capitals, currency}

-- a text, of which n bytes were passed
module _ {x : List ℕ} (n : ℕ) where
  pub currency-end : x ≡ [] → eqb n 3 ≡ (eqb (n + length x) 3 and capitals x)
  unfolding capitals
  currency-end e =
      let z : n ≡ n + 0 = omega arith in
      rw e (ap (λ k. eqb k 3) z ∙ sym (and-true (eqb (n + 0) 3)))

  module _ {b : ℕ} {u : List ℕ} (e : x ≡ b ∷ u) where
    longer : n + length x ≡ n + 1 + length u
    longer = ap (λ z. n + length z) e ∙ omega arith

    pub currency-past : n ≡ 3 → false ≡ (eqb (n + length x) 3 and capitals x)
    currency-past h = ap (λ t. t and capitals x) (sym (ne_eqb (n + length x) 3 (λ z. omega (arith, longer))))

    pub currency-other : within 0x41 0x5a b ≡ false → false ≡ (eqb (n + length x) 3 and capitals x)
    unfolding capitals
    currency-other t =
        let w : capitals x ≡ false = rw (e, capitals, t) in
        sym (ap (λ z. eqb (n + length x) 3 and z) w ∙ and-false (eqb (n + length x) 3))

    pub currency-next : within 0x41 0x5a b ≡ true → (eqb (n + 1 + length u) 3 and capitals u) ≡ (eqb (n + length x) 3 and capitals x)
    unfolding capitals
    currency-next t =
        let w : capitals x ≡ capitals u = rw (e, capitals, t) in
        sym (ap (λ z. eqb (n + length x) 3 and z) w ∙ ap (λ k. eqb k 3 and capitals u) longer)

pub currency-start : (x : List ℕ) → (eqb (0 + length x) 3 and capitals x) ≡ currency x
unfolding currency
currency-start x = let z : 0 + length x ≡ length x = omega arith in ap (λ k. eqb k 3 and capitals x) z
