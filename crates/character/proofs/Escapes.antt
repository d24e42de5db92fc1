-- The ways through the definitions of escapes, one equation for each.
use mathlib.Core.List.{List}
use mathlib.Core.Path.{◌≡◌, sym, ap, ◌∙◌}
use Prim.Native.Nat.{ℕ}
use lib.ListN.{drop}
use borrow.Author.Tests.{eq-eqb, ne_eqb, eqb-false}
use Rattle.lexeme.specs.declared.Next.{Next}
use Rattle.lexeme.specs.Character.Surrogates.{paired}
use Rattle.lexeme.specs.Character.{byte, char1, quad, unit, unicode, short, escape}
use Rattle.std.specs.Prelude.{Result, Ok, Some, None, eqb}
use Rattle.notation.proofs.Booleans.{by_test}
use Rattle.character.specs.inner.Short as in-two

module _ (l : List ℕ) {m : List ℕ} {q : Result ℕ ℕ} (e : m ≡ drop 2 l) (f : q ≡ quad m) where
  pub unicode-value : {v : ℕ} {n : Next} → q ≡ Ok v → n ≡ unit paired l v → n ≡ unicode paired l (quad (drop 2 l))
  unfolding unicode
  unicode-value g h = h ∙ rw (sym (f ∙ ap quad e) ∙ g, unicode)

pub short_is : (b : ℕ) {x : ℕ} → Some x ≡ in-two.short b → (x ≡ short b) × (x ≡ 0 → ⊥)
short_is b {x} e =
    by_test (eqb (short b) 0) (λ h.
    let w : Some x ≡ None = rw h at e in absurd cc) (λ h.
    let w : Some x ≡ Some (short b) = rw h at e in
    let i : x ≡ short b = cc in (i, λ z. eqb-false (short b) 0 h (sym i ∙ z)))

module _ (l : List ℕ) {b : ℕ} (e : b ≡ byte l 1) where
  pub escape_unicode : {n : Next} → b ≡ 0x75 → n ≡ unicode paired l (quad (drop 2 l)) → n ≡ escape paired l
  unfolding escape
  escape_unicode h i = i ∙ rw (eq-eqb (byte l 1) 0x75 (sym e ∙ h), escape)

  module _ (n : b ≡ 0x75 → ⊥) {x : ℕ} (f : x ≡ short b) where
    means : x ≡ short (byte l 1)
    means = f ∙ ap short e

    pub escape-short : (x ≡ 0 → ⊥) → char1 x 1 ≡ escape paired l
    unfolding escape
    escape-short h = rw (means, ne_eqb (byte l 1) 0x75 (λ z. n (e ∙ z)), ne_eqb (short (byte l 1)) 0 (λ z. h (means ∙ z)), escape)
