-- The parts of a number at places of a text, one equation for each way that the code goes. The byte at a place decides, and a byte past
-- the end is 0, with which no part begins, so that a text which ends there is told by the same test.
use mathlib.Core.Bool.{Bool, true, false}
use mathlib.Core.List.{List, [], ◌∷◌, ◌++◌}
use mathlib.Core.Path.{◌≡◌, refl, sym, ap, ◌∙◌}
use Prim.Native.Nat.{ℕ, ◌+◌, ◌<◌}
use lib.Dec.{eqb}
use lib.ListN.{length, drop}
use borrow.Author.Tests.{eq-eqb, ne_eqb}
use Rattle.notation.proofs.Booleans.{by_test}
use Rattle.word.specs.Kinds.{not_json}
use Rattle.lexeme.specs.Read.{Read, made, placed}
use Rattle.lexeme.specs.Read.Read.{done, bad}
use Rattle.lexeme.specs.Character.{byte, within}
use Rattle.lexeme.specs.Numbers.{digit, either, digits, some_digits, optional, both, nothing, integer, minus, fraction, exponent, number}
use Rattle.lexeme.proofs.Placed.{placed-made, Leaves}
use Rattle.lexeme.proofs.Rests.{shows, inside, next-drop}
use Rattle.lexeme.proofs.Steps.{bad-done, made_reads, made_fails, some_digits-more, some_digits-none, both-reads, both_fails}
use Rattle.lexeme.proofs.Spans.{past, past_splits, digits-past}

-- tests that the byte past the end fails
pub digit-inside : (s : List ℕ) (i : ℕ) → digit (byte (drop i s) 0) ≡ true → i < length s
unfolding digit within
digit-inside s i h = inside digit refl s i h

pub either-inside : (x y : ℕ) → either x y 0 ≡ false → (s : List ℕ) (i : ℕ) → either x y (byte (drop i s) 0) ≡ true → i < length s
either-inside x y e s i h = inside (either x y) e s i h

pub equal-inside : (x : ℕ) → eqb 0 x ≡ false → (s : List ℕ) (i : ℕ) → byte (drop i s) 0 ≡ x → i < length s
equal-inside x e s i h = inside (λ b. eqb b x) e s i (eq-eqb _ _ h)

-- Digits, one at least, by the code's test of the byte b at the place.
module _ (s : List ℕ) (at : ℕ) {b : ℕ} {t : Bool} (f : b ≡ byte (drop at s) 0) (g : t ≡ digit b) where
  pub digits-inside : t ≡ true → at < length s
  digits-inside n = digit-inside s at (ap digit (sym f) ∙ sym g ∙ n)

  pub digits-none : t ≡ false → some_digits (drop at s) ≡ bad not_json (drop at s)
  digits-none n = go (drop at s) (ap digit (sym f) ∙ sym g ∙ n)
    where
      go : (l : List ℕ) → digit (byte l 0) ≡ false → some_digits l ≡ bad not_json l
      go [] h = unfold some_digits in refl
      go (c ∷ r) h = some_digits-none c r h

  pub digits-first : t ≡ true → placed s (some_digits (drop at s)) ≡ placed s (digits (drop (at + 1) s))
  unfolding digit within
  digits-first n =
      let h = ap digit (sym f) ∙ sym g ∙ n in
      ap (placed s) (ap some_digits (shows digit refl (drop at s) h) ∙ some_digits-more _ _ h)
      ∙ placed-made s _ (digits (drop 1 (drop at s)))
      ∙ ap (λ (l : List ℕ). placed s (digits l)) (next-drop s at)

pub some_leaves : Leaves some_digits
unfolding some_digits made
some_leaves [] r x e = bad-done e
some_leaves (b ∷ l) r x e =
    by_test (digit b) (λ h.
    let d = digits-past l in
    let p = past_splits digit l in
    let w : done (b ∷ d.0) (past digit l) ≡ done x r = rw (h, d.1) at e in
    let q : past digit l ≡ r = cc in
    (b ∷ p.0, ap (λ (y : List ℕ). b ∷ y) (p.1 ∙ ap (λ (y : List ℕ). p.0 ++ y) q))) (λ h.
    bad-done (sym (some_digits-none b l h) ∙ e))

-- one spelling after another goes on from where the first ends
pub both-second : (f g : List ℕ → Read (List ℕ)) (l x r : List ℕ) → f l ≡ done x r → (s : List ℕ) → placed s (both f g l) ≡ placed s (g r)
both-second f g l x r e s = ap (placed s) (both-reads f g l e) ∙ placed-made s (λ y. x ++ y) (g r)

-- a part that may be left out
pub optional-none : (test : ℕ → Bool) (f : List ℕ → Read (List ℕ)) (l : List ℕ) → test (byte l 0) ≡ false → optional test f l ≡ done [] l
unfolding optional
optional-none test f [] h = refl
optional-none test f (b ∷ r) h = rw (h, optional)

pub optional-some : (test : ℕ → Bool) (f : List ℕ → Read (List ℕ)) (l : List ℕ) → test 0 ≡ false → test (byte l 0) ≡ true → optional test f l ≡ made (λ y. byte l 0 ∷ y) (f (drop 1 l))
unfolding optional
optional-some test f l none h = rw (shows test none l h, h)

-- 0 alone, or digits
integer-front : (l : List ℕ) → byte l 0 ≡ 0x30 → integer l ≡ done (byte l 0 ∷ []) (drop 1 l)
unfolding integer
integer-front l h = rw (shows (λ b. eqb b 0x30) refl l (eq-eqb _ _ h), eq-eqb _ _ h, integer)

pub integer-some : (l : List ℕ) → (byte l 0 ≡ 0x30 → ⊥) → integer l ≡ some_digits l
unfolding integer some_digits
integer-some [] h = refl
integer-some (b ∷ r) h = rw (ne_eqb _ _ h)

-- An exponent, by the code's test of the byte b at the place for its letter, and of the byte after it for a sign.
module _ (s : List ℕ) (at : ℕ) {b : ℕ} {t : Bool} (f : b ≡ byte (drop at s) 0) (g : t ≡ either 0x65 0x45 b) where
  pub exponent-none : t ≡ false → exponent (drop at s) ≡ done [] (drop at s)
  unfolding exponent
  exponent-none n = optional-none (either 0x65 0x45) _ (drop at s) (ap (either 0x65 0x45) (sym f) ∙ sym g ∙ n)

  module _ (n : t ≡ true) where
    letter : either 0x65 0x45 (byte (drop at s) 0) ≡ true
    letter = ap (either 0x65 0x45) (sym f) ∙ sym g ∙ n

    pub exponent-inside : at < length s
    unfolding either
    exponent-inside = either-inside 0x65 0x45 refl s at letter

    exponent-marked : placed s (exponent (drop at s)) ≡ placed s (both (optional (either 0x2b 0x2d) nothing) some_digits (drop (at + 1) s))
    unfolding exponent either
    exponent-marked =
        let f = both (optional (either 0x2b 0x2d) nothing) some_digits in
        ap (placed s) (optional-some (either 0x65 0x45) f (drop at s) refl letter)
        ∙ placed-made s _ (f (drop 1 (drop at s)))
        ∙ ap (λ (l : List ℕ). placed s (f l)) (next-drop s at)

    module _ {c : ℕ} {u : Bool} (i : c ≡ byte (drop (at + 1) s) 0) (j : u ≡ either 0x2b 0x2d c) where
      pub sign-inside : u ≡ true → at + 1 < length s
      unfolding either
      sign-inside h = either-inside 0x2b 0x2d refl s (at + 1) (ap (either 0x2b 0x2d) (sym i) ∙ sym j ∙ h)

      pub exponent-signed : u ≡ true → placed s (exponent (drop at s)) ≡ placed s (some_digits (drop (at + 1 + 1) s))
      unfolding either nothing made
      exponent-signed h =
          exponent-marked
          ∙ both-second _ some_digits (drop (at + 1) s) _ _ (optional-some (either 0x2b 0x2d) nothing (drop (at + 1) s) refl (ap (either 0x2b 0x2d) (sym i) ∙ sym j ∙ h)) s
          ∙ ap (λ (l : List ℕ). placed s (some_digits l)) (next-drop s (at + 1))

      pub exponent-plain : u ≡ false → placed s (exponent (drop at s)) ≡ placed s (some_digits (drop (at + 1) s))
      exponent-plain h =
          exponent-marked
          ∙ both-second _ some_digits (drop (at + 1) s) _ _ (optional-none (either 0x2b 0x2d) nothing (drop (at + 1) s) (ap (either 0x2b 0x2d) (sym i) ∙ sym j ∙ h)) s

-- the other parts, by the byte at the place
module _ (s : List ℕ) (at : ℕ) where
  pub fraction-none : (byte (drop at s) 0 ≡ 0x2e → ⊥) → placed s (both fraction exponent (drop at s)) ≡ placed s (exponent (drop at s))
  unfolding fraction
  fraction-none h = both-second fraction exponent (drop at s) _ _ (optional-none (λ b. eqb b 0x2e) some_digits (drop at s) (ne_eqb _ _ h)) s

  module _ (h : byte (drop at s) 0 ≡ 0x2e) where
    fraction-marked : fraction (drop at s) ≡ made (λ y. byte (drop at s) 0 ∷ y) (some_digits (drop (at + 1) s))
    unfolding fraction
    fraction-marked =
        optional-some (λ b. eqb b 0x2e) some_digits (drop at s) refl (eq-eqb _ _ h)
        ∙ ap (λ (l : List ℕ). made (λ y. byte (drop at s) 0 ∷ y) (some_digits l)) (next-drop s at)

    pub fraction-bad : (k : ℕ) (r : List ℕ) → some_digits (drop (at + 1) s) ≡ bad k r → both fraction exponent (drop at s) ≡ bad k r
    fraction-bad k r e = both_fails fraction exponent (drop at s) (fraction-marked ∙ made_fails _ e)

    pub fraction-done : (x r : List ℕ) → some_digits (drop (at + 1) s) ≡ done x r → placed s (both fraction exponent (drop at s)) ≡ placed s (exponent r)
    fraction-done x r e = both-second fraction exponent (drop at s) (byte (drop at s) 0 ∷ x) r (fraction-marked ∙ made_reads _ e) s

  pub integer-zero : byte (drop at s) 0 ≡ 0x30 → (g : List ℕ → Read (List ℕ)) → placed s (both integer g (drop at s)) ≡ placed s (g (drop (at + 1) s))
  integer-zero h g =
      both-second integer g (drop at s) _ _ (integer-front (drop at s) h) s ∙ ap (λ (l : List ℕ). placed s (g l)) (next-drop s at)

  pub number-minus : byte (drop at s) 0 ≡ 0x2d → placed s (number (drop at s)) ≡ placed s (both integer (both fraction exponent) (drop (at + 1) s))
  unfolding number minus nothing made
  number-minus h =
      both-second minus (both integer (both fraction exponent)) (drop at s) _ _ (optional-some (λ b. eqb b 0x2d) nothing (drop at s) refl (eq-eqb _ _ h)) s
      ∙ ap (λ (l : List ℕ). placed s (both integer (both fraction exponent) l)) (next-drop s at)

  pub number-plain : (byte (drop at s) 0 ≡ 0x2d → ⊥) → placed s (number (drop at s)) ≡ placed s (both integer (both fraction exponent) (drop at s))
  unfolding number minus
  number-plain h =
      both-second minus (both integer (both fraction exponent)) (drop at s) _ _ (optional-none (λ b. eqb b 0x2d) nothing (drop at s) (ne_eqb _ _ h)) s
