-- A number's spelling is its own bytes: each part of it hands on the bytes that it took, and no others. A word is taken as it is written.
use mathlib.Core.Bool.{Bool}
use mathlib.Core.List.{List, [], ◌∷◌, ◌++◌, append_assoc}
use mathlib.Core.Path.{◌≡◌, sym, ap, ◌∙◌}
use Prim.Native.Nat.{ℕ}
use lib.Dec.{eqb}
use borrow.Author.Tests.{eqb-true}
use Rattle.notation.proofs.Booleans.{by_test}
use Rattle.lexeme.specs.Read.{Read, made}
use Rattle.lexeme.specs.Read.Read.{done}
use Rattle.lexeme.specs.Numbers.{digit, digits, some_digits, optional, both, nothing, integer, minus, fraction, exponent, number}
use Rattle.lexeme.specs.Tokens.{literal}
use Rattle.lexeme.proofs.Steps.{bad-done, done_what, done-rest, made-done, digits_more, digits_stop, some_digits-more, some_digits-none, integer-zero, integer-digits, optional-there, optional-absent, literal_match, literal_differs}
use Rattle.lexeme.proofs.StrongPrefixes.{both-done}

abbrev Spells : (List ℕ → Read (List ℕ)) → Type 0
Spells f = (l r x : List ℕ) → f l ≡ done x r → l ≡ x ++ r

-- the bytes w were handed on, and no others
as_they_are : (w : List ℕ) {l x r : List ℕ} → done w l ≡ done x r → w ++ l ≡ x ++ r
as_they_are w {l} {x} {r} e = ap (λ (z : List ℕ). w ++ z) (done-rest e) ∙ ap (λ (z : List ℕ). z ++ r) (done_what e)

one_more_lem : (b : ℕ) (f : List ℕ → Read (List ℕ)) → Spells f → (l r x : List ℕ) → made (λ y. b ∷ y) (f l) ≡ done x r → b ∷ l ≡ x ++ r
one_more_lem b f spells l r x e =
    let p = made-done (λ y. b ∷ y) (f l) x r e in
    ap (λ (z : List ℕ). b ∷ z) (spells l r p.0 p.1) ∙ ap (λ (z : List ℕ). z ++ r) p.2

digits-spells : Spells digits
digits-spells [] r x e = unfold digits in as_they_are [] e
digits-spells (b ∷ l) r x e =
    let ih = digits-spells l r in
    by_test (digit b)
    (λ h.
    let p = made-done (λ y. b ∷ y) (digits l) x r (sym (digits_more b l h) ∙ e) in
    ap (λ (z : List ℕ). b ∷ z) (ih p.0 p.1) ∙ ap (λ (z : List ℕ). z ++ r) p.2)
    (λ h. as_they_are [] (sym (digits_stop b l h) ∙ e))

some_digits-spells : Spells some_digits
some_digits-spells [] r x e = unfold some_digits in bad-done e
some_digits-spells (b ∷ l) r x e =
    by_test (digit b) (λ h. one_more_lem b digits digits-spells l r x (sym (some_digits-more b l h) ∙ e)) (λ h. bad-done (sym (some_digits-none b l h) ∙ e))

optional-spells : (test : ℕ → Bool) (f : List ℕ → Read (List ℕ)) → Spells f → Spells (optional test f)
optional-spells test f spells [] r x e = unfold optional in as_they_are [] e
optional-spells test f spells (b ∷ l) r x e =
    by_test (test b) (λ h. one_more_lem b f spells l r x (sym (optional-there b test f l h) ∙ e)) (λ h. as_they_are [] (sym (optional-absent b test f l h) ∙ e))

integer-spells : Spells integer
integer-spells [] r x e = unfold integer in bad-done e
integer-spells (b ∷ l) r x e =
    by_test (eqb b 0x30) (λ h. as_they_are (b ∷ []) (sym (integer-zero b l h) ∙ e)) (λ h. some_digits-spells (b ∷ l) r x (sym (integer-digits b l h) ∙ e))

both-spells : (f g : List ℕ → Read (List ℕ)) → Spells f → Spells g → Spells (both f g)
both-spells f g first second l r x e =
    let p = both-done f g l x r e in
    first l p.1 p.0 p.3
    ∙ ap (λ (z : List ℕ). p.0 ++ z) (second p.1 r p.2 p.4)
    ∙ sym (append_assoc p.0 p.2 r)
    ∙ ap (λ (z : List ℕ). z ++ r) p.5

nothing-spells : Spells nothing
unfolding nothing
nothing-spells l r x e = as_they_are [] e

pub number-spells : Spells number
unfolding number minus fraction exponent
number-spells =
    both-spells _ _ (optional-spells _ nothing nothing-spells)
    (both-spells integer _ integer-spells
    (both-spells _ _ (optional-spells _ some_digits some_digits-spells)
    (optional-spells _ _ (both-spells _ some_digits (optional-spells _ nothing nothing-spells) some_digits-spells))))

pub literal-spells : {A : Type 0} (w : List ℕ) (x : A) (l r : List ℕ) (y : A) → literal w x l ≡ done y r → (l ≡ w ++ r) × (x ≡ y)
unfolding literal
literal-spells [] x l r y e = (done-rest e, done_what e)
literal-spells (c ∷ w) x [] r y e = bad-done e
literal-spells (c ∷ w) x (b ∷ l) r y e =
    let ih = literal-spells w x l r y in
    by_test (eqb b c)
    (λ h. let p = ih (sym (literal_match b x c w l h) ∙ e) in (rw (eqb-true b c h) (ap (λ (m : List ℕ). c ∷ m) p.0), p.1))
    (λ h. bad-done (sym (literal_differs b x c w l h) ∙ e))
