-- The kinds of faults: words and numbers have kind 2 only, strings kind 3 besides where surrogate escapes must pair, and values kind 4.
use mathlib.Core.Bool.{Bool}
use mathlib.Core.List.{List, [], ◌∷◌, ◌++◌}
use mathlib.Core.Path.{◌≡◌, refl, sym, ◌∙◌}
use Prim.Native.Nat.{ℕ, ◌+◌, ◌≤◌, ◌<◌}
use lib.ListN.{length}
use lib.Dec.{eqb}
use Rattle.notation.proofs.Booleans.{by_test}
use Rattle.word.specs.Kinds.{not_json, unpaired, too_deep}
use Rattle.lexeme.specs.Read.{Read, then, made}
use Rattle.lexeme.specs.Read.Read.{done, bad}
use Rattle.lexeme.specs.Character.{Surrogates, paired, lone}
use Rattle.lexeme.specs.Strings.{string}
use Rattle.lexeme.specs.Numbers.{digit, digits, some_digits, optional, both, nothing, integer, minus, fraction, exponent, number}
use Rattle.lexeme.specs.Tokens.{literal}
use Rattle.lexeme.proofs.Reading.{Relaxed}
use Rattle.lexeme.proofs.Reading.Relaxed.{same, further}
use Rattle.lexeme.proofs.Steps.{digits_more, digits_stop, some_digits-more, some_digits-none, integer-zero, integer-digits, optional-there, optional-absent, literal_match, literal_differs, bad_kind}
use Rattle.lexeme.proofs.Relaxed.{string_relaxed}
use Rattle.lexeme.proofs.Faults.{lone-kind}

-- a reading whose fault, if it met one, is of kind 2
abbrev pub Plain : {A : Type 0} → Read A → Type 0
Plain (done x r) = Unit {0}
Plain (bad k r) = k ≡ not_json

made_plain : {A B : Type 0} (f : A → B) (o : Read A) → Plain o → Plain (made f o)
unfolding made
made_plain f (done x r) h = tt
made_plain f (bad k r) h = h

then-plain : {A B : Type 0} (o : Read A) (g : A → List ℕ → Read B) → Plain o → ((x : A) (r : List ℕ) → Plain (g x r)) → Plain (then o g)
unfolding then
then-plain (done x r) g h k = k x r
then-plain (bad n r) g h k = h

pub literal-plain : {A : Type 0} (w : List ℕ) (x : A) (l : List ℕ) → Plain (literal w x l)
unfolding literal
literal-plain [] x l = tt
literal-plain (c ∷ w) x [] = refl
literal-plain (c ∷ w) x (b ∷ l) =
    let ih = literal-plain w x l in
    by_test (eqb b c) (λ e. rw (literal_match b x c w l e) ih) (λ e. rw (literal_differs b x c w l e) refl)

digits-plain : (l : List ℕ) → Plain (digits l)
unfolding digits
digits-plain [] = tt
digits-plain (b ∷ l) =
    let ih = digits-plain l in
    by_test (digit b) (λ e. rw (digits_more b l e) (made_plain (λ y. b ∷ y) (digits l) ih)) (λ e. rw (digits_stop b l e) tt)

some-plain : (l : List ℕ) → Plain (some_digits l)
unfolding some_digits
some-plain [] = refl
some-plain (b ∷ l) =
    by_test (digit b) (λ e. rw (some_digits-more b l e) (made_plain (λ y. b ∷ y) (digits l) (digits-plain l))) (λ e. rw (some_digits-none b l e) refl)

optional-plain : (test : ℕ → Bool) (follow : List ℕ → Read (List ℕ)) → ((l : List ℕ) → Plain (follow l)) → (l : List ℕ) → Plain (optional test follow l)
unfolding optional
optional-plain test follow h [] = tt
optional-plain test follow h (b ∷ l) =
    by_test (test b) (λ e. rw (optional-there b test follow l e) (made_plain (λ y. b ∷ y) (follow l) (h l))) (λ e. rw (optional-absent b test follow l e) tt)

both-plain : (f g : List ℕ → Read (List ℕ)) → ((l : List ℕ) → Plain (f l)) → ((l : List ℕ) → Plain (g l)) → (l : List ℕ) → Plain (both f g l)
unfolding both
both-plain f g h k l = then-plain (f l) _ (h l) (λ x r. made_plain (λ y. x ++ y) (g r) (k r))

nothing-plain : (l : List ℕ) → Plain (nothing l)
unfolding nothing
nothing-plain l = tt

integer-plain : (l : List ℕ) → Plain (integer l)
unfolding integer
integer-plain [] = refl
integer-plain (b ∷ l) = by_test (eqb b 0x30) (λ e. rw (integer-zero b l e) tt) (λ e. rw (integer-digits b l e) (some-plain (b ∷ l)))

pub number-plain : (l : List ℕ) → Plain (number l)
unfolding number minus fraction exponent
number-plain =
    both-plain minus _ (optional-plain _ nothing nothing-plain)
    (both-plain integer _ integer-plain
    (both-plain fraction exponent (optional-plain _ some_digits some-plain)
    (optional-plain _ _ (both-plain _ some_digits (optional-plain _ nothing nothing-plain) some-plain))))

-- A fault's kind, r being the text from the fault on in a text of n bytes, where d levels are allowed: a bracket that opens one level
-- too many has d others before it.
pub data Kind (ρ : Surrogates) (d n k : ℕ) (r : List ℕ) : Type 0 where
  grammar : k ≡ not_json → Kind ρ d n k r
  surrogate : ρ ≡ paired → k ≡ unpaired → Kind ρ d n k r
  levels : k ≡ too_deep → 0 < length r → d + length r ≤ n → Kind ρ d n k r

pub string-kind : (ρ : Surrogates) (i d m k : ℕ) (l r : List ℕ) → string ρ i l ≡ bad k r → Kind ρ d m k r
string-kind lone i d m k l r e = grammar (lone-kind i l r k e)
string-kind paired i d m k l r e = go (string_relaxed i l) e
  where
    go : {o : Read (List ℕ)} → Relaxed (λ n. n ≡ unpaired) o (string lone i l) → o ≡ bad k r → Kind paired d m k r
    go same f = grammar (lone-kind i l r k f)
    go (further h less) f = surrogate refl (sym (bad_kind f) ∙ h)
