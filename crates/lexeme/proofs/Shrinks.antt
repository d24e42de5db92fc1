-- No reader leaves more text than it was given: each takes bytes off the front, or stops where it is.
use mathlib.Core.Bool.{Bool}
use mathlib.Core.List.{List, [], ◌∷◌, ◌++◌}
use mathlib.Core.Path.{◌≡◌, refl}
use Prim.Native.Nat.{ℕ, zero, suc, ◌≤◌}
use native.Mathlib.Omega.{arith}
use lib.ListN.{length, length-drop}
use lib.Dec.{eqb}
use Rattle.notation.proofs.Booleans.{by_test}
use Rattle.lexeme.specs.declared.Next.{Next}
use Rattle.lexeme.specs.declared.Next.TheVariants.{Quote, Character, Fault}
use Rattle.lexeme.specs.Read.{Read, then, made}
use Rattle.lexeme.specs.Read.Read.{done, bad}
use Rattle.lexeme.specs.Character.{Surrogates, bytes_of, next}
use Rattle.lexeme.specs.Strings.{string}
use Rattle.lexeme.specs.Numbers.{digit, digits, some_digits, optional, both, nothing, integer, minus, fraction, exponent, number}
use Rattle.lexeme.specs.Tokens.{blank, blanks, literal}
use Rattle.lexeme.proofs.Reading.{rest, Shrinks}
use Rattle.lexeme.proofs.Steps.{string-empty, string-inside, string-quote, string-fault, string-character, blanks_pass, blanks_stop, literal_match, literal_differs, digits_more, digits_stop, some_digits-more, some_digits-none, integer-zero, integer-digits, optional-there, optional-absent}

-- the combinators
pub rest-made : {A B : Type 0} (f : A → B) (o : Read A) → rest (made f o) ≡ rest o
unfolding made
rest-made f (done x r) = refl
rest-made f (bad k r) = refl

pub made_shrinks : {A B : Type 0} (f : A → B) (g : List ℕ → Read A) → Shrinks g → Shrinks (λ l. made f (g l))
made_shrinks f g shrinks l = rw (rest-made f (g l)) (shrinks l)

pub then_shrinks : {A B : Type 0} (f : List ℕ → Read A) (g : A → List ℕ → Read B) → Shrinks f → ((x : A) → Shrinks (g x)) → Shrinks (λ l. then (f l) g)
unfolding then
then_shrinks {A} {B} f g first second l = go (f l) (first l)
  where
    go : (o : Read A) → length (rest o) ≤ length l → length (rest (then o g)) ≤ length l
    go (done x r) h = let n : length (rest (g x r)) ≤ length r = second x r in omega arith
    go (bad k r) h = h

pub shrinks_to : {A : Type 0} (f : List ℕ → Read A) → Shrinks f → (l : List ℕ) {o : Read A} → f l ≡ o → length (rest o) ≤ length l
shrinks_to f shrinks l e = rw e at (shrinks l)

-- what holds of a reading holds of one that equals it
at_most : {A : Type 0} (l : List ℕ) {o p : Read A} → o ≡ p → length (rest p) ≤ length l → length (rest o) ≤ length l
at_most l e h = rw e h

-- a byte and the reading after it
one_more_lem : {A B : Type 0} (f : A → B) (b : ℕ) (l : List ℕ) (o : Read A) → length (rest o) ≤ length l → length (rest (made f o)) ≤ length (b ∷ l)
one_more_lem f b l o h = rw (rest-made f o) (omega arith)

-- strings
pub string_shrinks : (ρ : Surrogates) (k : ℕ) → Shrinks (string ρ k)
string_shrinks ρ k [] = rw (string-empty ρ k) (omega arith)
string_shrinks ρ (suc k) (b ∷ l) = let n : length (rest (string ρ k l)) ≤ length l = string_shrinks ρ k l in rw (string-inside ρ b l k) (omega arith)
string_shrinks ρ zero (b ∷ l) = go (next ρ (b ∷ l)) refl (λ k. string_shrinks ρ k l)
  where
    go : (o : Next) → next ρ (b ∷ l) ≡ o → ((k : ℕ) → length (rest (string ρ k l)) ≤ length l) → length (rest (string ρ 0 (b ∷ l))) ≤ length (b ∷ l)
    go Quote e ih = rw (string-quote ρ b l e) (omega arith)
    go (Fault k n) e ih = rw (string-fault ρ b l e) (omega (arith, length-drop n (b ∷ l)))
    go (Character x) e ih = rw (string-character ρ b l e) (one_more_lem (λ y. bytes_of x ++ y) b l (string ρ x.more l) (ih x.more))

-- blanks and words
pub blanks_shrinks : (l : List ℕ) → length (blanks l) ≤ length l
unfolding blanks
blanks_shrinks [] = omega arith
blanks_shrinks (b ∷ l) =
    let n : length (blanks l) ≤ length l = blanks_shrinks l in
    by_test (blank b) (λ e. rw (blanks_pass b l e) (omega arith)) (λ e. rw (blanks_stop b l e) (omega arith))

pub literal_shrinks : {A : Type 0} (w : List ℕ) (x : A) → Shrinks (literal w x)
unfolding literal
literal_shrinks [] x l = omega arith
literal_shrinks (c ∷ w) x [] = omega arith
literal_shrinks (c ∷ w) x (b ∷ l) =
    let n : length (rest (literal w x l)) ≤ length l = literal_shrinks w x l in
    by_test (eqb b c) (λ e. rw (literal_match b x c w l e) (omega arith)) (λ e. rw (literal_differs b x c w l e) (omega arith))

-- numbers
pub digits_shrinks : Shrinks digits
unfolding digits
digits_shrinks [] = omega arith
digits_shrinks (b ∷ l) =
    let n = digits_shrinks l in
    by_test (digit b) (λ e. at_most (b ∷ l) (digits_more b l e) (one_more_lem (λ y. b ∷ y) b l (digits l) n)) (λ e. rw (digits_stop b l e) (omega arith))

pub some_digits_shrinks : Shrinks some_digits
unfolding some_digits
some_digits_shrinks [] = omega arith
some_digits_shrinks (b ∷ l) =
    by_test (digit b) (λ e. at_most (b ∷ l) (some_digits-more b l e) (one_more_lem (λ y. b ∷ y) b l (digits l) (digits_shrinks l)))
    (λ e. rw (some_digits-none b l e) (omega arith))

pub integer_shrinks : Shrinks integer
unfolding integer
integer_shrinks [] = omega arith
integer_shrinks (b ∷ l) =
    by_test (eqb b 0x30) (λ e. rw (integer-zero b l e) (omega arith)) (λ e. at_most (b ∷ l) (integer-digits b l e) (some_digits_shrinks (b ∷ l)))

pub optional_shrinks : (test : ℕ → Bool) (follow : List ℕ → Read (List ℕ)) → Shrinks follow → Shrinks (optional test follow)
unfolding optional
optional_shrinks test follow shrinks [] = omega arith
optional_shrinks test follow shrinks (b ∷ l) =
    by_test (test b) (λ e. at_most (b ∷ l) (optional-there b test follow l e) (one_more_lem (λ y. b ∷ y) b l (follow l) (shrinks l)))
    (λ e. rw (optional-absent b test follow l e) (omega arith))

pub both_shrinks : (first second : List ℕ → Read (List ℕ)) → Shrinks first → Shrinks second → Shrinks (both first second)
unfolding both
both_shrinks first second f s = then_shrinks first _ f (λ x. made_shrinks (λ y. x ++ y) second s)

pub nothing_shrinks : Shrinks nothing
unfolding nothing
nothing_shrinks l = omega arith

pub minus_shrinks : Shrinks minus
unfolding minus
minus_shrinks = optional_shrinks _ nothing nothing_shrinks

pub fraction_shrinks : Shrinks fraction
unfolding fraction
fraction_shrinks = optional_shrinks _ some_digits some_digits_shrinks

pub exponent_shrinks : Shrinks exponent
unfolding exponent
exponent_shrinks = optional_shrinks _ _ (both_shrinks _ some_digits (optional_shrinks _ nothing nothing_shrinks) some_digits_shrinks)

pub number_shrinks : Shrinks number
unfolding number
number_shrinks = both_shrinks minus _ minus_shrinks (both_shrinks integer _ integer_shrinks (both_shrinks fraction exponent fraction_shrinks exponent_shrinks))
