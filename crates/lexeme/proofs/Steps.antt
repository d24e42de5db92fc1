-- Step equations of the definitions: one line for each way through. Only these open a recursive definition; every other proof cites them.
use mathlib.Core.Bool.{Bool, true, false}
use mathlib.Core.List.{List, [], ◌∷◌, ◌++◌}
use mathlib.Core.Path.{◌≡◌, refl, ap}
use Prim.Native.Nat.{ℕ, zero, suc}
use native.Mathlib.Omega.{arith}
use lib.ListN.{drop}
use lib.Dec.{eqb}
use Rattle.word.specs.Kinds.{not_json}
use Rattle.lexeme.specs.declared.Char.{Char}
use Rattle.lexeme.specs.declared.Next.TheVariants.{Quote, Character, Fault}
use Rattle.lexeme.specs.Read.{Read, then, made}
use Rattle.lexeme.specs.Read.Read.{done, bad}
use Rattle.lexeme.specs.Character.{Surrogates, bytes_of, next}
use Rattle.lexeme.specs.Strings.{string, decoded}
use Rattle.lexeme.specs.Numbers.{digit, digits, some_digits, optional, both, integer}
use Rattle.lexeme.specs.Tokens.{blank, blanks, literal}

-- readings told apart, and taken apart
pub bad-done : {A : Type 0} {B : Type 0} {k : ℕ} {q r : List ℕ} {x : A} → ◌≡◌ {A = Read A} (bad k q) (done x r) → B
bad-done e = let n : ◌≡◌ {A = ℕ} 0 1 = cc in absurd (omega arith)

pub done-bad : {A : Type 0} {B : Type 0} {k : ℕ} {q r : List ℕ} {x : A} → ◌≡◌ {A = Read A} (done x r) (bad k q) → B
done-bad e = let n : ◌≡◌ {A = ℕ} 0 1 = cc in absurd (omega arith)

module _ {A : Type 0} {x y : A} {q r : List ℕ} where
  pub done_what : done x q ≡ done y r → x ≡ y
  done_what e = cc

  pub done-rest : done x q ≡ done y r → q ≡ r
  done-rest e = cc

module _ {A : Type 0} {k n : ℕ} {q r : List ℕ} where
  pub bad_kind : ◌≡◌ {A = Read A} (bad k q) (bad n r) → k ≡ n
  bad_kind e = cc

  pub bad-rest : ◌≡◌ {A = Read A} (bad k q) (bad n r) → q ≡ r
  bad-rest e = cc

-- the combinators forwards
module _ {A B : Type 0} {o : Read A} {r : List ℕ} where
  pub made_reads : {x : A} (f : A → B) → o ≡ done x r → made f o ≡ done (f x) r
  unfolding made
  made_reads f e = rw e

  pub made_fails : {k : ℕ} (f : A → B) → o ≡ bad k r → made f o ≡ bad k r
  unfolding made
  made_fails f e = rw e

  pub then-reads : {x : A} (g : A → List ℕ → Read B) → o ≡ done x r → then o g ≡ g x r
  unfolding then
  then-reads g e = rw e

  pub then_fails : {k : ℕ} (g : A → List ℕ → Read B) → o ≡ bad k r → then o g ≡ bad k r
  unfolding then
  then_fails g e = rw e

pub made-same : {A : Type 0} (o : Read A) → made (λ x. x) o ≡ o
unfolding made
made-same (done x r) = refl
made-same (bad k r) = refl

-- the combinators backwards
pub made-done : {A B : Type 0} (f : A → B) (o : Read A) (y : B) (r : List ℕ) → made f o ≡ done y r → (x : A) × (o ≡ done x r) × (f x ≡ y)
unfolding made
made-done f (done x q) y r e = (x, ap (done x) (done-rest e), done_what e)
made-done f (bad k q) y r e = bad-done e

pub made-bad : {A B : Type 0} (f : A → B) (o : Read A) (k : ℕ) (r : List ℕ) → made f o ≡ bad k r → o ≡ bad k r
unfolding made
made-bad f (done x q) k r e = done-bad e
made-bad f (bad n q) k r e = cc (bad_kind e, bad-rest e)

pub then-done : {A B : Type 0} (o : Read A) (g : A → List ℕ → Read B) (y : B) (r : List ℕ) → then o g ≡ done y r
    → (x : A) × (q : List ℕ) × (o ≡ done x q) × (g x q ≡ done y r)
unfolding then
then-done (done x q) g y r e = (x, q, refl, e)
then-done (bad k q) g y r e = bad-done e

-- strings
module _ (ρ : Surrogates) (b : ℕ) (r : List ℕ) where
  pub string-quote : next ρ (b ∷ r) ≡ Quote → string ρ 0 (b ∷ r) ≡ done [] r
  unfolding string
  string-quote e = rw (string, e)

  pub string-fault : {k n : ℕ} → next ρ (b ∷ r) ≡ Fault k n → string ρ 0 (b ∷ r) ≡ bad k (drop n (b ∷ r))
  unfolding string
  string-fault e = rw (string, e)

  pub string-character : {x : Char} → next ρ (b ∷ r) ≡ Character x → string ρ 0 (b ∷ r) ≡ made (λ y. bytes_of x ++ y) (string ρ x.more r)
  unfolding string
  string-character e = rw (string, e)

  pub decoded-character : {x : Char} → next ρ (b ∷ r) ≡ Character x → decoded ρ 0 (b ∷ r) ≡ bytes_of x ++ decoded ρ x.more r
  unfolding decoded
  decoded-character e = rw (decoded, e)

  pub string-inside : (k : ℕ) → string ρ (suc k) (b ∷ r) ≡ string ρ k r
  unfolding string
  string-inside k = refl

pub string-empty : (ρ : Surrogates) (k : ℕ) → string ρ k [] ≡ bad not_json []
unfolding string
string-empty ρ zero = refl
string-empty ρ (suc k) = refl

pub string-skip : (ρ : Surrogates) (k : ℕ) (l : List ℕ) → string ρ k l ≡ string ρ 0 (drop k l)
unfolding string
string-skip ρ zero l = refl
string-skip ρ (suc k) [] = refl
string-skip ρ (suc k) (b ∷ r) = string-skip ρ k r

-- blanks and words
module _ (b : ℕ) where
  pub blanks_pass : (r : List ℕ) → blank b ≡ true → blanks (b ∷ r) ≡ blanks r
  unfolding blanks
  blanks_pass r e = rw (blanks, e)

  pub blanks_stop : (r : List ℕ) → blank b ≡ false → blanks (b ∷ r) ≡ b ∷ r
  unfolding blanks
  blanks_stop r e = rw (blanks, e)

  pub literal_match : {A : Type 0} (x : A) (c : ℕ) (w r : List ℕ) → eqb b c ≡ true → literal (c ∷ w) x (b ∷ r) ≡ literal w x r
  unfolding literal
  literal_match x c w r e = rw (literal, e)

  pub literal_differs : {A : Type 0} (x : A) (c : ℕ) (w r : List ℕ) → eqb b c ≡ false → literal (c ∷ w) x (b ∷ r) ≡ bad not_json (b ∷ r)
  unfolding literal
  literal_differs x c w r e = rw (literal, e)

  -- numbers
  pub digits_more : (r : List ℕ) → digit b ≡ true → digits (b ∷ r) ≡ made (λ y. b ∷ y) (digits r)
  unfolding digits
  digits_more r e = rw (digits, e)

  pub digits_stop : (r : List ℕ) → digit b ≡ false → digits (b ∷ r) ≡ done [] (b ∷ r)
  unfolding digits
  digits_stop r e = rw (digits, e)

  pub some_digits-more : (r : List ℕ) → digit b ≡ true → some_digits (b ∷ r) ≡ made (λ y. b ∷ y) (digits r)
  unfolding some_digits
  some_digits-more r e = rw (some_digits, e)

  pub some_digits-none : (r : List ℕ) → digit b ≡ false → some_digits (b ∷ r) ≡ bad not_json (b ∷ r)
  unfolding some_digits
  some_digits-none r e = rw (some_digits, e)

  pub integer-zero : (r : List ℕ) → eqb b 0x30 ≡ true → integer (b ∷ r) ≡ done (b ∷ []) r
  unfolding integer
  integer-zero r e = rw (integer, e)

  pub integer-digits : (r : List ℕ) → eqb b 0x30 ≡ false → integer (b ∷ r) ≡ some_digits (b ∷ r)
  unfolding integer
  integer-digits r e = rw (integer, e)

  module _ (test : ℕ → Bool) (follow : List ℕ → Read (List ℕ)) (r : List ℕ) where
    pub optional-there : test b ≡ true → optional test follow (b ∷ r) ≡ made (λ y. b ∷ y) (follow r)
    unfolding optional
    optional-there e = rw (optional, e)

    pub optional-absent : test b ≡ false → optional test follow (b ∷ r) ≡ done [] (b ∷ r)
    unfolding optional
    optional-absent e = rw (optional, e)

module _ (first second : List ℕ → Read (List ℕ)) (l : List ℕ) where
  pub both-reads : {x q : List ℕ} → first l ≡ done x q → both first second l ≡ made (λ y. x ++ y) (second q)
  unfolding both then
  both-reads e = rw (both, e)

  pub both_fails : {k : ℕ} {q : List ℕ} → first l ≡ bad k q → both first second l ≡ bad k q
  unfolding both then
  both_fails e = rw (both, e)
