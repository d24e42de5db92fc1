-- A string by the rule that surrogates come in pairs, against one where a lone one passes: the same, or the first meets a lone surrogate
-- where the second reads a character and goes on. The two rules differ in nothing else.
use mathlib.Core.List.{List, [], ◌∷◌, ◌++◌}
use mathlib.Core.Path.{◌≡◌, refl, sym, subst}
use Prim.Native.Nat.{ℕ, zero, suc, ◌≤◌, ◌<◌}
use native.Mathlib.Omega.{arith}
use lib.ListN.{length, drop}
use lib.Dec.{eqb}
use Rattle.notation.proofs.Booleans.{by_test}
use Rattle.word.specs.Kinds.{unpaired}
use Rattle.lexeme.specs.declared.Char.{Char}
use Rattle.lexeme.specs.declared.Next.{Next}
use Rattle.lexeme.specs.declared.Next.TheVariants.{Quote, Character, Fault}
use Rattle.lexeme.specs.Read.{Read, then, made}
use Rattle.lexeme.specs.Read.Read.{done, bad}
use Rattle.lexeme.specs.Character.{byte, within, quad, trail, alone, high, unit, unicode, escape, next, bytes_of}
use Rattle.lexeme.specs.inner.Lead.{Lead, lead, next_by}
use Rattle.lexeme.specs.Character.Surrogates.{paired, lone}
use Rattle.lexeme.specs.inner.Lead.Lead.{plain, quote, backslash, wrong, two, three_e0, three, three_ed, four_f0, four, four_f4}
use Rattle.lexeme.specs.Strings.{string}
use Rattle.lexeme.proofs.Reading.{rest, Shrinks, Relaxed}
use Rattle.lexeme.proofs.Reading.Relaxed.{same, further}
use Rattle.lexeme.proofs.Leads.{next-by}
use Rattle.lexeme.proofs.Steps.{string-empty, string-inside, string-quote, string-fault, string-character}
use Rattle.lexeme.proofs.Shrinks.{rest-made, string_shrinks}
use Rattle.lexeme.proofs.Local.{encoded-char}
use Rattle.std.specs.Prelude.{Result, Option, Ok, Err, Some, None}

-- the combinators
pub made_relaxed : {A B : Type 0} {D : ℕ → Type 0} {o p : Read A} (f : A → B) → Relaxed D o p → Relaxed D (made f o) (made f p)
unfolding made
made_relaxed f same = same
made_relaxed f (further {r = r} {o = p} d h) = further d (subst (λ m. length m < length r) (sym (rest-made f p)) h)

pub then_relaxed : {A B : Type 0} {D : ℕ → Type 0} {o p : Read A} (f g : A → List ℕ → Read B) → Relaxed D o p
    → ((x : A) (r : List ℕ) → Relaxed D (f x r) (g x r)) → ((x : A) → Shrinks (g x)) → Relaxed D (then o f) (then p g)
unfolding then
then_relaxed {A} {B} {D} {o} {p} f g w second shrinks = go o p w
  where
    after : (p : Read A) → length (rest (then p g)) ≤ length (rest p)
    after (done x r) = shrinks x r
    after (bad k r) = omega arith

    go : (o p : Read A) → Relaxed D o p → Relaxed D (then o f) (then p g)
    go (done x r) _ same = second x r
    go (bad k r) _ same = same
    go _ p (further {r = r} d h) = let i = after p in let n : length (rest (then p g)) < length r = omega arith in further d n

-- one character by the two rules
data Lax : Next → Next → Type 0 where
  alike : {o : Next} → Lax o o
  lets : {x : Char} → Lax (Fault unpaired 0) (Character x)

alone_lax : (v : ℕ) → Lax (alone paired v) (alone lone v)
unfolding alone
alone_lax v = rw (encoded-char v 5).is lets

high_lax : (v : ℕ) (t : Option ℕ) → Lax (high paired v t) (high lone v t)
unfolding high
high_lax v None = alone_lax v
high_lax v (Some w) = alike

unit_lax : (l : List ℕ) (v : ℕ) → Lax (unit paired l v) (unit lone l v)
unfolding unit
unit_lax l v =
    by_test (within 0xdc00 0xdfff v) (λ a. rw a (alone_lax v)) λ a.
    by_test (within 0xd800 0xdbff v) (λ b. rw (a, b) (high_lax v (trail (drop 6 l)))) (λ b. rw (a, b) alike)

unicode_lax : (l : List ℕ) (d : Result ℕ ℕ) → Lax (unicode paired l d) (unicode lone l d)
unfolding unicode
unicode_lax l (Err n) = alike
unicode_lax l (Ok v) = unit_lax l v

escape_lax : (l : List ℕ) → Lax (escape paired l) (escape lone l)
unfolding escape
escape_lax l = by_test (eqb (byte l 1) 0x75) (λ a. rw a (unicode_lax l (quad (drop 2 l)))) (λ a. rw a alike)

next_lax : (l : List ℕ) → Lax (next paired l) (next lone l)
unfolding next_by
next_lax l = rw (next-by paired l, next-by lone l) (go (lead (byte l 0)))
  where
    go : (t : Lead) → Lax (next_by paired l t) (next_by lone l t)
    go plain = alike
    go quote = alike
    go backslash = escape_lax l
    go wrong = alike
    go two = alike
    go three_e0 = alike
    go three = alike
    go three_ed = alike
    go four_f0 = alike
    go four = alike
    go four_f4 = alike

pub string_relaxed : (k : ℕ) (l : List ℕ) → Relaxed (λ n. n ≡ unpaired) (string paired k l) (string lone k l)
string_relaxed k [] = rw (string-empty paired k, string-empty lone k) same
string_relaxed (suc k) (b ∷ l) = rw (string-inside paired b l k, string-inside lone b l k) (string_relaxed k l)
string_relaxed zero (b ∷ l) = go (next paired (b ∷ l)) (next lone (b ∷ l)) refl refl (next_lax (b ∷ l)) (λ k. string_relaxed k l)
  where
    go : (o p : Next) → next paired (b ∷ l) ≡ o → next lone (b ∷ l) ≡ p → Lax o p
        → ((k : ℕ) → Relaxed (λ n. n ≡ unpaired) (string paired k l) (string lone k l))
        → Relaxed (λ n. n ≡ unpaired) (string paired 0 (b ∷ l)) (string lone 0 (b ∷ l))
    go Quote _ e f alike ih = rw (string-quote paired b l e, string-quote lone b l f) same
    go (Fault k n) _ e f alike ih = rw (string-fault paired b l e, string-fault lone b l f) same
    go (Character x) _ e f alike ih = rw (string-character paired b l e, string-character lone b l f) (made_relaxed (λ y. bytes_of x ++ y) (ih x.more))
    go _ (Character x) e f lets ih =
        let n : length (rest (made (λ y. bytes_of x ++ y) (string lone x.more l))) < length (b ∷ l) =
        rw (rest-made (λ y. bytes_of x ++ y) (string lone x.more l)) (omega (arith, string_shrinks lone x.more l)) in
        rw (string-fault paired b l e, string-character lone b l f) (further refl n)
