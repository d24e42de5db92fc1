-- Theorem 3. The fault that all rules together meet is the least of those that each rule meets alone, and no two rules tie: a reading
-- that has the fault's rule meets the same fault, and one that lacks it goes strictly past.
use mathlib.Core.List.{List}
use mathlib.Core.Path.{◌≡◌, subst}
use mathlib.Core.Logic.{◌⊎◌, inl, inr}
use Prim.Native.Nat.{ℕ, ◌≤◌, ◌<◌}
use native.Mathlib.Omega.{arith}
use lib.ListN.{length}
use Rattle.limits.specs.Ceilings.{depth}
use Rattle.word.specs.Kinds.{too_long, not_json, unpaired, too_deep}
use Rattle.lexeme.specs.Read.{Read, wrong_at}
use Rattle.lexeme.specs.Read.Read.{bad}
use Rattle.lexeme.specs.Character.{Surrogates, paired, lone}
use Rattle.lexeme.proofs.Reading.{rest, Relaxed}
use Rattle.json_text.specs.Tree.{Json}
use Rattle.json_text.specs.Text.{text, syntax_of}
use Rattle.json_text.proofs.FaultKinds.{Kind, grammar, surrogate, levels}
use Rattle.json_text.proofs.Shrinks.{Ends, text-ends}
use Rattle.json_text.proofs.Relaxed.{text_relaxed_surrogates, text_relaxed_depth, text_relaxed_both, faults_too, relaxed_past}
use Rattle.json_text.proofs.Verdict.{FaultRead, met}

-- the rules, by the kinds of their faults
abbrev pub Grammar : ℕ → Type 0
Grammar n = n ≡ not_json

abbrev pub Pairing : ℕ → Type 0
Pairing n = (n ≡ not_json) ⊎ (n ≡ unpaired)

abbrev pub Levels : ℕ → Type 0
Levels n = (n ≡ not_json) ⊎ (n ≡ too_deep)

-- the reading o by the rules K alone, beside the fault of kind k with r from it on
pub record By (K : ℕ → Type 0) (k : ℕ) (r : List ℕ) (o : Read Json) : Type 0 where
  -- its faults are those of the rules
  pub only : (n : ℕ) (q : List ℕ) → o ≡ bad n q → K n
  -- with the fault's rule it meets the same fault
  pub meets : K k → o ≡ bad k r
  -- without, it goes past the fault
  pub passes : (K k → ⊥) → length (rest o) < length r

-- the fault of kind k that all rules meet in s, with r from it on. As many levels as the text has bytes are as good as no bound
pub record Least (s : List ℕ) (k : ℕ) (r : List ℕ) : Type 0 where
  -- it is of kind 2, 3 or 4
  pub kind : (k ≡ not_json) ⊎ ((k ≡ unpaired) ⊎ (k ≡ too_deep))
  -- it lies in the text
  pub inside : length r ≤ length s
  -- kind 2 alone
  pub by_grammar : (d : ℕ) → depth ≤ d → length s ≤ d → By Grammar k r (text lone d s)
  -- kinds 2 and 3
  pub by_pairing : (d : ℕ) → depth ≤ d → length s ≤ d → By Pairing k r (text paired d s)
  -- kinds 2 and 4
  pub by_levels : By Levels k r (text lone depth s)

kind-of : (ρ : Surrogates) (d k : ℕ) (s r : List ℕ) → text ρ d s ≡ bad k r → (length r ≤ length s) × Kind ρ d (length s) k r
kind-of ρ d k s r e = subst (Ends ρ d (length s)) e (text-ends ρ d s)

lone-paired : {A : Type 0} → lone ≡ paired → A
lone-paired e = let z : ◌≡◌ {A = ℕ} 0 1 = cc in absurd (omega arith)

only_grammar : (d n k : ℕ) (r : List ℕ) → n ≤ d → Kind lone d n k r → Grammar k
only_grammar d n k r h (grammar i) = i
only_grammar d n k r h (surrogate p i) = lone-paired p
only_grammar d n k r h (levels i some f) = absurd (omega arith)

only_pairing : (d n k : ℕ) (r : List ℕ) → n ≤ d → Kind paired d n k r → Pairing k
only_pairing d n k r h (grammar i) = inl i
only_pairing d n k r h (surrogate p i) = inr i
only_pairing d n k r h (levels i some f) = absurd (omega arith)

only-levels : (d n k : ℕ) (r : List ℕ) → Kind lone d n k r → Levels k
only-levels d n k r (grammar i) = inl i
only-levels d n k r (surrogate p i) = lone-paired p
only-levels d n k r (levels i some f) = inr i

any-kind : (d n k : ℕ) (r : List ℕ) → Kind paired d n k r → (k ≡ not_json) ⊎ ((k ≡ unpaired) ⊎ (k ≡ too_deep))
any-kind d n k r (grammar i) = inl i
any-kind d n k r (surrogate p i) = inr (inl i)
any-kind d n k r (levels i some f) = inr (inr i)

-- a laxer reading whose kinds are those that it does not drop
by : {K D : ℕ → Type 0} {k : ℕ} {r : List ℕ} {o p : Read Json}
    → Relaxed D o p → o ≡ bad k r → ((n : ℕ) (q : List ℕ) → p ≡ bad n q → K n) → (D k → K k → ⊥) → By K k r p
by {k = k} {r} goes e only apart =
    record {
      only = only;
      meets = λ has. faults_too goes e (λ dropped. apart dropped has);
      passes = λ lacks. relaxed_past goes e (λ i. lacks (only k r i));
    }

pub least : (s : List ℕ) (k : ℕ) (r : List ℕ) → text paired depth s ≡ bad k r → Least s k r
least s k r e =
    let all = kind-of paired depth k s r e in
    record {
      kind = any-kind depth (length s) k r all.1;
      inside = all.0;
      by_grammar = λ d h long. by (text_relaxed_both h s) e (λ n q i. only_grammar d (length s) n q long (kind-of lone d n s q i).1) both;
      by_pairing = λ d h long. by (text_relaxed_depth paired h s) e (λ n q i. only_pairing d (length s) n q long (kind-of paired d n s q i).1) deep;
      by_levels = by (text_relaxed_surrogates depth s) e (λ n q i. only-levels depth (length s) n q (kind-of lone depth n s q i).1) alone;
    }
  where
    both : (k ≡ unpaired) ⊎ (k ≡ too_deep) → Grammar k → ⊥
    both (inl i) h = omega arith
    both (inr i) h = omega arith

    deep : k ≡ too_deep → Pairing k → ⊥
    deep i (inl h) = omega arith
    deep i (inr h) = omega arith

    alone : k ≡ unpaired → Levels k → ⊥
    alone i (inl h) = omega arith
    alone i (inr h) = omega arith

-- the verdict: its offset is where the fault's rest begins
pub verdict-least : (s : List ℕ) (k n : ℕ) → syntax_of s ≡ wrong_at k n → (k ≡ too_long → ⊥) → (m : FaultRead s k n) × Least s k m.rest
verdict-least s k n e other = let m = met s k n e other in (m, least s k m.rest m.reads)
