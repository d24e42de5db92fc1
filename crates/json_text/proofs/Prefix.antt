-- Theorem 1. A fault of kind 2 stands at the end of the longest part of the text that some JSON text begins with.
use mathlib.Core.List.{List, [], ◌∷◌, ◌++◌, append_assoc}
use mathlib.Core.Path.{◌≡◌, refl, sym, ap, subst, ◌∙◌}
use Prim.Native.Nat.{ℕ, ◌+◌, ◌-◌, ◌≤◌, ◌<◌}
use native.Mathlib.Omega.{arith}
use lib.ListN.{length, take, length-append}
use lib.Seq.{take_at}
use Rattle.limits.specs.Ceilings.{depth}
use Rattle.word.specs.Kinds.{not_json}
use Rattle.lexeme.specs.Read.Read.{done, bad}
use Rattle.lexeme.specs.Character.{paired, lone}
use Rattle.lexeme.proofs.Steps.{bad-done}
use Rattle.json_text.specs.Text.{text, syntax_of}
use Rattle.json_text.specs.Grammar.{Begins, Longest}
use Rattle.json_text.proofs.Relaxed.{text_relaxed_surrogates, text_relaxed_depth, ends_too, faults_too}
use Rattle.json_text.proofs.Faults.{text-faults}
use Rattle.json_text.proofs.Passed.{grammar_reads, reads_grammar}
use Rattle.json_text.proofs.Verdict.{met}
use Rattle.lexeme.specs.Read.{wrong_at}

-- what stands before the rest, and that with one byte more
pub before : (s p r : List ℕ) → s ≡ p ++ r → take (length s - length r) s ≡ p
before s p r e = ap (take (length s - length r)) e ∙ take_at p r (length s - length r) (omega (arith, ap length e ∙ length-append p r))

before_more : (s p : List ℕ) (b : ℕ) (w : List ℕ) → s ≡ p ++ (b ∷ w) → take (length s - length (b ∷ w) + 1) s ≡ p ++ (b ∷ [])
before_more s p b w e =
    let n = length s - length (b ∷ w) + 1 in
    ap (take n) (e ∙ sym (append_assoc p (b ∷ []) w))
    ∙ take_at (p ++ (b ∷ [])) w n (omega (arith, ap length e ∙ length-append p (b ∷ w), length-append p (b ∷ [])))

module _ (s r : List ℕ) (e : text paired depth s ≡ bad not_json r) where
  -- the grammar alone has the same fault, at any number of levels that is enough
  pub by_grammar : (d : ℕ) → depth ≤ d → text lone d s ≡ bad not_json r
  by_grammar d h =
      faults_too (text_relaxed_depth lone h s) (faults_too (text_relaxed_surrogates depth s) e (λ i. omega arith)) (λ i. omega arith)

  none-longer : (b : ℕ) (w : List ℕ) → r ≡ b ∷ w → Begins (take (length s - length (b ∷ w) + 1) s) → ⊥
  none-longer b w i g =
      let t = grammar_reads g.whole in
      let d = depth + t.0 in
      let u = text-faults d s r (by_grammar d (omega arith)) in
      let v = g.rest in
      let more = before_more s u.part b w (u.splits ∙ ap (λ (m : List ℕ). u.part ++ m) i) in
      let same : take (length s - length (b ∷ w) + 1) s ++ v ≡ u.part ++ (b ∷ v) = ap (λ (m : List ℕ). m ++ v) more ∙ append_assoc u.part (b ∷ []) v in
      let whole : text lone d (u.part ++ (b ∷ v)) ≡ done t.1 [] =
      ends_too (text_relaxed_depth lone {d = t.0} {e = d} (omega arith) _) (ap (text lone t.0) (sym same) ∙ t.2) in
      bad-done (sym (u.dead b w i v) ∙ whole)

  pub prefix : Longest s (length s - length r)
  prefix =
      let u = text-faults depth s r (by_grammar depth (omega arith)) in
      record {
        inside = omega arith;
        begins =
            record {
              rest = u.ending;
              whole = reads_grammar depth u.what _ (ap (λ (m : List ℕ). text lone depth (m ++ u.ending)) (before s u.part r u.splits) ∙ u.alive);
            };
        ends = ends r refl;
      }
    where
      ends : (q : List ℕ) → r ≡ q → length s - length r < length s → Begins (take (length s - length r + 1) s) → ⊥
      ends [] i h g = omega (arith, ap length i)
      ends (b ∷ w) i h g = none-longer b w i (subst (λ (q : List ℕ). Begins (take (length s - length q + 1) s)) i g)

-- the offset of kind 2 in the verdict is the longest prefix's length
pub verdict_prefix : (s : List ℕ) (n : ℕ) → syntax_of s ≡ wrong_at not_json n → Longest s n
verdict_prefix s n e = let m = met s not_json n e (λ i. omega arith) in subst (Longest s) m.place (prefix s m.rest m.reads)
