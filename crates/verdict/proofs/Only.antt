-- But one broken rule of a set has none before it, so the verdict is the only answer that names the least: the order tells two rules apart unless they
-- differ in their offsets alone, and rules of one file have one offset, where stage A stopped or 0.
use mathlib.Core.Bool.{false}
use mathlib.Core.List.Memᴰ
use mathlib.Core.List.{List, [], ◌∷◌, map, Memᴰ}
use mathlib.Core.Path.{◌≡◌, refl, sym, ap, subst, ◌∙◌}
use Prim.Native.Nat.{ℕ}
use native.Mathlib.Omega.{arith}
use Rattle.word.specs.declared.Parts.{Parts}
use Rattle.json_text.specs.Text.{syntax_of}
use Rattle.schema.specs.Shape.{Table}
use Rattle.fault.specs.declared.Fault.{Fault}
use Rattle.fault.proofs.Order as faults
use Rattle.judge.proofs.Holds.{All, none, more, only}
use Rattle.fault.specs.Outcome.{fault_parts, Outcome}
use Rattle.cross.specs.Cross.{cross_faults}
use Rattle.cross.specs.Stage.{Feeds, bytes_of, picked}
use Rattle.verdict.specs.Verdict.{syntax_rules, rules_a, every_file, stage_a, stage_b_by, stage_c, or_else, broken_rules_by, broken_rules, before, first, verdict_of}
use Rattle.verdict.specs.Demand2.{First}
use Rattle.verdict.specs.inner.Stages.{faults_b, stage_b}
use Rattle.verdict.proofs.Every.{all-at, every_all}
use Rattle.verdict.proofs.Order.{fault_of, same-file, not-before-file}
use Rattle.verdict.proofs.First.{first-clean, first-broken}
use Rattle.std.specs.Prelude.{Result, Err, Ok}
use Rattle.lexeme.specs.declared.SyntaxError.{SyntaxError}

-- what comes neither before nor after is the same but for its offset
before_even : (p q : Parts) → (p.file ≡ q.file → p.offset ≡ q.offset) → before p q ≡ false → before q p ≡ false → p ≡ q
before_even p q o e f =
    let h = not-before-file p q e in let k = not-before-file q p f in let same : p.file ≡ q.file = omega arith in
    let g = faults.before_even (fault_of p) (fault_of q) (sym (same-file p q same) ∙ e) (sym (same-file q p (sym same)) ∙ f) in
    λ i.
    record { file = same i; kind = (g i).kind; field = (g i).field; «record» = (g i).«record»; sub = (g i).sub; offset = o same i }

-- rules whose offset is that of their file
record Offsets (l : List Parts) : Type 0 where
  at : ℕ → ℕ
  are : All (λ p. p.offset ≡ at p.file) l

first-only : (l : List Parts) → Offsets l → (p q : Parts) → First p l → First q l → p ≡ q
first-only l o p q f g =
    before_even p q (λ e. all-at o.are f.among ∙ ap o.at e ∙ sym (all-at o.are g.among)) (g.first p f.among) (f.first q g.among)

-- stage A: one rule a file at most
stopped : Result (Unit {0}) SyntaxError → ℕ
stopped (Ok _) = 0
stopped (Err w) = w.offset

module _ (at : ℕ → List ℕ) where
  syntax_offset : (file : ℕ) (x : Result (Unit {0}) SyntaxError) → syntax_of (at file) ≡ x → All (λ p. p.offset ≡ stopped (syntax_of (at p.file))) (syntax_rules file x)
  unfolding stopped
  syntax_offset file (Ok _) e = none
  syntax_offset file (Err w) e = only (sym (ap stopped e))

  read_offset : (file : ℕ) (s : List ℕ) → at file ≡ s → All (λ p. p.offset ≡ stopped (syntax_of (at p.file))) (rules_a file s)
  read_offset file [] e = none
  read_offset file (b ∷ s) e = syntax_offset file (syntax_of (b ∷ s)) (ap syntax_of e)

-- stages B and C
placed_offset : (file : ℕ) (l : List Fault) → All (λ p. p.offset ≡ 0) (map (fault_parts file) l)
placed_offset file [] = none
placed_offset file (f ∷ l) = more refl (placed_offset file l)

offsets_placed : (f : ℕ → List Fault) → Offsets (every_file (λ file. map (fault_parts file) (f file)))
offsets_placed f =
    record { at = λ file. 0; are = every_all (λ file. map (fault_parts file) (f file)) (λ file h i. placed_offset file (f file)) }

-- all that count
offsets_or_else : (l m : List Parts) → Offsets l → Offsets m → Offsets (or_else l m)
offsets_or_else [] m o n = n
offsets_or_else (p ∷ l) m o n = o

offsets : (t : Table) (s : Feeds) → Offsets (broken_rules t s)
unfolding broken_rules_by stage_a stage_b_by stage_c
offsets t s =
    offsets_or_else (stage_a s) _
    (record { at = _; are = every_all (λ file. rules_a file (bytes_of s file)) (λ file h i. read_offset (bytes_of s) file (bytes_of s file) refl) })
    (offsets_or_else (stage_b t s) (stage_c t s) (offsets_placed (λ file. faults_b t file (bytes_of s file))) (offsets_placed (cross_faults t (picked t s))))

-- what has none before it is what the verdict names
pub first-refused : (t : Table) (s : Feeds) (p : Parts) → First p (broken_rules t s) → verdict_of t s ≡ Err p
unfolding verdict_of
first-refused t s p f = go (first (broken_rules t s)) refl
  where
    go : (x : Outcome) → first (broken_rules t s) ≡ x → first (broken_rules t s) ≡ Err p
    go (Ok _) e = absurd (Memᴰ.not-nil (subst (Memᴰ p) (first-clean (broken_rules t s) e) f.among))
    go (Err q) e = e ∙ ap Err (first-only (broken_rules t s) (offsets t s) q p (first-broken (broken_rules t s) q e) f)
