-- The first of the broken rules may be looked for stage by stage and file by file: a rule of a lower file comes before those of all higher ones, and within a
-- file the first is the least fault.
use mathlib.Core.List.{List, [], ◌∷◌, ◌++◌, map}
use mathlib.Core.Path.{◌≡◌, refl, sym, ap, ap₂, ◌∙◌}
use Prim.Native.Nat.{ℕ, zero, suc, ◌+◌, ◌<◌}
use native.Mathlib.Omega.{arith}
use Rattle.notation.proofs.Booleans.{by_test}
use Rattle.word.specs.declared.Parts.{Parts}
use Rattle.json_text.specs.Text.{syntax_of}
use Rattle.schema.specs.Shape.{Table}
use Rattle.fault.specs.declared.Fault.{Fault}
use Rattle.fault.specs.Fault as fault
use Rattle.fault.specs.Fault.{lesser, least}
use Rattle.fault.proofs.Leasts.{lesser-first, lesser-second, lesser-none}
use Rattle.judge.proofs.Holds.{All, none, more, only, all_append}
use Rattle.fault.specs.Outcome.{file_count, fault_parts, outcome_of, or_next, Outcome}
use Rattle.clean.specs.Clean.{syntax_outcome}
use Rattle.cross.specs.Cross.{cross_faults}
use Rattle.cross.specs.inner.Stage.{first_of, from_file, first_c}
use Rattle.cross.specs.Stage.{Feeds, bytes_of, picked}
use Rattle.verdict.specs.Verdict.{syntax_rules, rules_a, each_from, every_file, stage_a, stage_b_by, stage_c, or_else, broken_rules_by, earlier, first, verdict_of}
use Rattle.verdict.specs.declared.stages.Stage.TheVariants as stage
use Rattle.verdict.specs.inner.Stages.{staged, faults_b, stage_b, outcome_a, first_in}
use Rattle.verdict.proofs.Every.{all-at, all_map}
use Rattle.verdict.proofs.Order.{same-file, higher_file}
use Rattle.verdict.proofs.First.{earlier-named, earlier-first, earlier-second, first-broken}
use Rattle.std.specs.Prelude.{Result, Option, None, Some, Err, Ok}
use Rattle.lexeme.specs.declared.SyntaxError.{SyntaxError}

-- what is found first stays, whatever is next
named-next : (p : Parts) (x y : Outcome) → or_next (earlier p x) y ≡ earlier p x
named-next p x y = let n = earlier-named p x in rw n.is

-- Stages: the first of two lists of which the second counts where the first is empty.
first-or_else : (l m : List Parts) → first (or_else l m) ≡ or_next (first l) (first m)
unfolding first
first-or_else [] m = refl
first-or_else (p ∷ l) m = sym (named-next p (first l) (first m))

-- Files: the first of two lists of which the second is of higher files.
abbrev Of : ℕ → List Parts → Type 0
Of file l = All (λ p. p.file ≡ file) l

abbrev Above : ℕ → List Parts → Type 0
Above file l = All (λ p. file < p.file) l

earlier-above : (p : Parts) (m : List Parts) → Above p.file m → earlier p (first m) ≡ Err p
earlier-above p m above = go (first m) refl
  where
    go : (x : Outcome) → first m ≡ x → earlier p x ≡ Err p
    go (Ok _) e = refl
    go (Err q) e = earlier-first p q (higher_file q p (all-at above (first-broken m q e).among))

first_append : (file : ℕ) (l m : List Parts) → Of file l → Above file m → first (l ++ m) ≡ or_next (first l) (first m)
unfolding first
first_append file [] m of above = refl
first_append file (p ∷ l) m (more h of) above =
    ap (earlier p) (first_append file l m of above) ∙ go (first l) ∙ sym (named-next p (first l) (first m))
  where
    go : (x : Outcome) → earlier p (or_next x (first m)) ≡ earlier p x
    go (Ok _) = earlier-above p m (rw h above)
    go (Err q) = refl

-- The rules of the files from one on are above those before it.
module _ (g : ℕ → List Parts) (of : (file : ℕ) → Of file (g file)) where
  from-above : (low file left : ℕ) → low < file → Above low (each_from g file left)
  unfolding each_from
  from-above low file zero h = none
  from-above low file (suc left) h = all_append (all_map (λ p e. omega arith) (of file)) (from-above low (file + 1) left (omega arith))

  first-from : (file left : ℕ) → first (each_from g file left) ≡ from_file (λ k. first (g k)) file left
  unfolding each_from from_file first
  first-from file zero = refl
  first-from file (suc left) =
      first_append file (g file) (each_from g (file + 1) left) (of file) (from-above file (file + 1) left (omega arith))
      ∙ ap (or_next (first (g file))) (first-from (file + 1) left)

  first-files : first (every_file g) ≡ first_of (λ file. first (g file))
  first-files = first-from 1 file_count

-- Faults of one file, in the order of faults.
place-earlier : (file : ℕ) (a : Fault) (x : Option Fault) → earlier (fault_parts file a) (outcome_of file x) ≡ outcome_of file (lesser (Some a) x)
place-earlier file a None = ap (λ (x : Option Fault). outcome_of file x) (sym (lesser-none (Some a)))
place-earlier file a (Some b) =
    by_test (fault.before b a)
    (λ t. earlier-second (fault_parts file a) (fault_parts file b) (same-file (fault_parts file b) (fault_parts file a) refl ∙ t)
    ∙ ap (λ (x : Option Fault). outcome_of file x) (sym (lesser-second a b t)))
    (λ f. earlier-first (fault_parts file a) (fault_parts file b) (same-file (fault_parts file b) (fault_parts file a) refl ∙ f)
    ∙ ap (λ (x : Option Fault). outcome_of file x) (sym (lesser-first a b f)))

first-least : (file : ℕ) (l : List Fault) → first (map (fault_parts file) l) ≡ outcome_of file (least l)
unfolding first least
first-least file [] = refl
first-least file (a ∷ l) = ap (earlier (fault_parts file a)) (first-least file l) ∙ place-earlier file a (least l)

placed_of : (file : ℕ) (l : List Fault) → Of file (map (fault_parts file) l)
placed_of file [] = none
placed_of file (a ∷ l) = more refl (placed_of file l)

-- a stage of faults
module _ (f : ℕ → List Fault) where
  first-placed : first (every_file (λ file. map (fault_parts file) (f file))) ≡ first_of (λ file. outcome_of file (least (f file)))
  first-placed =
      first-files (λ file. map (fault_parts file) (f file)) (λ file. placed_of file (f file)) ∙ ap first_of (λ i file. first-least file (f file) i)

-- Stage A: a file breaks one rule at most.
syntax_of_lem : (file : ℕ) (x : Result (Unit {0}) SyntaxError) → Of file (syntax_rules file x)
syntax_of_lem file (Ok _) = none
syntax_of_lem file (Err w) = only refl

read_of : (file : ℕ) (s : List ℕ) → Of file (rules_a file s)
read_of file [] = none
read_of file (b ∷ s) = syntax_of_lem file (syntax_of (b ∷ s))

first_syntax : (file : ℕ) (x : Result (Unit {0}) SyntaxError) → first (syntax_rules file x) ≡ syntax_outcome file x
unfolding first
first_syntax file (Ok _) = refl
first_syntax file (Err w) = refl

first_read : (file : ℕ) (s : List ℕ) → first (rules_a file s) ≡ outcome_a file s
unfolding first
first_read file [] = refl
first_read file (b ∷ s) = first_syntax file (syntax_of (b ∷ s))

-- of a set, by a table
module _ (t : Table) (s : Feeds) where
  pub first-stage_a : first (stage_a s) ≡ first_in t stage.A s
  unfolding stage_a first_in
  first-stage_a =
      first-files (λ file. rules_a file (bytes_of s file)) (λ file. read_of file (bytes_of s file)) ∙ ap first_of (λ i file. first_read file (bytes_of s file) i)

  pub first-stage_b : first (stage_b t s) ≡ first_in t stage.B s
  unfolding stage_b_by first_in
  first-stage_b = first-placed (λ file. faults_b t file (bytes_of s file))

  first-stage_c : first (stage_c t s) ≡ first_c t (picked t s)
  unfolding stage_c first_c
  first-stage_c = first-placed (cross_faults t (picked t s))

  pub verdict-staged : verdict_of t s ≡ staged t s
  unfolding verdict_of broken_rules_by staged
  verdict-staged =
      first-or_else (stage_a s) (or_else (stage_b t s) (stage_c t s))
      ∙ ap₂ or_next first-stage_a (first-or_else (stage_b t s) (stage_c t s) ∙ ap₂ or_next first-stage_b first-stage_c)
