-- The verdict as it is found: one stage after another, and in each stage one file after another. `verdict_of` has it as the first of a list.
use Rattle.std.specs.Prelude.{List, [], ◌∷◌, ℕ}
use Rattle.word.specs.declared.Parts.{Parts}
use Rattle.json_text.specs.Text.{syntax_of}
use Rattle.schema.specs.Shape.{Table}
use Rattle.fault.specs.declared.Fault.{Fault}
use Rattle.fault.specs.Fault.{least}
use Rattle.fault.specs.Outcome.{outcome_of, or_next, Outcome, unbroken}
use Rattle.rings.specs.Rings.{coordinates_found}
use Rattle.clean.specs.Clean.{syntax_outcome}
use Rattle.cross.specs.inner.Stage.{first_of, first_c}
use Rattle.cross.specs.Stage.{Feeds, bytes_of, picked}
use Rattle.verdict.specs.declared.stages.Stage.{Stage}
use Rattle.verdict.specs.declared.stages.Stage.TheVariants as stage
use Rattle.verdict.specs.Verdict.{faults_b_by, stage_b_by}

-- stage B by the rules on coordinates that hold: what a file breaks, and all that a set does
abbrev pub faults_b : Table → (file : ℕ) → List ℕ → List Fault
faults_b = faults_b_by coordinates_found

abbrev pub stage_b : Table → Feeds → List Parts
stage_b = stage_b_by coordinates_found

-- what stage A tells of a file; nothing of an absent one
abbrev pub outcome_a : ℕ → List ℕ → Outcome
outcome_a file [] = unbroken
outcome_a file (b ∷ s) = syntax_outcome file (syntax_of (b ∷ s))

-- by a table, what a stage tells of a file that it judges alone
abbrev pub outcome_in : Table → Stage → (file : ℕ) → List ℕ → Outcome
outcome_in t stage.A file s = outcome_a file s
outcome_in t stage.B file s = outcome_of file (least (faults_b t file s))

-- and of the first file that breaks one of its rules
unfoldable pub first_in : Table → Stage → Feeds → Outcome
first_in t x s = first_of (λ file. outcome_in t x file (bytes_of s file))

-- the first stage in which a file breaks one
unfoldable pub staged : Table → Feeds → Outcome
staged t s = or_next (first_in t stage.A s) (or_next (first_in t stage.B s) (first_c t (picked t s)))
