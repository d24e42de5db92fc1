-- What a clean file that is there is sure to hold: stage A passes it, stage B finds nothing in it, no id repeats, and so its records stand where
-- the code looks for them.
use mathlib.Core.Bool.{true}
use mathlib.Core.List.{List, []}
use mathlib.Core.Path.{◌≡◌, sym, ap, ◌∙◌}
use Prim.Native.Nat.{ℕ}
use lib.ListN.{length}
use Rattle.json_text.specs.Text.{syntax_of}
use Rattle.walk.proofs.Files.{passed}
use Rattle.schema.specs.Tables.{sheet_shape}
use Rattle.schema.specs.Records.{has_records}
use Rattle.schema.specs.Pick.{pick}
use Rattle.fault.specs.Fault.{least}
use Rattle.fault.specs.Outcome.{outcome_of, unbroken}
use Rattle.fault.proofs.Leasts.{least-none}
use Rattle.fault.proofs.Outcomes.{next-none, outcome_none}
use Rattle.judge.specs.Faults.{file_faults}
use Rattle.clean.specs.Clean.{tree_of, repeats, syntax_outcome, clean_in}
use Rattle.clean.proofs.Judged.{clean-there, syntax_none}
use Rattle.clean.proofs.Repeated.{Held, held, tree_is}
use Rattle.std.specs.Prelude.{Ok}

-- by the number of its sheet
pub record Sound (n : ℕ) (s : List ℕ) : Type 0 where
  pub reads : syntax_of s ≡ Ok tt
  pub faultless : file_faults (sheet_shape n) (tree_of s) ≡ []
  pub single : repeats (sheet_shape n) (pick (sheet_shape n) (tree_of s)) ≡ []

pub clean-sound : (n file : ℕ) (s : List ℕ) → (length s ≡ 0 → ⊥) → clean_in (sheet_shape n) file s ≡ unbroken → Sound n s
clean-sound n file s h e =
    let a = next-none (syntax_outcome file (syntax_of s)) _ (clean-there (sheet_shape n) file s h ∙ e) in
    let b = next-none (outcome_of file (least (file_faults (sheet_shape n) (tree_of s)))) _ a.1 in
    record { reads = syntax_none file _ a.0; faultless = least-none _ (outcome_none file _ b.0); single = least-none _ (outcome_none file _ b.1) }

-- its records
pub clean-held : (n : ℕ) → has_records n ≡ true → (s : List ℕ) → Sound n s → Held n s (tree_of s)
clean-held n h s c =
    let t = passed s c.reads in
    rw (tree_is s t) (held n h s t (ap (file_faults (sheet_shape n)) (sym (tree_is s t)) ∙ c.faultless))
