-- Demand 3, the answers that stay: of a later file the same is picked, and past stage A every answer is a function of what is picked.
use mathlib.Core.Bool.{true}
use mathlib.Core.List.{List, map}
use mathlib.Core.Path.{◌≡◌, refl, sym, ap, ap₂, ◌∙◌}
use Prim.Native.Nat.{ℕ, ◌≤◌}
use native.Mathlib.Omega.{arith}
use Rattle.word.specs.Form.{written_form}
use Rattle.word.specs.Word.{word_of}
use Rattle.json_text.specs.Text.{syntax_of}
use Rattle.json_text.specs.Tree.{Json}
use Rattle.json_text.specs.Spelling.{Spells}
use Rattle.json_text.proofs.Spellings.{spells-sound}
use Rattle.limits.specs.Ceilings.{depth}
use Rattle.schema.specs.Shape.{Shape, Table, file_shape}
use Rattle.schema.specs.Tables.{table_at, sheet_of}
use Rattle.schema.specs.Pick.{pick, Picked}
use Rattle.schema.specs.inner.Sound.{distinct_names}
use Rattle.schema.proofs.PickLater.{pick-later₁}
use Rattle.schema.proofs.Computed.{distinct}
use Rattle.schema.proofs.SheetShapes.{sheet_shape_lem}
use Rattle.fault.specs.Fault.{least, top}
use Rattle.judge.specs.Faults.{faults, file_faults_by}
use Rattle.fault.specs.Outcome.{file_count, fault_parts, outcome_of, or_next, Outcome}
use Rattle.clean.specs.Clean.{tree_of, records_of, repeats, clean_of}
use Rattle.clean.specs.inner.Judged.{judged}
use Rattle.clean.proofs.Judged.{clean-there}
use Rattle.cross.proofs.Sets.{cross_same}
use Rattle.cross.specs.Stage.{file_of, Feeds, bytes_of, picked}
use Rattle.quote.specs.Quote.{quote_of}
use Rattle.zone.specs.Zone.{rules_at}
use Rattle.zone.specs.Answer.{ruling_of}
use Rattle.geometry.specs.Ring.{Point}
use Rattle.verdict.specs.Verdict.{rules_a, stage_a, stage_b_by, stage_c, or_else, broken_rules_by, broken_rules, first, verdict_of, said}
use Rattle.verdict.specs.inner.Stages.{faults_b}
use Rattle.verdict.specs.Demand3 as demand
use Rattle.verdict.specs.Demand3.{LaterFile, LaterSet, Agree}
use Rattle.verdict.proofs.Answers.{told, number-room, word_room}
use Rattle.verdict.proofs.Every.{every_same}
use Rattle.verdict.proofs.Passed.{there, tree-spelled, read-there, faults-there, file-there}
use Rattle.std.specs.Prelude.{Ok}

-- whether a file past stage A is clean, by what is picked of it
abbrev on_picked : Table → (file : ℕ) → Picked → Outcome
on_picked t file x = or_next (outcome_of file (least (faults (file_shape t file) top 0 x))) (outcome_of file (least (repeats (file_shape t file) x)))

clean_of_lem : (t : Table) (file : ℕ) (s : List ℕ) → syntax_of s ≡ Ok tt → clean_of t file s ≡ on_picked t file (pick (file_shape t file) (tree_of s))
unfolding file_faults_by
clean_of_lem t file s e = sym (clean-there (file_shape t file) file s (there s e)) ∙ ap (judged (file_shape t file) file s) e

picked-tree : (σ : Shape) {x : Json} (s : List ℕ) → Spells depth x s → pick σ (tree_of s) ≡ pick σ x
picked-tree σ s h = ap (pick σ) (tree-spelled s h)

module _ (table : ℕ) where
  abbrev t : Table
  t = table_at table

  -- no object of a file lists a name twice
  apart : (file : ℕ) → distinct_names (file_shape t file) ≡ true
  apart file = ap distinct_names (sym (sheet_shape_lem table file)) ∙ distinct (sheet_of table file)

  -- A file and a later one.
  record Same (file : ℕ) (s u : List ℕ) : Type 0 where
    reads : rules_a file s ≡ rules_a file u
    faults : faults_b t file s ≡ faults_b t file u
    files : file_of t file s ≡ file_of t file u
    trees : pick (file_shape t file) (tree_of s) ≡ pick (file_shape t file) (tree_of u)
    cleans : clean_of t file s ≡ clean_of t file u

  same : (file : ℕ) {s u : List ℕ} → LaterFile t file s u → Same file s u
  unfolding file_faults_by
  same file demand.absent = record { reads = refl; faults = refl; files = refl; trees = refl; cleans = refl }
  same file (demand.present {s = s} {u = u} a b l) =
      let i = spells-sound s a.short a.spells in let j = spells-sound u b.short b.spells in
      let σ = file_shape t file in
      let p = picked-tree σ s a.spells ∙ pick-later₁ (apart file) l ∙ sym (picked-tree σ u b.spells) in
      record {
        reads = read-there file s i ∙ sym (read-there file u j);
        faults = faults-there t file s i ∙ ap (faults σ top 0) p ∙ sym (faults-there t file u j);
        files = file-there t file s i ∙ ap (λ (x : Picked). record { here = true; records = records_of σ x }) p ∙ sym (file-there t file u j);
        trees = p;
        cleans = clean_of_lem t file s i ∙ ap (on_picked t file) p ∙ sym (clean_of_lem t file u j);
      }

  -- A set and a later one.
  module _ (s u : Feeds) (later : LaterSet t s u) where
    at : (file : ℕ) → 1 ≤ file → file ≤ file_count → Same file (bytes_of s file) (bytes_of u file)
    at file h i = same file (later file h i)

    rules-same : broken_rules t s ≡ broken_rules t u
    unfolding broken_rules_by stage_a stage_b_by stage_c
    rules-same =
        ap₂ or_else (every_same _ _ (λ file h i. (at file h i).reads))
        (ap₂ or_else (every_same _ _ (λ file h i. ap (map (fault_parts file)) (at file h i).faults))
        (every_same _ _ (λ file h i. ap (map (fault_parts file)) (cross_same table (picked t s) (picked t u) (λ k a b c. (at k a b).files) (λ j. ((at 7 (omega arith) (omega arith)).files j).here) file h i))))

    verdict-same : verdict_of t s ≡ verdict_of t u
    unfolding verdict_of
    verdict-same = ap first rules-same

    quote-same : (id : List ℕ) (seconds metres : ℕ) → quote_of t (bytes_of s 5) id seconds metres ≡ quote_of t (bytes_of u 5) id seconds metres
    unfolding quote_of
    quote-same id seconds metres = let h = at 5 (omega arith) (omega arith) in rw (h.cleans, h.trees)

    ruling-same : (q : Point) (type : List ℕ) (moment : ℕ) → ruling_of t (bytes_of s 6) q type moment ≡ ruling_of t (bytes_of u 6) q type moment
    unfolding ruling_of rules_at
    ruling-same q type moment = let h = at 6 (omega arith) (omega arith) in rw (h.cleans, h.trees)

  pub unmoved : (s u : Feeds) → LaterSet t s u → Agree t s u
  unmoved s u later =
      let v = verdict-same s u later in
      record {
        verdicts = λ b c h i. (
          number-room t s b h ∙ ap told v ∙ sym (number-room t u c i),
          word_room t s b h ∙ ap (λ (x : Outcome). word_of written_form (said x)) v ∙ sym (word_room t u c i),
        );
        quotes = quote-same s u later;
        zones = ruling-same s u later;
      }
