-- Demand 3, another version: where stage A passes a file, its tree is the one that it spells, and one whose top object holds a version string other than 2.3
-- breaks a rule at field 1, by a table that asks for it. So stage B names it or something ahead of it, unless stage A has named another.
use mathlib.Core.Bool.{false}
use mathlib.Core.List.Memᴰ
use mathlib.Core.List.{List, [], ◌∷◌, map, Memᴰ}
use mathlib.Core.Path.{◌≡◌, refl, sym, ap, subst, ◌∙◌}
use Prim.Native.Nat.{ℕ, zero, suc, ◌≤◌}
use native.Mathlib.Omega.{arith}
use lib.Dec.{ltb}
use lib.ListN.{length}
use borrow.Author.Tests.{ltb-true, ltb-false}
use Rattle.notation.proofs.Booleans.{by_test, true-false}
use Rattle.word.specs.declared.Parts.{Parts}
use Rattle.lexeme.specs.Read.Read.{done}
use Rattle.lexeme.specs.Character.{lone}
use Rattle.lexeme.proofs.Steps.{bad-done}
use Rattle.json_text.specs.Tree.{Json}
use Rattle.json_text.specs.Text.{text, syntax_of}
use Rattle.json_text.specs.Cases.{reading}
use Rattle.json_text.specs.Grammar.{IsText}
use Rattle.json_text.proofs.Passed.{grammar_reads}
use Rattle.json_text.proofs.Spellings.{sound-spells}
use Rattle.schema.specs.Shape.{Shape, Table, file_shape}
use Rattle.schema.specs.Tables.{table_at, sheet_of}
use Rattle.schema.proofs.SheetShapes.{sheet_shape_lem}
use Rattle.fault.specs.declared.Fault.{Fault}
use Rattle.fault.specs.Fault as order
use Rattle.fault.specs.Fault.{fault, least}
use Rattle.fault.proofs.Order.{by_record, by_field}
use Rattle.judge.specs.Bounds.{OfStageB}
use Rattle.judge.specs.Faults.{file_faults}
use Rattle.judge.proofs.Holds.{All, none, only}
use Rattle.judge.proofs.Fits.{first_fits}
use Rattle.fault.specs.Outcome.{file_count, fault_parts, outcome_of, Outcome}
use Rattle.clean.specs.Clean.{tree_of}
use Rattle.cross.specs.Stage.{Feeds, bytes_of}
use Rattle.cross.proofs.FromFile.{first-all}
use Rattle.verdict.specs.Verdict.{syntax_rules, rules_a, stage_a, stage_b_by, stage_c, or_else, broken_rules_by, broken_rules, before, first, verdict_of}
use Rattle.verdict.specs.declared.stages.Stage.TheVariants as stage
use Rattle.verdict.specs.inner.Stages.{faults_b, stage_b, first_in}
use Rattle.verdict.specs.Demand3.{AsksVersion, OtherVersion, OfStageA, Ahead, malformed, earlier, header, Refused}
use Rattle.verdict.proofs.Passed.{syntax_kind, tree-spelled, faults-there}
use Rattle.verdict.proofs.Every.{all-at, every_all, every_member}
use Rattle.verdict.proofs.Order.{fault_of, same-file, not-before-file}
use Rattle.verdict.proofs.First.{first-named, first-broken}
use Rattle.verdict.proofs.ByFile.{first-stage_a, first-stage_b}
use Rattle.verdict.proofs.StagesPassed.{all_read}
use Rattle.verdict.proofs.Says.{says}
use Rattle.verdict.proofs.Opening.{Opening, opening}
use Rattle.std.specs.Prelude.{Result, Option, None, Some, Err, Ok}
use Rattle.lexeme.specs.declared.SyntaxError.{SyntaxError}

-- a JSON text has bytes
no_text : (d : ℕ) (x : Json) → text lone d [] ≡ done x [] → ⊥
unfolding reading
no_text zero x e = bad-done e
no_text (suc d) x e = bad-done e

text-some : (s : List ℕ) → IsText s → length s ≡ 0 → ⊥
text-some [] t e = let g = grammar_reads t in no_text g.0 g.1 g.2
text-some (b ∷ s) t e = omega arith

-- a file of another version that stage A passes
file_opens : (t : Table) → AsksVersion t → (file : ℕ) → 1 ≤ file → file ≤ file_count → (s : List ℕ) → OtherVersion s → syntax_of s ≡ Ok tt
    → Opening (faults_b t file s)
file_opens t asks file h i s o e =
    let p = sound-spells s e in
    subst Opening (ap (file_faults (file_shape t file)) (sym (tree-spelled s p.1)) ∙ sym (faults-there t file s e))
    (opening t asks file h i p.0 (o.version p.1))

-- what no fault at field 1 of the header comes before stands in the header, and at no later field
module _ (k : ℕ) (f : Fault) (e : order.before (fault 0 1 0 k) f ≡ false) where
  in_header : f.«record» ≡ 0
  in_header =
      by_test (ltb 0 f.«record»)
      (λ t. let h = ltb-true 0 f.«record» t in true-false (sym (by_record (fault 0 1 0 k) f (λ z. omega arith)) ∙ t) e)
      (λ t. let h = ltb-false 0 f.«record» t in omega arith)

  first-fields : f.field ≤ 1
  first-fields =
      by_test (ltb 1 f.field)
      (λ t. let h = ltb-true 1 f.field t in true-false (sym (by_field (fault 0 1 0 k) f (sym in_header) (λ z. omega arith)) ∙ t) e)
      (ltb-false 1 f.field)

-- kinds of stage A
abbrev AllA : List Parts → Type 0
AllA l = All (λ p. OfStageA p.kind) l

syntax_kinds : (file : ℕ) (s : List ℕ) (x : Result (Unit {0}) SyntaxError) → syntax_of s ≡ x → AllA (syntax_rules file x)
syntax_kinds file s (Ok _) e = none
syntax_kinds file s (Err w) e = let b = syntax_kind s w.kind w.offset e in only (record { least = b.0; most = b.1 })

read-kinds : (file : ℕ) (s : List ℕ) → AllA (rules_a file s)
read-kinds file [] = none
read-kinds file (b ∷ s) = syntax_kinds file (b ∷ s) (syntax_of (b ∷ s)) refl

stage_a-kinds : (s : Feeds) → AllA (stage_a s)
unfolding stage_a
stage_a-kinds s = every_all (λ file. rules_a file (bytes_of s file)) (λ file h i. read-kinds file (bytes_of s file))

-- kinds of stage B
abbrev OfB : Outcome → Type 0
OfB (Ok _) = Unit {0}
OfB (Err p) = OfStageB p.kind

outcome_kind : (file : ℕ) (x : Option Fault) → ((f : Fault) → x ≡ Some f → OfStageB f.kind) → OfB (outcome_of file x)
outcome_kind file None h = tt
outcome_kind file (Some f) h = h f refl

fault-kind : (table file : ℕ) (s : List ℕ) (f : Fault) → least (faults_b (table_at table) file s) ≡ Some f → OfStageB f.kind
unfolding least
fault-kind table file [] f e = let z : ◌≡◌ {A = ℕ} 0 1 = cc in absurd (omega arith)
fault-kind table file (b ∷ s) f e =
    let same = ap (λ (σ : Shape). least (file_faults σ (tree_of (b ∷ s)))) (sheet_shape_lem table file) in
    (first_fits (sheet_of table file) (tree_of (b ∷ s)) f (same ∙ e)).kind

stage_b-kind : (table : ℕ) (s : Feeds) → OfB (first_in (table_at table) stage.B s)
unfolding first_in
stage_b-kind table s =
    first-all OfB tt _ (λ file h i. outcome_kind file (least (faults_b (table_at table) file (bytes_of s file))) (fault-kind table file (bytes_of s file)))

-- which rules count
only-stage_a : (t : Table) (s : Feeds) (p : Parts) (l : List Parts) → stage_a s ≡ p ∷ l → broken_rules t s ≡ stage_a s
unfolding broken_rules_by
only-stage_a t s p l e = ap (λ (m : List Parts). or_else m (or_else (stage_b t s) (stage_c t s))) e ∙ sym e

or_else-some : (l m : List Parts) (p : Parts) → Memᴰ p l → or_else l m ≡ l
or_else-some [] m p h = absurd (Memᴰ.not-nil h)
or_else-some (q ∷ l) m p h = refl

module _ (table : ℕ) (asks : AsksVersion (table_at table)) (s : Feeds) (file : ℕ) (h : 1 ≤ file) (i : file ≤ file_count) (o : OtherVersion (bytes_of s file)) where
  abbrev t : Table
  t = table_at table

  -- where stage A finds nothing
  module _ (a : stage_a s ≡ []) where
    sound : syntax_of (bytes_of s file) ≡ Ok tt
    unfolding first
    sound = all_read t s (sym (first-stage_a t s) ∙ ap first a) file h i (text-some (bytes_of s file) o.json)

    opens : Opening (faults_b t file (bytes_of s file))
    opens = file_opens t asks file h i (bytes_of s file) o sound

    abbrev broken : Parts
    broken = fault_parts file (fault 0 1 0 opens.kind)

    in_stage_b : Memᴰ broken (stage_b t s)
    unfolding stage_b_by
    in_stage_b =
        every_member (λ n. map (fault_parts n) (faults_b t n (bytes_of s n))) broken file h i
        (subst (λ (l : List Fault). Memᴰ broken (map (fault_parts file) l)) (sym opens.is) (Memᴰ.head refl))

    only-stage_b : broken_rules t s ≡ stage_b t s
    unfolding broken_rules_by
    only-stage_b = ap (λ (l : List Parts). or_else l (or_else (stage_b t s) (stage_c t s))) a ∙ or_else-some (stage_b t s) (stage_c t s) broken in_stage_b

    -- what no fault at field 1 comes before
    ahead : (p : Parts) → OfStageB p.kind → before broken p ≡ false → Ahead file p
    ahead p b e =
        by_test (ltb p.file file) (λ u. earlier b (ltb-true p.file file u)) λ u.
        let k : p.file ≤ file = not-before-file broken p e in let l : file ≤ p.file = ltb-false p.file file u in
        let same : file ≡ p.file = omega arith in
        let v = sym (same-file broken p same) ∙ e in
        header b (sym same) (in_header opens.kind (fault_of p) v) (first-fields opens.kind (fault_of p) v)

    refused-B : Refused t s file
    unfolding verdict_of
    refused-B =
        let m = subst (Memᴰ broken) (sym only-stage_b) in_stage_b in
        let n = first-named (broken_rules t s) broken m in
        let b : first_in t stage.B s ≡ Err n.parts = sym (first-stage_b t s) ∙ ap first (sym only-stage_b) ∙ n.is in
        record {
          parts = n.parts;
          ahead = ahead n.parts (subst OfB b (stage_b-kind table s)) ((first-broken (broken_rules t s) n.parts n.is).first broken m);
          told = says table s (Err n.parts) n.is;
        }

  pub refused : Refused t s file
  unfolding verdict_of
  refused = go (stage_a s) refl
    where
      go : (l : List Parts) → stage_a s ≡ l → Refused t s file
      go [] e = refused-B e
      go (p ∷ l) e =
          let r = only-stage_a t s p l e in
          let n = first-named (broken_rules t s) p (subst (Memᴰ p) (sym (r ∙ e)) (Memᴰ.head refl)) in
          let m = subst (Memᴰ n.parts) r (first-broken (broken_rules t s) n.parts n.is).among in
          record { parts = n.parts; ahead = malformed (all-at (stage_a-kinds s) m); told = says table s (Err n.parts) n.is }
