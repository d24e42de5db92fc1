-- `records_from` goes from rest to rest along the names that lead to the sheet's records, of which there are three at most.
use mathlib.Core.List.{List, [], ◌∷◌, map}
use mathlib.Core.Path.{◌≡◌, refl, sym, ap, subst, ◌∙◌}
use Prim.Native.Nat.{ℕ, zero, suc, ◌≤◌}
use native.Mathlib.Omega.{arith}
use lib.ListN.{take}
use Rattle.schema.specs.Tables.{sheets, sheet_shape}
use Rattle.schema.specs.declared.ways.Steps.{Steps}
use Rattle.schema.specs.inner.Line.{name_at}
use Rattle.schema.specs.inner.Ways.{way_names, LeadTo}
use Rattle.std.specs.Prelude.{Option}
use Rattle.document.specs.declared.Span.{Span}
use Rattle.document.specs.Spans.{member_span, members_along, top_span}
use Rattle.document.specs.inner.Spans.{ValueFrom, RecordsFrom}
use Rattle.document.proofs.Along.{along-names, names-given}
use Rattle.document.proofs.Rests.{Begins, begins-top, begins-member, records_begin, no-records}
use Rattle.document.proofs.records_from.Goals as goal

-- a rest behind the names of a sheet's steps begins with its records
module _ (n : ℕ) (s : List ℕ) {r : Steps} (lead : LeadTo n r) where
  abbrev name : ℕ → List ℕ
  name = name_at sheets

  behind : {i : ℕ} {is : List ℕ} → take r.count (r.first ∷ r.second ∷ r.third ∷ []) ≡ i ∷ is → {q : List ℕ}
      → Begins s (members_along s (map name (i ∷ is)) (top_span s)) q → RecordsFrom n s q
  behind {i} {is} e b =
      let names : way_names (sheet_shape n) ≡ name i ∷ map name is = lead.names ∙ ap (map name) e in
      let h = names-given n (name i) (map name is) names in
      records_begin n s _ _ h (ap (λ (ns : List (List ℕ)). members_along s ns (top_span s)) (sym names) ∙ along-names n s h) b

take-three : {x y z : ℕ} (m : ℕ) → 3 ≤ m → take m (x ∷ y ∷ z ∷ []) ≡ x ∷ y ∷ z ∷ []
take-three zero h = absurd (omega arith)
take-three (suc zero) h = absurd (omega arith)
take-three (suc (suc zero)) h = absurd (omega arith)
take-three (suc (suc (suc zero))) h = refl
take-three (suc (suc (suc (suc m)))) h = refl

-- a value by the name of a line
named : {s p q r : List ℕ} {span : Option Span} (i : ℕ) → q ≡ name_at sheets i → Begins s span p → ValueFrom p q r → Begins s (member_span s (name_at sheets i) span) r
named {s} {p} {q} {r} {span} i e b v = begins-member s (name_at sheets i) span p r b (subst (λ (x : List ℕ). ValueFrom p x r) e v)

pub returns-then-steps-eq0 : goal.returns-then-steps-eq0
returns-then-steps-eq0 c = no-records _ _ _ (c.steps_to-steps.ensures.none c.if-steps-eq0.true) c.cut.ensures

-- behind the first name, behind the second, and behind the third

pub returns-then-steps-eq1 : goal.returns-then-steps-eq1
unfolding members_along
returns-then-steps-eq1 c =
    let s = c.args.s.now in let t = c.steps_to-steps in
    let first = named _ c.name_in.ensures (begins-top s c.skip_blanks-from.result c.skip_blanks-from.ensures) c.value_from-top.ensures in
    behind _ _ t.ensures (ap (λ (m : ℕ). take m (t.result.first ∷ t.result.second ∷ t.result.third ∷ [])) c.if-steps-eq1.true) first

pub returns-then-steps-eq2 : goal.returns-then-steps-eq2
unfolding members_along
returns-then-steps-eq2 c =
    let s = c.args.s.now in let t = c.steps_to-steps in
    let first = named _ c.name_in.ensures (begins-top s c.skip_blanks-from.result c.skip_blanks-from.ensures) c.value_from-top.ensures in
    let second = named _ c.name_in-2.ensures first c.value_from-inner.ensures in
    behind _ _ t.ensures (ap (λ (m : ℕ). take m (t.result.first ∷ t.result.second ∷ t.result.third ∷ [])) c.if-steps-eq2.true) second

pub returns : goal.returns
unfolding members_along
returns c =
    let s = c.args.s.now in let t = c.steps_to-steps in
    let first = named _ c.name_in.ensures (begins-top s c.skip_blanks-from.result c.skip_blanks-from.ensures) c.value_from-top.ensures in
    let second = named _ c.name_in-2.ensures first c.value_from-inner.ensures in
    behind _ _ t.ensures (take-three t.result.count (omega (arith, c.if-steps-eq0.false, c.if-steps-eq1.false, c.if-steps-eq2.false)))
    (named _ c.name_in-3.ensures second c.value_from.ensures)
