-- The judge's loop over an object's members. The slots that it fills tell at the end what the object holds under each row's name; and the least that is kept for a row is that of the value which was met first, judged where it stands.
use mathlib.Core.Bool.{true}
use mathlib.Core.List.{List}
use mathlib.Core.Path.{◌≡◌, refl, sym, ap, subst, ◌∙◌}
use Prim.Native.Char.{code}
use Prim.Native.Nat.{ℕ, ◌+◌, ◌-◌, ◌≤◌, ◌<◌}
use native.Mathlib.Omega.{arith}
use lib.ListN.{length, get_or, set, length-set, replicate, drop, take}
use lib.Seq.{get_or-set_same, get_or-set_other}
use Rattle.lexeme.specs.Tokens.{blanks}
use Rattle.json_text.specs.Tree.{Json, Members}
use Rattle.text.specs.Text.{text_of}
use Rattle.walk.specs.declared.Named.{Named}
use Rattle.walk.specs.declared.Member.{Member as Met}
use Rattle.walk.specs.Walk.{part, onward, member_at}
use Rattle.walk.specs.Part.{Whole}
use Rattle.walk.specs.inner.Kind.{kind_at}
use Rattle.walk.specs.inner.Along.{Placed, NamePassed}
use Rattle.walk.specs.inner.Front.{Ends}
use Rattle.walk.proofs.Places.{member-placed}
use Rattle.walk.proofs.Open.{front-part}
use Rattle.walk.proofs.Along.{MembersAlong, members-along, members-along-next, members-along-last}
use Rattle.walk.proofs.Fronts.{fronts-whole, member-ended, member_met, members-end, cut-same}
use Rattle.schema.specs.Tables.{sheets}
use Rattle.slots.specs.declared.Row.{Row}
use Rattle.slots.specs.declared.Slots.{Slots}
use Rattle.slots.specs.inner.Rows.{most_rows, line_names, row_named, row_line, RowOf}
use Rattle.slots.specs.inner.Slots.{empty, new_at, put_in, absorbed, gathered}
use Rattle.slots.proofs.Filled.{Sized, put-sized, empty-sized, empty-missing, Put, here, there, put-once}
use Rattle.fault.specs.declared.Place.{Place}
use Rattle.judge.specs.inner.Judged.{brackets_of, Member, Kept, RowsJudged, MembersJudged}
use Rattle.judge.proofs.Lines.{bracketless, whole-members}
use Rattle.std.specs.Prelude.{Option, Some, None}
use Rattle.fault.specs.declared.Fault.{Fault}

-- how many leasts are kept: one for each row, and one that is not looked at
abbrev pub leasts_kept : ℕ
leasts_kept = 17

-- the members of the object that the first n bytes of p are, whatever n is, up to the place `at`
pub record Meeting (p : List ℕ) (first count : ℕ) (q : Place) (level : ℕ) (slots : Slots) (leasts : List (Option Fault)) (at : ℕ) : Type 0 where
  sized : Sized slots
  many : length leasts ≡ leasts_kept
  along : (n : ℕ) (ms : Members) → Whole (take n p) (Json.object ms) →
      MembersAlong (take n p) (absorbed (take n p) (line_names first count)) slots at (gathered (take n p) (line_names first count))
  kept : (n : ℕ) (ms : Members) → Whole (take n p) (Json.object ms) → Kept (take n p) first q level slots leasts

module _ (p : List ℕ) (first count : ℕ) (q : Place) (level : ℕ) where
  pub meeting-start : Meeting p first count q level empty (replicate leasts_kept None) 1
  unfolding gathered
  meeting-start =
      record {
        sized = empty-sized;
        many = refl;
        along = λ n ms w. members-along (take n p) (absorbed (take n p) (line_names first count)) w empty;
        kept = λ n ms w. record { is = λ j a e h o. let m = empty-missing j in let z : ◌≡◌ {A = ℕ} 0 1 = cc (m, o) in absurd (omega arith) };
      }

  -- a member m whose name has the row r, and whose value takes e bytes
  module _ (before : Slots) (leasts : List (Option Fault)) (at : ℕ) (m : Named) (named : NamePassed p at (Some m)) (r : Row)
      (row_is : RowOf (text_of (part p m.name m.name_end)) first count r) (e : ℕ) (ends : Ends (drop m.value p) e) (least : Option Fault)
      (judged : new_at before r.row ≡ true → Member (take e (drop m.value p)) r.line q level least)
      (next : ℕ) (on : next ≡ onward p (blanks (drop (m.value + e) p))) (g : Meeting p first count q level before leasts at) where
    abbrev after : Slots
    after = put_in before r.row m.value (m.value + e)

    abbrev met : Met
    met = record { name = m.name; name_end = m.name_end; value = m.value; value_end = m.value + e; next = next }

    module _ (n : ℕ) (ms : Members) (w : Whole (take n p) (Json.object ms)) where
      found : member_at (take n p) at ≡ Some met
      found = member_met p n at m e next named ends on (g.along n ms w).0

      placed : Placed (take n p) at met
      placed = member-placed (take n p) at met found

      row-there : absorbed (take n p) (line_names first count) before met ≡ after
      row-there =
          ap (λ (k : ℕ). put_in before k m.value (m.value + e))
          (ap (λ (l : List ℕ). row_named (text_of l) (line_names first count) 0) (sym (front-part p n m.name m.name_end placed.name (omega (arith, placed))))
          ∙ sym row_is.named)

      first-kept : (j a u : ℕ) → j < most_rows → Put before r.row m.value (m.value + e) j a u →
          Member (part (take n p) a u) (row_line sheets first j) q level (get_or (set leasts r.row least) j None)
      first-kept j a u h (there d o) =
          rw (get_or-set_other leasts r.row j least None d) ((g.kept n ms w).is j a u h o)
      first-kept j a u h (here d new b f) =
          let inside : m.value + e ≤ length (take n p) = omega (arith, placed.next, placed.inside) in
          let line : r.line ≡ row_line sheets first r.row = row_is.line (omega arith) in
          let kept = get_or-set_same leasts r.row least None (omega (arith, g.many)) in
          rw (d, b, f, kept, sym (cut-same p n at m.value e inside), sym line) (judged new)

    pub meeting-next : Meeting p first count q level after (set leasts r.row least) next
    meeting-next =
        record {
          sized = put-sized before r.row m.value (m.value + e) g.sized;
          many = length-set leasts r.row least ∙ g.many;
          along = λ n ms w.
              subst (λ (s : Slots). MembersAlong (take n p) (absorbed (take n p) (line_names first count)) s next (gathered (take n p) (line_names first count)))
              (row-there n ms w)
              (members-along-next (take n p) (absorbed (take n p) (line_names first count)) before at (gathered (take n p) (line_names first count)) met (found n ms w)
              (g.along n ms w));
          kept = λ n ms w.
              record {
                is = λ j a u h o.
                    first-kept n ms w j a u h
                    (put-once before r.row m.value (m.value + e) g.sized j a u o);
              };
        }

  -- no member more: the object ends behind its closing bracket
  module _ (before : Slots) (leasts : List (Option Fault)) (at : ℕ) (none : NamePassed p at None) (g : Meeting p first count q level before leasts at) where
    pub meeting-ends : brackets_of (kind_at p) ≡ code "{" → (e : ℕ) → e ≡ length p - length (drop 1 (blanks (drop at p))) → Ends p e
    meeting-ends o e c =
        record {
          inside = omega arith;
          is = λ x n f.
              let w = fronts-whole f in
              let m = whole-members p n w o in
              let w' = subst (Whole (take n p)) m.1 w in
              let a = (g.along n m.0 w').0 in
              members-end p n at e c f.fits w' a (member-ended p n at none a);
          none = λ k. absurd (bracketless p k o);
        }

    pub meeting-end : (n : ℕ) {r : Option Fault} → RowsJudged before leasts first count q r → MembersJudged (take n p) first count q level r
    meeting-end n j =
        record {
          is = λ rows t ms w.
              let a = g.along n ms w in
              let e = members-along-last (take n p) (absorbed (take n p) (line_names first count)) before at _ (member-ended p n at none a.0) a in
              j.is (take n p) level rows t ms w e (g.kept n ms w);
        }
