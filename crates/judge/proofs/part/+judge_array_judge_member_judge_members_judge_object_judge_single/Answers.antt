-- The cycle of the judge: each function meets its contract if those that it calls do, and the measure, five times the levels left and the
-- callee's rank, falls with each call. The loops' invariants: along an array the least so far, with the items that are left, makes the least of all; along an
-- object the slots tell what was met.
use mathlib.Core.List.{List}
use mathlib.Core.Path.{sym, ap, subst, ◌∙◌}
use Prim.Native.Nat.{ℕ, ◌+◌, ◌≤◌}
use native.Mathlib.Omega.{arith}
use lib.ListN.{length, drop, take, length-drop}
use Rattle.notation.proofs.Booleans.{true-false}
use Rattle.lexeme.proofs.Spans.{skipped}
use Rattle.walk.specs.Walk.{part}
use Rattle.walk.specs.inner.Along.{NamePassed}
use Rattle.walk.specs.inner.Front.{Ends}
use Rattle.walk.proofs.Passing.{placed-next}
use Rattle.walk.proofs.Cuts.{part-rest as tail-cut}
use Rattle.walk.proofs.Fronts.{item-later}
use Rattle.fault.specs.Fault.{lesser}
use Rattle.judge.specs.inner.Judged.{Single, Member}
use Rattle.judge.proofs.Values.{single-past, single-object, member-blank, member-array, member-single, object_shut, object-past, object-other, object-members}
use Rattle.judge.proofs.Items.{items_begin, items-next, items-end, array-ends, array-other}
use Rattle.judge.proofs.Meeting.{meeting-start, meeting-next, meeting-ends, meeting-end}
use Rattle.judge.proofs.Nested.{array-positions}
use Rattle.judge.proofs.part.+judge_array_judge_member_judge_members_judge_object_judge_single.Goals as goal
use Rattle.judge.proofs.part.+judge_array_judge_member_judge_members_judge_object_judge_single.Goals.{judge_object-then-level-eq0-via-then-level-eq0, judge_object-then-level-eq0-via-else-level-eq0+then-first-gt-COUNT, judge_object-then-level-eq0-via-else-level-eq0+else-first-gt-COUNT+then-first-count}
use Rattle.std.specs.Prelude.{Option}
use Rattle.fault.specs.declared.Fault.{Fault}

-- what the judge of a value answers, of the bytes from the value on
ends_from : (p : List ℕ) (v e : ℕ) → Ends (part p v (length p)) e → Ends (drop v p) e
ends_from p v e h = subst (λ l. Ends l e) (tail-cut p v) h

-- those bytes are not more than all
rest_within : (p : List ℕ) (v m : ℕ) → length p ≤ m → length (part p v (length p)) ≤ m
rest_within p v m h = rw (tail-cut p v) (omega (arith, length-drop v p))

-- arrays
pub judge_array-returns-then-line-eq-POSITIONS : goal.judge_array-returns-then-line-eq-POSITIONS
judge_array-returns-then-line-eq-POSITIONS t c =
    (c.judge_positions.ensures.0, array-positions c.args.row.listed c.if-line-eq-POSITIONS.true c.judge_positions.ensures.1)

pub judge_array-returns-then-brackets-ne-ARRAY : goal.judge_array-returns-then-brackets-ne-ARRAY
judge_array-returns-then-brackets-ne-ARRAY t c =
    let a = c.args in (
      c.passed.ensures.0,
      array-other a.p.now a.row.i a.place a.level c.args.row.listed c.if-line-eq-POSITIONS.false c.passed.result.end
          c.brackets.ensures c.if-brackets-ne-ARRAY.true (c.passed.ensures.1 ∙ c.broken.ensures),
    )

pub judge_array-loop-row-init : goal.judge_array-loop-row-init
judge_array-loop-row-init t c =
    let a = c.args in (omega arith, omega arith, items_begin a.p.now a.row.i a.place a.level)

pub judge_array-slice_bounds-judge_single-count : goal.judge_array-slice_bounds-judge_single-count
judge_array-slice_bounds-judge_single-count t c =
    let p = c.args.p.now in let here = skipped p c.loop-row.at c.skip_blanks-value.result c.skip_blanks-value.ensures in omega (arith, here.upto)

pub judge_array-slice_bounds-judge_single-start : goal.judge_array-slice_bounds-judge_single-start
judge_array-slice_bounds-judge_single-start t c =
    let p = c.args.p.now in let here = skipped p c.loop-row.at c.skip_blanks-value.result c.skip_blanks-value.ensures in omega (arith, here.upto)

pub judge_array-slice_bounds-judge_single-end : goal.judge_array-slice_bounds-judge_single-end
judge_array-slice_bounds-judge_single-end t c =
    let p = c.args.p.now in let here = skipped p c.loop-row.at c.skip_blanks-value.result c.skip_blanks-value.ensures in omega (arith, here.upto)

pub judge_array-judge_single-item-requires : goal.judge_array-judge_single-item-requires
judge_array-judge_single-item-requires t c =
    (omega arith, (rest_within c.args.p.now c.skip_blanks-value.result _ c.requires.0, c.requires.1))

pub judge_array-returns-then-item-eq0 : goal.judge_array-returns-then-item-eq0
judge_array-returns-then-item-eq0 t c =
    let a = c.args in let p = c.args.p.now in let l = c.loop-row in
    let v = c.skip_blanks-value.result in
    let e = c.judge_single-item.result.end in
    let here = skipped p c.loop-row.at c.skip_blanks-value.result c.skip_blanks-value.ensures in
    let ends = ends_from p c.skip_blanks-value.result c.judge_single-item.result.end c.judge_single-item.ensures.0 in
    let none = c.if-item-eq0.true in (
      array-ends p a.row.i a.place a.level c.args.row.listed c.if-line-eq-POSITIONS.false l.at l.least l.n v
          e here ends none c.brackets.ensures c.if-brackets-ne-ARRAY.false l.invariant.2 c.closed_end.result c.closed_end.ensures,
      items-end p a.row.i a.place a.level c.args.row.listed c.if-line-eq-POSITIONS.false l.at l.least l.n v
          e here ends none c.brackets.ensures c.if-brackets-ne-ARRAY.false l.invariant.2 c.closed_end.result
          (c.lesser.ensures ∙ ap (λ (z : Option Fault). lesser z l.least) c.excess.ensures),
    )

pub judge_array-overflow_add-n-in-loop-row : goal.judge_array-overflow_add-n-in-loop-row
judge_array-overflow_add-n-in-loop-row t c =
    omega (arith, c.loop-row.invariant.0, c.loop-row.invariant.1, c.requires.0)

pub judge_array-overflow_add-value : goal.judge_array-overflow_add-value
judge_array-overflow_add-value t c =
    let p = c.args.p.now in let v = c.skip_blanks-value.result in
    let here = skipped p c.loop-row.at c.skip_blanks-value.result c.skip_blanks-value.ensures in
    let ends = ends_from p c.skip_blanks-value.result c.judge_single-item.result.end c.judge_single-item.ensures.0 in
    omega (arith, here.upto, ends.inside, length-drop v p, c.requires.0)

pub judge_array-loop-row-smaller : goal.judge_array-loop-row-smaller
judge_array-loop-row-smaller t c =
    let p = c.args.p.now in
    let here = skipped p c.loop-row.at c.skip_blanks-value.result c.skip_blanks-value.ensures in
    let ends = ends_from p c.skip_blanks-value.result c.judge_single-item.result.end c.judge_single-item.ensures.0 in
    let later = item-later p c.loop-row.at c.skip_blanks-value.result c.judge_single-item.result.end here ends
    (omega (arith, c.if-item-eq0.false)) c.next_place-at.result c.next_place-at.ensures in
    omega (arith, later)

pub judge_array-loop-row-preserved : goal.judge_array-loop-row-preserved
judge_array-loop-row-preserved t c =
    let a = c.args in let p = c.args.p.now in let l = c.loop-row in
    let v = c.skip_blanks-value.result in
    let e = c.judge_single-item.result.end in
    let here = skipped p c.loop-row.at c.skip_blanks-value.result c.skip_blanks-value.ensures in
    let ends = ends_from p c.skip_blanks-value.result c.judge_single-item.result.end c.judge_single-item.ensures.0 in
    let later = item-later p c.loop-row.at c.skip_blanks-value.result c.judge_single-item.result.end here ends
    (omega (arith, c.if-item-eq0.false)) c.next_place-at.result c.next_place-at.ensures in
    let single =
    subst (λ z. Single (take e (drop v p)) a.row.line.item a.row.i z a.level c.judge_single-item.result.least) c.item-there.ensures
    (subst (λ z. Single (take e z) a.row.line.item a.row.i c.item-there.result a.level c.judge_single-item.result.least) (tail-cut p v) c.judge_single-item.ensures.1) in (
      omega (arith, later, l.invariant.0),
      omega (arith, later),
      rw c.lesser-least.ensures
          (items-next p a.row.i a.place a.level c.args.row.listed c.if-line-eq-POSITIONS.false l.at l.least l.n v e
          c.next_place-at.result here ends (omega (arith, c.if-item-eq0.false)) c.next_place-at.ensures single l.invariant.2),
    )

-- members

pub judge_member-returns-then-not-new : goal.judge_member-returns-then-not-new
judge_member-returns-then-not-new t c =
    (c.passed.ensures.0, λ n. true-false n c.if-not-new.true)

pub judge_member-returns-then-begins_blank : goal.judge_member-returns-then-begins_blank
judge_member-returns-then-begins_blank t c =
    let blank = c.if-begins_blank.true in
    let e = c.begins_blank.ensures in
    (e.ends blank, λ n. member-blank c.args.row.listed c.begins_blank.result (λ x w. blank ∙ e.is blank x w) blank c.absent.ensures)

pub judge_member-judge_array-requires : goal.judge_member-judge_array-requires
judge_member-judge_array-requires t c =
    (omega arith, c.requires)

pub judge_member-returns-then-line-eq-ARRAY : goal.judge_member-returns-then-line-eq-ARRAY
judge_member-returns-then-line-eq-ARRAY t c =
    let some = c.if-begins_blank.false in (
      c.judge_array.ensures.0,
      λ n. member-array c.args.row.listed c.begins_blank.result (λ x w. some ∙ c.begins_blank.ensures.not some c.judge_array.result.end x w) some c.if-line-eq-ARRAY.true c.judge_array.ensures.1,
    )

pub judge_member-judge_single-requires : goal.judge_member-judge_single-requires
judge_member-judge_single-requires t c =
    (omega arith, c.requires)

pub judge_member-returns : goal.judge_member-returns
judge_member-returns t c =
    let some = c.if-begins_blank.false in (
      c.judge_single.ensures.0,
      λ n. member-single c.args.row.listed c.begins_blank.result (λ x w. some ∙ c.begins_blank.ensures.not some c.judge_single.result.end x w) some c.if-line-eq-ARRAY.false c.judge_single.ensures.1,
    )

-- the members of an object

pub judge_members-loop-m-init : goal.judge_members-loop-m-init
judge_members-loop-m-init t c =
    let a = c.args in rw c.new-slots.ensures (meeting-start a.p.now a.first a.count a.place a.level)

pub judge_members-judge_rows-requires : goal.judge_members-judge_rows-requires
judge_members-judge_rows-requires t c =
    (c.requires.3, c.requires.1)

pub judge_members-returns : goal.judge_members-returns
judge_members-returns t c =
    let l = c.loop-m in
    let a = c.args in
    let none = subst (NamePassed a.p.now l.at) c.in_default.is c.pass_name.ensures in (
      meeting-ends a.p.now a.first a.count a.place a.level l.slots l.leasts l.at none l.invariant c.requires.2
          c.closed_end.result c.closed_end.ensures,
      meeting-end a.p.now a.first a.count a.place a.level l.slots l.leasts l.at none l.invariant c.closed_end.result
          c.judge_rows.ensures,
    )

pub judge_members-slice_bounds-row_of-count : goal.judge_members-slice_bounds-row_of-count
judge_members-slice_bounds-row_of-count t c =
    let m = c.pass_name.ensures.placed _ c.in-Some.is in omega arith

pub judge_members-slice_bounds-row_of-start : goal.judge_members-slice_bounds-row_of-start
judge_members-slice_bounds-row_of-start t c =
    let m = c.pass_name.ensures.placed _ c.in-Some.is in omega arith

pub judge_members-slice_bounds-row_of-end : goal.judge_members-slice_bounds-row_of-end
judge_members-slice_bounds-row_of-end t c =
    let m = c.pass_name.ensures.placed _ c.in-Some.is in omega arith

pub judge_members-row_of-found-requires : goal.judge_members-row_of-found-requires
judge_members-row_of-found-requires t c =
    c.requires.3

pub judge_members-line_at-requires : goal.judge_members-line_at-requires
judge_members-line_at-requires t c =
    c.requires.3

pub judge_members-slice_bounds-judge_member-count : goal.judge_members-slice_bounds-judge_member-count
judge_members-slice_bounds-judge_member-count t c =
    let m = c.pass_name.ensures.placed _ c.in-Some.is in omega (arith, m.inside)

pub judge_members-slice_bounds-judge_member-start : goal.judge_members-slice_bounds-judge_member-start
judge_members-slice_bounds-judge_member-start t c =
    let m = c.pass_name.ensures.placed _ c.in-Some.is in omega (arith, m.inside)

pub judge_members-slice_bounds-judge_member-end : goal.judge_members-slice_bounds-judge_member-end
judge_members-slice_bounds-judge_member-end t c =
    let m = c.pass_name.ensures.placed _ c.in-Some.is in omega (arith, m.inside)

pub judge_members-judge_member-judged-requires : goal.judge_members-judge_member-judged-requires
judge_members-judge_member-judged-requires t c =
    (omega arith, (rest_within c.args.p.now c.in-Some.m.value _ c.requires.0, c.requires.3))

pub judge_members-offset_bounds-leasts-found : goal.judge_members-offset_bounds-leasts-found
judge_members-offset_bounds-leasts-found t c =
    omega (arith, c.row_of-found.ensures.few)

pub judge_members-bounds-leasts-found : goal.judge_members-bounds-leasts-found
judge_members-bounds-leasts-found t c =
    omega (arith, c.row_of-found.ensures.few)

pub judge_members-overflow_add-value_end : goal.judge_members-overflow_add-value_end
judge_members-overflow_add-value_end t c =
    let p = c.args.p.now in let m = c.pass_name.ensures.placed _ c.in-Some.is in
    let ends = ends_from p c.in-Some.m.value c.judge_member-judged.result.end c.judge_member-judged.ensures.0 in
    omega (arith, m.inside, ends.inside, length-drop c.in-Some.m.value p, c.requires.0)

pub judge_members-loop-m-smaller : goal.judge_members-loop-m-smaller
judge_members-loop-m-smaller t c =
    let p = c.args.p.now in let m = c.pass_name.ensures.placed _ c.in-Some.is in
    let v = c.in-Some.m.value in
    let e = c.judge_member-judged.result.end in
    let ends = ends_from p c.in-Some.m.value c.judge_member-judged.result.end c.judge_member-judged.ensures.0 in
    let upto : v + e ≤ length p = omega (arith, m.inside, ends.inside, length-drop v p) in
    let o = placed-next p (v + e) c.next_place-at.result upto c.next_place-at.ensures in
    omega (arith, o, m.later, m.name, m.apart)

pub judge_members-loop-m-preserved : goal.judge_members-loop-m-preserved
judge_members-loop-m-preserved t c =
    let l = c.loop-m in
    let a = c.args in let p = c.args.p.now in
    let m = c.in-Some.m in
    let e = c.judge_member-judged.result.end in
    let least = c.judge_member-judged.result.least in
    let found = c.row_of-found.result in
    let named = subst (NamePassed p l.at) c.in-Some.is c.pass_name.ensures in
    let ends = ends_from p c.in-Some.m.value c.judge_member-judged.result.end c.judge_member-judged.ensures.0 in
    rw c.put.ensures
    (meeting-next p a.first a.count a.place a.level l.slots l.leasts l.at m named found c.row_of-found.ensures e ends least
    (λ h. subst (λ z. Member (take e z) found.line a.place a.level least) (tail-cut p m.value) (c.judge_member-judged.ensures.1 (c.is_new-new.ensures ∙ h)))
    c.next_place-at.result c.next_place-at.ensures l.invariant)

-- objects

pub judge_object-returns-then-level-eq0 : goal.judge_object-returns-then-level-eq0
judge_object-returns-then-level-eq0 t c = (
  c.passed.ensures.0,
  elim c.then-level-eq0.branch [
    | judge_object-then-level-eq0-via-then-level-eq0 w ↦ object_shut w.if-level-eq0.true
    | judge_object-then-level-eq0-via-else-level-eq0+then-first-gt-COUNT w ↦ object-past (omega (arith, w.if-first-gt-COUNT.true))
    | judge_object-then-level-eq0-via-else-level-eq0+else-first-gt-COUNT+then-first-count w ↦ object-past (omega (arith, w.if-first-count.true, w.if-first-gt-COUNT.false))
  ],
)

pub judge_object-returns-then-brackets-ne-OBJECT : goal.judge_object-returns-then-brackets-ne-OBJECT
judge_object-returns-then-brackets-ne-OBJECT t c =
    let a = c.args in (
      c.passed-then-brackets-ne-OBJECT.ensures.0,
      object-other a.p.now c.passed-then-brackets-ne-OBJECT.result.end a.first a.count a.field a.place a.level c.brackets.ensures c.if-brackets-ne-OBJECT.true
          (c.passed-then-brackets-ne-OBJECT.ensures.1 ∙ c.broken.ensures),
    )

pub judge_object-overflow_sub-level : goal.judge_object-overflow_sub-level
judge_object-overflow_sub-level t c =
    omega (arith, c.if-level-eq0.false)

pub judge_object-judge_members-requires : goal.judge_object-judge_members-requires
judge_object-judge_members-requires t c = (
  omega (arith, c.if-level-eq0.false),
  (c.requires.0, omega (arith, c.if-first-gt-COUNT.false, c.if-first-count.false), sym c.brackets.ensures ∙ c.if-brackets-ne-OBJECT.false, c.requires.1),
)

pub judge_object-returns : goal.judge_object-returns
judge_object-returns t c =
    let a = c.args in (
      c.judge_members.ensures.0,
      object-members a.p.now c.judge_members.result.end a.first a.count a.field a.place a.level c.brackets.ensures
          c.if-level-eq0.false c.if-brackets-ne-OBJECT.false c.judge_members.ensures.1,
    )

-- single values

pub judge_single-returns-then-row-ge-COUNT : goal.judge_single-returns-then-row-ge-COUNT
judge_single-returns-then-row-ge-COUNT t c =
    (c.passed.ensures.0, single-past c.if-row-ge-COUNT.true)

pub judge_single-judge_object-requires : goal.judge_single-judge_object-requires
judge_single-judge_object-requires t c =
    (omega arith, (c.requires.0, c.requires.1))

pub judge_single-returns-then-letter-eq-OBJECT : goal.judge_single-returns-then-letter-eq-OBJECT
judge_single-returns-then-letter-eq-OBJECT t c =
    (c.judge_object.ensures.0, single-object c.args.row.listed c.from.ensures c.if-letter-eq-OBJECT.true c.judge_object.ensures.1)

pub judge_single-returns : goal.judge_single-returns
judge_single-returns t c =
    (c.judge_plain.ensures.0, c.judge_plain.ensures.1 c.args.level c.if-letter-eq-OBJECT.false)
