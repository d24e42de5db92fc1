-- The cycle of `value_by`, `read_array`, `read_object` and `read_member`: each meets its contract if those that it calls do. An element that is
-- left decides where the array or object ends; the class of the byte at its place decides how a value is read, and behind the colon the value
-- decides a member. The table is lent on as it came.
use borrow.Author.Rules.{rules}
use mathlib.Core.Path.{refl, sym, ap, ◌∙◌}
use native.Mathlib.Omega.{arith}
use lib.ListN.{drop}
use Rattle.lexeme.specs.inner.Class.{start_of}
use Rattle.lexeme.specs.Character.{paired}
use Rattle.lexeme.specs.Strings.{string}
use Rattle.lexeme.proofs.Placed.{faults, faults-at, passes}
use Rattle.lexeme.proofs.NumberParts.{equal-inside}
use Rattle.std.specs.Prelude.{Ok}
use Rattle.notation.proofs.Tried.{handed_on}
use Rattle.json_text.specs.Text.{expect, value}
use Rattle.json_text.proofs.Loops.{items, members, opened_closed, opened_pending, pending_stops, pending_ends, pending_continues}
use Rattle.json_text.proofs.Values.{begins, begins-inside, no_start, value-quoted, value-string, value-number, array-deep, object-deep, array_opened, object_opened, value-true, value-false, value-null, value_none, member_unnamed, member-wrong, member-value}
use Rattle.json_text.proofs.reader.+read_array_read_member_read_object_value_by.Goals as goal

-- arrays

pub read_array-overflow_add-result : goal.read_array-overflow_add-result
read_array-overflow_add-result t c = omega (arith, equal-inside 0x5d refl c.args.s.now c.skip_blanks_by-i.result (sym c.first.ensures ∙ c.if-first-eq93.true))

pub read_array-returns-then-first-eq93 : goal.read_array-returns-then-first-eq93
read_array-returns-then-first-eq93 t c = opened_closed 0x5d _ c.args.s.now c.args.at c.skip_blanks_by-i.ensures c.first.ensures refl c.if-first-eq93.true

pub read_array-loop-end-init : goal.read_array-loop-end-init
read_array-loop-end-init t c = opened_pending 0x5d _ c.args.s.now c.args.at c.skip_blanks_by-i.ensures c.first.ensures (items c.args.levels) c.if-first-eq93.false

pub read_array-value_by-element-requires : goal.read_array-value_by-element-requires
read_array-value_by-element-requires t c = (omega arith, search rules)

pub read_array-returns-in_err-end : goal.read_array-returns-in_err-end
read_array-returns-in_err-end t c =
    handed_on _ _ c.from_residual.ensures.1
    ∙ pending_stops (items _) c.loop-end.invariant _ _ c.value_by-element.ensures (sym c.in_err-end.was ∙ c.after_element.ensures)

pub read_array-returns-in-Closed : goal.read_array-returns-in-Closed
read_array-returns-in-Closed t c =
    pending_ends (items _) c.loop-end.invariant _ _ c.value_by-element.ensures
    (sym (c.in_ok-end.was ∙ ap Ok c.in-Closed.is) ∙ c.after_element.ensures)

pub read_array-loop-end-smaller : goal.read_array-loop-end-smaller
read_array-loop-end-smaller t c =
    let o = pending_continues (items _) c.loop-end.invariant _ _ c.value_by-element.ensures
    (sym (c.in_ok-end.was ∙ ap Ok c.in-Next.is) ∙ c.after_element.ensures) in
    omega (arith, o.0, o.1.upto)

pub read_array-loop-end-preserved : goal.read_array-loop-end-preserved
read_array-loop-end-preserved t c = (pending_continues (items _) c.loop-end.invariant _ _ c.value_by-element.ensures
    (sym (c.in_ok-end.was ∙ ap Ok c.in-Next.is) ∙ c.after_element.ensures)).1

-- objects

pub read_object-overflow_add-result : goal.read_object-overflow_add-result
read_object-overflow_add-result t c = omega (arith, equal-inside 0x7d refl c.args.s.now c.skip_blanks_by-i.result (sym c.first.ensures ∙ c.if-first-eq125.true))

pub read_object-returns-then-first-eq125 : goal.read_object-returns-then-first-eq125
read_object-returns-then-first-eq125 t c = opened_closed 0x7d _ c.args.s.now c.args.at c.skip_blanks_by-i.ensures c.first.ensures refl c.if-first-eq125.true

pub read_object-loop-end-init : goal.read_object-loop-end-init
read_object-loop-end-init t c = opened_pending 0x7d _ c.args.s.now c.args.at c.skip_blanks_by-i.ensures c.first.ensures (members c.args.levels) c.if-first-eq125.false

pub read_object-read_member-element-requires : goal.read_object-read_member-element-requires
read_object-read_member-element-requires t c = (omega arith, search rules)

pub read_object-returns-in_err-end : goal.read_object-returns-in_err-end
read_object-returns-in_err-end t c =
    handed_on _ _ c.from_residual.ensures.1
    ∙ pending_stops (members _) c.loop-end.invariant _ _ c.read_member-element.ensures (sym c.in_err-end.was ∙ c.after_element.ensures)

pub read_object-returns-in-Closed : goal.read_object-returns-in-Closed
read_object-returns-in-Closed t c =
    pending_ends (members _) c.loop-end.invariant _ _ c.read_member-element.ensures
    (sym (c.in_ok-end.was ∙ ap Ok c.in-Closed.is) ∙ c.after_element.ensures)

pub read_object-loop-end-smaller : goal.read_object-loop-end-smaller
read_object-loop-end-smaller t c =
    let o = pending_continues (members _) c.loop-end.invariant _ _ c.read_member-element.ensures
    (sym (c.in_ok-end.was ∙ ap Ok c.in-Next.is) ∙ c.after_element.ensures) in
    omega (arith, o.0, o.1.upto)

pub read_object-loop-end-preserved : goal.read_object-loop-end-preserved
read_object-loop-end-preserved t c = (pending_continues (members _) c.loop-end.invariant _ _ c.read_member-element.ensures
    (sym (c.in_ok-end.was ∙ ap Ok c.in-Next.is) ∙ c.after_element.ensures)).1

-- a member: behind the colon the value decides it, and its end or its fault is the member's

pub read_member-returns-in_err-name_end : goal.read_member-returns-in_err-name_end
read_member-returns-in_err-name_end t c =
    let a = c.args in let s = a.s.now in
    handed_on _ _ c.from_residual.ensures.1
    ∙ passes s _ (expect 0x22 (string paired 0) (drop a.at s)) _ (sym c.in_err-name_end.was ∙ c.string_by.ensures)
    (member_unnamed (value paired a.levels) (drop a.at s) _)

pub read_member-returns-then-first-ne58 : goal.read_member-returns-then-first-ne58
read_member-returns-then-first-ne58 t c =
    member-wrong _ c.args.s.now c.args.at (sym c.in_ok-name_end.was ∙ c.string_by.ensures) c.skip_blanks_by-i.ensures c.first.ensures c.if-first-ne58.true

pub read_member-overflow_add-i : goal.read_member-overflow_add-i
read_member-overflow_add-i t c = omega (arith, equal-inside 0x3a refl c.args.s.now c.skip_blanks_by-i.result (sym c.first.ensures ∙ c.if-first-ne58.false))

pub read_member-returns-in_ok-end-in-14 : goal.read_member-returns-in_ok-end-in-14
unfolding start_of
read_member-returns-in_ok-end-in-14 t c =
    sym c.in_ok-end-in-14.was ∙ c.string_by-in-14.ensures
    ∙ value-quoted _ (begins c.args.s.now c.skip_blanks_by-value.result c.first-2.ensures c.class_by.ensures c.in-14.is)
    ∙ member-value _ c.args.s.now c.args.at (sym c.in_ok-name_end.was ∙ c.string_by.ensures) c.skip_blanks_by-i.ensures c.first.ensures c.if-first-ne58.false c.skip_blanks_by-value.ensures

pub read_member-returns-in_err-end-in-14 : goal.read_member-returns-in_err-end-in-14
unfolding start_of
read_member-returns-in_err-end-in-14 t c =
    handed_on _ _ c.from_residual-in_err-end-in-14.ensures.1 ∙ sym c.in_err-end-in-14.was ∙ c.string_by-in-14.ensures
    ∙ value-quoted _ (begins c.args.s.now c.skip_blanks_by-value.result c.first-2.ensures c.class_by.ensures c.in-14.is)
    ∙ member-value _ c.args.s.now c.args.at (sym c.in_ok-name_end.was ∙ c.string_by.ensures) c.skip_blanks_by-i.ensures c.first.ensures c.if-first-ne58.false c.skip_blanks_by-value.ensures

pub read_member-returns-in_ok-end-in-2 : goal.read_member-returns-in_ok-end-in-2
unfolding start_of
read_member-returns-in_ok-end-in-2 t c =
    sym c.in_ok-end-in-2.was ∙ c.read_number.ensures
    ∙ sym (value-number _ (begins c.args.s.now c.skip_blanks_by-value.result c.first-2.ensures c.class_by.ensures c.in-2.is))
    ∙ member-value _ c.args.s.now c.args.at (sym c.in_ok-name_end.was ∙ c.string_by.ensures) c.skip_blanks_by-i.ensures c.first.ensures c.if-first-ne58.false c.skip_blanks_by-value.ensures

pub read_member-returns-in_err-end-in-2 : goal.read_member-returns-in_err-end-in-2
unfolding start_of
read_member-returns-in_err-end-in-2 t c =
    handed_on _ _ c.from_residual-in_err-end-in-2.ensures.1 ∙ sym c.in_err-end-in-2.was ∙ c.read_number.ensures
    ∙ sym (value-number _ (begins c.args.s.now c.skip_blanks_by-value.result c.first-2.ensures c.class_by.ensures c.in-2.is))
    ∙ member-value _ c.args.s.now c.args.at (sym c.in_ok-name_end.was ∙ c.string_by.ensures) c.skip_blanks_by-i.ensures c.first.ensures c.if-first-ne58.false c.skip_blanks_by-value.ensures

pub read_member-value_by-requires : goal.read_member-value_by-requires
read_member-value_by-requires t c = (omega arith, search rules)

pub read_member-returns-in_ok-end-in_default : goal.read_member-returns-in_ok-end-in_default
read_member-returns-in_ok-end-in_default t c =
    sym c.in_ok-end-in_default.was ∙ c.value_by.ensures
    ∙ member-value _ c.args.s.now c.args.at (sym c.in_ok-name_end.was ∙ c.string_by.ensures) c.skip_blanks_by-i.ensures c.first.ensures c.if-first-ne58.false c.skip_blanks_by-value.ensures

pub read_member-returns-in_err-end-in_default : goal.read_member-returns-in_err-end-in_default
read_member-returns-in_err-end-in_default t c =
    handed_on _ _ c.from_residual-in_err-end-in_default.ensures.1 ∙ sym c.in_err-end-in_default.was ∙ c.value_by.ensures
    ∙ member-value _ c.args.s.now c.args.at (sym c.in_ok-name_end.was ∙ c.string_by.ensures) c.skip_blanks_by-i.ensures c.first.ensures c.if-first-ne58.false c.skip_blanks_by-value.ensures

-- a value, by the class of the byte at its place: its end or its fault is what the reader of that class answers

pub value_by-returns-in_ok-end-in-2 : goal.value_by-returns-in_ok-end-in-2
unfolding start_of
value_by-returns-in_ok-end-in-2 t c = sym c.in_ok-end-in-2.was ∙ c.read_number.ensures ∙ sym (value-number _ (begins c.args.s.now c.args.at c.first.ensures c.class_by.ensures c.in-2.is))

pub value_by-returns-in_err-end-in-2 : goal.value_by-returns-in_err-end-in-2
unfolding start_of
value_by-returns-in_err-end-in-2 t c = handed_on _ _ c.from_residual.ensures.1 ∙ sym c.in_err-end-in-2.was ∙ c.read_number.ensures ∙ sym (value-number _ (begins c.args.s.now c.args.at c.first.ensures c.class_by.ensures c.in-2.is))

pub value_by-returns-then-levels-eq0 : goal.value_by-returns-then-levels-eq0
unfolding start_of
value_by-returns-then-levels-eq0 t c =
    let b = begins c.args.s.now c.args.at c.first.ensures c.class_by.ensures c.in-4.is in
    faults-at c.args.s.now c.args.at _ (omega (arith, begins-inside b refl)) _ (array-deep c.args.levels b c.if-levels-eq0.true)

pub value_by-overflow_add-at : goal.value_by-overflow_add-at
unfolding start_of
value_by-overflow_add-at t c = omega (arith, begins-inside (begins c.args.s.now c.args.at c.first.ensures c.class_by.ensures c.in-4.is) refl)

pub value_by-read_array-requires : goal.value_by-read_array-requires
value_by-read_array-requires t c = (omega arith, search rules)

pub value_by-returns-in_ok-end-in-4 : goal.value_by-returns-in_ok-end-in-4
unfolding start_of
value_by-returns-in_ok-end-in-4 t c = sym c.in_ok-end-in-4.was ∙ c.read_array.ensures ∙ sym (array_opened _ (begins c.args.s.now c.args.at c.first.ensures c.class_by.ensures c.in-4.is) c.if-levels-eq0.false)

pub value_by-returns-in_err-end-in-4 : goal.value_by-returns-in_err-end-in-4
unfolding start_of
value_by-returns-in_err-end-in-4 t c = handed_on _ _ c.from_residual-in_err-end-in-4.ensures.1 ∙ sym c.in_err-end-in-4.was ∙ c.read_array.ensures ∙ sym (array_opened _ (begins c.args.s.now c.args.at c.first.ensures c.class_by.ensures c.in-4.is) c.if-levels-eq0.false)

pub value_by-returns-then-levels-eq0-2 : goal.value_by-returns-then-levels-eq0-2
unfolding start_of
value_by-returns-then-levels-eq0-2 t c =
    let b = begins c.args.s.now c.args.at c.first.ensures c.class_by.ensures c.in-6.is in
    faults-at c.args.s.now c.args.at _ (omega (arith, begins-inside b refl)) _ (object-deep c.args.levels b c.if-levels-eq0-2.true)

pub value_by-overflow_add-at-in-6 : goal.value_by-overflow_add-at-in-6
unfolding start_of
value_by-overflow_add-at-in-6 t c = omega (arith, begins-inside (begins c.args.s.now c.args.at c.first.ensures c.class_by.ensures c.in-6.is) refl)

pub value_by-read_object-requires : goal.value_by-read_object-requires
value_by-read_object-requires t c = (omega arith, search rules)

pub value_by-returns-in_ok-end-in-6 : goal.value_by-returns-in_ok-end-in-6
unfolding start_of
value_by-returns-in_ok-end-in-6 t c = sym c.in_ok-end-in-6.was ∙ c.read_object.ensures ∙ sym (object_opened _ (begins c.args.s.now c.args.at c.first.ensures c.class_by.ensures c.in-6.is) c.if-levels-eq0-2.false)

pub value_by-returns-in_err-end-in-6 : goal.value_by-returns-in_err-end-in-6
unfolding start_of
value_by-returns-in_err-end-in-6 t c = handed_on _ _ c.from_residual-in_err-end-in-6.ensures.1 ∙ sym c.in_err-end-in-6.was ∙ c.read_object.ensures ∙ sym (object_opened _ (begins c.args.s.now c.args.at c.first.ensures c.class_by.ensures c.in-6.is) c.if-levels-eq0-2.false)

pub value_by-returns-in_ok-end-in-8 : goal.value_by-returns-in_ok-end-in-8
unfolding start_of
value_by-returns-in_ok-end-in-8 t c = sym c.in_ok-end-in-8.was ∙ c.read_literal.ensures ∙ sym (value-true _ (begins c.args.s.now c.args.at c.first.ensures c.class_by.ensures c.in-8.is))

pub value_by-returns-in_err-end-in-8 : goal.value_by-returns-in_err-end-in-8
unfolding start_of
value_by-returns-in_err-end-in-8 t c = handed_on _ _ c.from_residual-in_err-end-in-8.ensures.1 ∙ sym c.in_err-end-in-8.was ∙ c.read_literal.ensures ∙ sym (value-true _ (begins c.args.s.now c.args.at c.first.ensures c.class_by.ensures c.in-8.is))

pub value_by-returns-in_ok-end-in-10 : goal.value_by-returns-in_ok-end-in-10
unfolding start_of
value_by-returns-in_ok-end-in-10 t c = sym c.in_ok-end-in-10.was ∙ c.read_literal-in-10.ensures ∙ sym (value-false _ (begins c.args.s.now c.args.at c.first.ensures c.class_by.ensures c.in-10.is))

pub value_by-returns-in_err-end-in-10 : goal.value_by-returns-in_err-end-in-10
unfolding start_of
value_by-returns-in_err-end-in-10 t c = handed_on _ _ c.from_residual-in_err-end-in-10.ensures.1 ∙ sym c.in_err-end-in-10.was ∙ c.read_literal-in-10.ensures ∙ sym (value-false _ (begins c.args.s.now c.args.at c.first.ensures c.class_by.ensures c.in-10.is))

pub value_by-returns-in_ok-end-in-12 : goal.value_by-returns-in_ok-end-in-12
unfolding start_of
value_by-returns-in_ok-end-in-12 t c = sym c.in_ok-end-in-12.was ∙ c.read_literal-in-12.ensures ∙ sym (value-null _ (begins c.args.s.now c.args.at c.first.ensures c.class_by.ensures c.in-12.is))

pub value_by-returns-in_err-end-in-12 : goal.value_by-returns-in_err-end-in-12
unfolding start_of
value_by-returns-in_err-end-in-12 t c = handed_on _ _ c.from_residual-in_err-end-in-12.ensures.1 ∙ sym c.in_err-end-in-12.was ∙ c.read_literal-in-12.ensures ∙ sym (value-null _ (begins c.args.s.now c.args.at c.first.ensures c.class_by.ensures c.in-12.is))

pub value_by-overflow_add-at-in-14 : goal.value_by-overflow_add-at-in-14
unfolding start_of
value_by-overflow_add-at-in-14 t c = omega (arith, begins-inside (begins c.args.s.now c.args.at c.first.ensures c.class_by.ensures c.in-14.is) refl)

pub value_by-returns-in_ok-end-in-14 : goal.value_by-returns-in_ok-end-in-14
unfolding start_of
value_by-returns-in_ok-end-in-14 t c = sym c.in_ok-end-in-14.was ∙ c.read_string.ensures ∙ sym (value-string _ (begins c.args.s.now c.args.at c.first.ensures c.class_by.ensures c.in-14.is))

pub value_by-returns-in_err-end-in-14 : goal.value_by-returns-in_err-end-in-14
unfolding start_of
value_by-returns-in_err-end-in-14 t c = handed_on _ _ c.from_residual-in_err-end-in-14.ensures.1 ∙ sym c.in_err-end-in-14.was ∙ c.read_string.ensures ∙ sym (value-string _ (begins c.args.s.now c.args.at c.first.ensures c.class_by.ensures c.in-14.is))

pub value_by-returns-in_default : goal.value_by-returns-in_default
value_by-returns-in_default t c =
    let a = c.args in let s = a.s.now in
    faults s (drop a.at s) _ _ c.place.ensures _
    (value_none a.levels (drop a.at s)
    ((begins s a.at c.first.ensures c.class_by.ensures refl).says
    ∙ no_start c.class_by.result (search rules) (search rules) (search rules) (search rules) (search rules) (search rules) (search rules)))
