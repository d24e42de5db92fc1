-- `row_of` walks the rows' lines. What has no number is no line's name. The loop's invariant: from this line on the search comes to what it comes to from the
-- first, and the line is that of the row that is looked at.
use borrow.Author.Rules.{rules}
use mathlib.Core.Path.{◌≡◌, sym, ap, ◌∙◌}
use Prim.Native.Nat.{◌+◌}
use native.Mathlib.Omega.{arith}
use Rattle.text.specs.Text.{text_of}
use Rattle.schema.specs.inner.Line.{line_at}
use Rattle.schema.specs.Tables.{sheets}
use Rattle.schema.proofs.Computed.{line-count}
use Rattle.slots.proofs.Named.{row_from, row-full, row-past, row_here, row_next, unnumbered_row, numbered-row, row-line-first, row-line-next}
use Rattle.slots.proofs.row_of.Goals as goal

pub returns-then-number-lt1 : goal.returns-then-number-lt1
returns-then-number-lt1 c =
    let a = c.args in
    record {
      named = unnumbered_row (text_of a.spelled.now) c.name_number-number.ensures a.first a.count c.if-number-lt1.true;
      few = omega arith;
      line = λ h. absurd (omega arith);
    }

pub loop-row-init : goal.loop-row-init
loop-row-init c =
    let a = c.args in
    (c.lines_end-end.ensures, ap (λ e. row_from sheets (text_of a.spelled.now) e 0 a.first) c.lines_end-end.ensures, sym (row-line-first sheets a.first))

pub returns-then-has_name : goal.returns-then-has_name
returns-then-has_name c =
    let same_name = numbered-row (text_of c.args.spelled.now) c.name_number-number.ensures c.loop-row.i c.if-number-lt1.false (omega arith) c.has_name.ensures in
    record {
      named = row_here sheets _ _ _ _ (omega arith) (omega arith) (same_name ∙ c.if-has_name.true) ∙ c.loop-row.invariant.1;
      few = omega arith;
      line = λ h. c.loop-row.invariant.2;
    }

pub loop-row-preserved : goal.loop-row-preserved
loop-row-preserved c =
    let i = c.loop-row.i in let row = c.loop-row.row in let x = text_of c.args.spelled.now in let end = c.lines_end-end.result in
    let other_name = numbered-row x c.name_number-number.ensures i c.if-number-lt1.false (omega arith) c.has_name.ensures in
    let e : c.from.result ≡ (line_at sheets i).inside = c.from.ensures ∙ c.inside_at.ensures in (
      c.loop-row.invariant.0,
      ap (λ j. row_from sheets x end (row + 1) (i + 1 + j)) e
          ∙ row_next sheets x end row i (omega arith) (omega arith) (other_name ∙ c.if-has_name.false) ∙ c.loop-row.invariant.1,
      ap (λ j. i + 1 + j) e ∙ ap (λ j. j + 1 + (line_at sheets j).inside) c.loop-row.invariant.2 ∙ sym (row-line-next sheets c.args.first row),
    )

pub returns-then-end-i : goal.returns-then-end-i
returns-then-end-i c =
    record { named = row-past sheets _ _ _ _ c.if-end-i.true ∙ c.loop-row.invariant.1; few = omega arith; line = λ h. absurd (omega arith) }

pub returns-after-loop-row : goal.returns-after-loop-row
returns-after-loop-row c =
    record { named = row-full sheets _ _ _ _ c.loop-row-test.false ∙ c.loop-row.invariant.1; few = omega arith; line = λ h. absurd (omega arith) }

pub has_name-requires : goal.has_name-requires
has_name-requires c = (search rules, omega (arith, line-count))

pub inside_at-requires : goal.inside_at-requires
inside_at-requires c = (search rules, omega (arith, line-count))
