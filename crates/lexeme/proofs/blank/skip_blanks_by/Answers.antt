-- `skip_blanks_by` ends where the blanks do, a byte's class telling whether it is one: the loop's invariant is that past them the text is the same from each of
-- them on.
use mathlib.Core.Path.{sym, ◌∙◌}
use native.Mathlib.Omega.{arith}
use Rattle.lexeme.specs.Tokens.{blank}
use Rattle.lexeme.proofs.Spans.{run_next, run_stops, run_ends, blanks-past}
use Rattle.lexeme.proofs.blank.skip_blanks_by.Goals as goal

pub loop-i-init : goal.loop-i-init
loop-i-init c = sym (blanks-past _)

pub returns-then-not-is_blank_class : goal.returns-then-not-is_blank_class
returns-then-not-is_blank_class c = run_stops blank _ c.loop-i.i c.loop-i.invariant (omega arith) (c.is_blank_class.ensures ∙ c.class_by.ensures.blank) c.if-not-is_blank_class.true

pub loop-i-preserved : goal.loop-i-preserved
loop-i-preserved c = run_next blank _ c.loop-i.i c.loop-i.invariant (omega arith) (c.is_blank_class.ensures ∙ c.class_by.ensures.blank) c.if-not-is_blank_class.false

pub returns : goal.returns
returns c = run_ends blank _ c.loop-i.i c.loop-i.invariant (omega arith)
