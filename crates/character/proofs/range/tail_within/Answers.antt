-- The class of the byte lies between the two just where the byte lies between theirs.
use mathlib.Core.Path.{ap, ◌∙◌}
use borrow.Author.Tests.{lt-leb}
use Rattle.lexeme.specs.Character.{within}
use Rattle.lexeme.specs.inner.Class.{least_of, most_of}
use Rattle.character.proofs.Ranges.{within-rest, within_low}
use Rattle.character.proofs.range.tail_within.Goals as goal

pub returns-then-lo-class : goal.returns-then-lo-class
returns-then-lo-class c = within-rest _ _ _ c.if-lo-class.true
    ∙ c.class_by-class.ensures.tail c.args.lo c.args.hi c.requires.1 ∙ ap (within (least_of c.args.lo) (most_of c.args.hi)) c.byte_at.ensures

pub returns-else-lo-class : goal.returns-else-lo-class
returns-else-lo-class c =
    rw (lt-leb _ _ c.if-lo-class.false) (within_low _ _ _ c.if-lo-class.false
    ∙ c.class_by-class.ensures.tail c.args.lo c.args.hi c.requires.1 ∙ ap (within (least_of c.args.lo) (most_of c.args.hi)) c.byte_at.ensures)
