-- A backslash says by itself what stands there, and so do the ranges of a character past ASCII; of the rest the class of the first byte does.
use mathlib.Core.Path.{sym, ap, ◌∙◌}
use Rattle.lexeme.specs.declared.Next.TheVariants.{Character}
use Rattle.character.proofs.Leads.{next_class, next-escape}
use Rattle.character.proofs.Said.{next-says}
use Rattle.character.proofs.next_char.Goals as goal

pub returns-then-b-eq92 : goal.returns-then-b-eq92
returns-then-b-eq92 c = next-escape _ c.first-b.ensures c.if-b-eq92.true c.escape.ensures

pub returns-in-Some : goal.returns-in-Some
returns-in-Some c = ap Character c.standing_at.ensures ∙ sym (next-says _ c.first-b.ensures c.in-Some.ensures.1)

pub returns : goal.returns
returns c = next_class _ _ c.first-b.ensures c.class_by.ensures.lead c.next_by.ensures
