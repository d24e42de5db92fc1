-- What is left of a string decides where it ends: a plain byte, an escape or a character leaves that as it is, and the quote, a fault
-- or the end of the text tells it. A character lies within the text, so each turn leaves less of it.
use mathlib.Core.Path.{◌≡◌, sym, ap, ◌∙◌}
use Prim.Native.Nat.{◌+◌}
use native.Mathlib.Omega.{arith}
use Rattle.lexeme.specs.Character.Surrogates.{paired}
use Rattle.lexeme.proofs.Rests.{first_byte}
use Rattle.character.proofs.Leads.{next_class}
use Rattle.json_text.proofs.StringEnds.{end-from, at-end, at-escape, at-quote, at_closing, at-fault, at-character, at_plain}
use Rattle.json_text.proofs.strings.read_string.Goals as goal

pub returns-in-Quote : goal.returns-in-Quote
returns-in-Quote c =
    at-quote paired c.args.s.now c.loop-i.i (omega arith)
    (sym (next_class _ _ (first_byte c.args.s.now c.loop-i.i) c.class_by-class.ensures.lead c.next_by.ensures) ∙ c.in-Quote.is)
    ∙ c.loop-i.invariant

pub loop-i-preserved-then-class-lt-QUOTE : goal.loop-i-preserved-then-class-lt-QUOTE
loop-i-preserved-then-class-lt-QUOTE c = at_plain paired c.args.s.now c.loop-i.i (omega arith) _ c.class_by-class.ensures.lead (omega arith) ∙ c.loop-i.invariant

pub returns-then-class-eq-QUOTE : goal.returns-then-class-eq-QUOTE
returns-then-class-eq-QUOTE c = at_closing paired c.args.s.now c.loop-i.i (omega arith) _ c.class_by-class.ensures.lead c.if-class-eq-QUOTE.true ∙ c.loop-i.invariant

pub overflow_add-i-in-Some : goal.overflow_add-i-in-Some
overflow_add-i-in-Some c = omega (arith, (at-escape paired c.args.s.now c.loop-i.i (omega arith) _ _ c.class_by-class.ensures.lead c.in-Some.ensures).inside)

pub loop-i-smaller-in-Some : goal.loop-i-smaller-in-Some
loop-i-smaller-in-Some c = let e = at-escape paired c.args.s.now c.loop-i.i (omega arith) _ _ c.class_by-class.ensures.lead c.in-Some.ensures in omega (arith, e.inside, e.some)

pub loop-i-preserved-in-Some : goal.loop-i-preserved-in-Some
loop-i-preserved-in-Some c = (at-escape paired c.args.s.now c.loop-i.i (omega arith) _ _ c.class_by-class.ensures.lead c.in-Some.ensures).ends ∙ c.loop-i.invariant

pub overflow_add-result-in-Fault : goal.overflow_add-result-in-Fault
overflow_add-result-in-Fault c = omega (arith, (at-fault paired c.args.s.now c.loop-i.i (omega arith) _ _ (sym (next_class _ _ (first_byte c.args.s.now c.loop-i.i) c.class_by-class.ensures.lead c.next_by.ensures) ∙ c.in-Fault.is)).inside)

pub returns-in-Fault : goal.returns-in-Fault
returns-in-Fault c = (at-fault paired c.args.s.now c.loop-i.i (omega arith) _ _ (sym (next_class _ _ (first_byte c.args.s.now c.loop-i.i) c.class_by-class.ensures.lead c.next_by.ensures) ∙ c.in-Fault.is)).ends ∙ c.loop-i.invariant

pub overflow_add-i-in-Character : goal.overflow_add-i-in-Character
overflow_add-i-in-Character c = omega (arith, (at-character paired c.args.s.now c.loop-i.i (omega arith) _ (sym (next_class _ _ (first_byte c.args.s.now c.loop-i.i) c.class_by-class.ensures.lead c.next_by.ensures) ∙ c.in-Character.is)).inside)

pub overflow_add-i-in-Character-2 : goal.overflow_add-i-in-Character-2
overflow_add-i-in-Character-2 c = omega (arith, (at-character paired c.args.s.now c.loop-i.i (omega arith) _ (sym (next_class _ _ (first_byte c.args.s.now c.loop-i.i) c.class_by-class.ensures.lead c.next_by.ensures) ∙ c.in-Character.is)).inside)

pub loop-i-smaller : goal.loop-i-smaller
loop-i-smaller c = omega (arith, (at-character paired c.args.s.now c.loop-i.i (omega arith) _ (sym (next_class _ _ (first_byte c.args.s.now c.loop-i.i) c.class_by-class.ensures.lead c.next_by.ensures) ∙ c.in-Character.is)).inside)

pub loop-i-preserved : goal.loop-i-preserved
loop-i-preserved c =
    let i = c.loop-i.i in let x = c.in-Character.x in
    let z : i + (1 + x.more) ≡ i + 1 + x.more = omega arith in
    ap (end-from paired c.args.s.now) z ∙ (at-character paired c.args.s.now c.loop-i.i (omega arith) _ (sym (next_class _ _ (first_byte c.args.s.now c.loop-i.i) c.class_by-class.ensures.lead c.next_by.ensures) ∙ c.in-Character.is)).ends ∙ c.loop-i.invariant

pub returns : goal.returns
returns c = at-end paired c.args.s.now c.loop-i.i (omega arith) ∙ c.loop-i.invariant
