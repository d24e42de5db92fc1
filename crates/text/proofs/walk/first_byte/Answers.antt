-- A byte that stands for itself is the first, an escape stands for its byte, a character begins with its own first byte, and at the end, a quote or a fault there is none.
use mathlib.Core.Path.{◌≡◌, refl, sym, ◌∙◌}
use lib.ListN.{drop}
use Rattle.lexeme.specs.declared.Next.TheVariants.{Character}
use Rattle.lexeme.specs.Character.{next}
use Rattle.lexeme.specs.Character.Surrogates.{paired}
use Rattle.character.proofs.Inside.{character-inside}
use Rattle.text.proofs.Decoding.{text-end, text-none, left-plain, left-escaped, left-character, step_end, step-byte}
use Rattle.text.proofs.Seeing.{quote-here}
use native.Mathlib.Omega.{arith}
use Rattle.text.proofs.walk.first_byte.Goals as goal

pub returns-then-s-at : goal.returns-then-s-at
returns-then-s-at c = let q = c.args in step_end q.s.now (text-end q.s.now q.at c.if-s-at.true)

pub returns-then-is_plain : goal.returns-then-is_plain
returns-then-is_plain c =
    let q = c.args in let s = q.s.now in let i = q.at in let h = c.if-s-at.false in
    step-byte s _ (left-plain s i h _ (sym c.is_plain.ensures ∙ c.if-is_plain.true) c.cursor_at.ensures)

pub returns-then-s-at-eq34 : goal.returns-then-s-at-eq34
returns-then-s-at-eq34 c =
    let q = c.args in let s = q.s.now in let i = q.at in let h = c.if-s-at.false in
    step_end s (quote-here s i h c.if-s-at-eq34.true)

pub returns-then-b-lt128 : goal.returns-then-b-lt128
returns-then-b-lt128 c =
    let q = c.args in let s = q.s.now in let i = q.at in let h = c.if-s-at.false in
    step-byte s _ (left-escaped s i h _ _ (c.escaped-b.ensures c.if-b-lt128.true) c.cursor_at-then-b-lt128.ensures)

pub returns-in_default : goal.returns-in_default
returns-in_default c =
    let q = c.args in step_end q.s.now (text-none (drop q.at q.s.now) _ c.next_char.ensures c.in_default.not-Character)

pub overflow_add-result-2 : goal.overflow_add-result-2
overflow_add-result-2 c =
    let q = c.args in let s = q.s.now in let i = q.at in let h = c.if-s-at.false in
    let x = c.in-Character.x in let e : next paired (drop i s) ≡ Character x = sym c.next_char.ensures ∙ c.in-Character.is in
    omega (arith, character-inside paired s i h x e)

pub returns : goal.returns
returns c =
    let q = c.args in let s = q.s.now in let i = q.at in let h = c.if-s-at.false in
    let x = c.in-Character.x in let e : next paired (drop i s) ≡ Character x = sym c.next_char.ensures ∙ c.in-Character.is in
    step-byte s _ (left-character s i h x _ e c.tail.ensures refl)
