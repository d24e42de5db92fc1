-- `read_fraction` reads a fraction where a point stands, and then, or where none stands, the exponent.
use Prim.Native.Nat.{◌+◌}
use mathlib.Core.Path.{refl, sym, ◌∙◌}
use native.Mathlib.Omega.{arith}
use lib.ListN.{drop}
use Rattle.lexeme.specs.Numbers.{some_digits}
use Rattle.lexeme.proofs.Placed.{passes, lands}
use Rattle.lexeme.proofs.NumberParts.{equal-inside, some_leaves, fraction-none, fraction-bad, fraction-done}
use Rattle.notation.proofs.Tried.{handed_on}
use Rattle.lexeme.proofs.number.read_fraction.Goals as goal

pub returns-in_err-next : goal.returns-in_err-next
returns-in_err-next c =
    let a = c.args in let s = a.s.now in
    handed_on _ _ c.from_residual.ensures.1 ∙ passes s _ (some_digits (drop (a.at + 1) s)) _ (sym c.in_err-next.was ∙ c.read_digits.ensures)
    (fraction-bad s a.at (sym c.first.ensures ∙ c.if-first-ne46.false) _)

pub returns : goal.returns
returns c =
    let a = c.args in let s = a.s.now in
    let d = lands some_digits s (a.at + 1) _ some_leaves (sym c.in_ok-next.was ∙ c.read_digits.ensures) in
    c.read_exponent-2.ensures ∙ sym (fraction-done s a.at (sym c.first.ensures ∙ c.if-first-ne46.false) _ _ d.reads)

pub returns-then-first-ne46 : goal.returns-then-first-ne46
returns-then-first-ne46 c = let a = c.args in
    c.read_exponent.ensures ∙ sym (fraction-none a.s.now a.at (λ z. c.if-first-ne46.true (c.first.ensures ∙ z)))

pub overflow_add-at : goal.overflow_add-at
overflow_add-at c = let a = c.args in
    omega (arith, equal-inside 0x2e refl a.s.now a.at (sym c.first.ensures ∙ c.if-first-ne46.false))
