-- A character that was begun has the next byte, or else the spelling that follows has it.
use mathlib.Core.Path.{refl, ◌∙◌}
use native.Mathlib.Omega.{arith}
use Rattle.text.specs.declared.Cursor.{Cursor}
use Rattle.text.proofs.Decoding.{left-none, left-begun, step-byte}
use Rattle.text.proofs.walk.next_byte.Goals as goal

pub returns-then-x-gt0 : goal.returns-then-x-gt0
returns-then-x-gt0 c =
    let q = c.args in
    let d : Cursor = record { begun = c.tail.result; at = q.c.at } in
    step-byte q.s.now d (left-begun q.s.now q.c d (omega arith) c.tail.ensures refl)

pub returns : goal.returns
returns c = let q = c.args in c.first_byte.ensures ∙ left-none q.s.now q.c (omega arith)
