-- By how many values are given, the answer is one of the three of `Giving`; where there are any, the second `put` leaves the question's own behind the parts.
use native.Mathlib.Omega.{arith}
use mathlib.Core.List.{◌++◌}
use mathlib.Core.Path.{◌∙◌}
use Prim.Native.Nat.{◌+◌, ◌-◌}
use lib.ListN.{length, drop, length-drop}
use lib.Seq.{length-take-le}
use Rattle.skaveldro.specs.Answers.{answered, gives, part_values}
use Rattle.skaveldro.proofs.Filling.{behind}
use Rattle.skaveldro.proofs.Giving.{short, bare, whole, all}
use Rattle.skaveldro.proofs.encode.give.Goals as goal

pub returns-then-lacks_room : goal.returns-then-lacks_room
unfolding answered
returns-then-lacks_room c =
    let a = c.args in
    let w = short a.buffer.now (part_values a.parts ++ a.rest.now) a.number (6 + length a.rest.now) (omega arith) (gives a.number)
    (omega (arith, c.given-written.ensures, c.if-lacks_room.true)) in
    record { value = w.0; buffer_after = w.1 }

pub returns-then-written-eq0 : goal.returns-then-written-eq0
unfolding answered
returns-then-written-eq0 c =
    let a = c.args in
    let w = bare a.buffer.now (part_values a.parts ++ a.rest.now) a.number (6 + length a.rest.now) (omega arith) (gives a.number)
    (omega arith) (omega (arith, c.given-written.ensures, c.if-written-eq0.true)) in
    record { value = w.0; buffer_after = w.1 }

pub put-requires : goal.put-requires
put-requires c =
    let a = c.args in
    let given = c.given-written.ensures ∙ all (gives a.number) (6 + length a.rest.now) (rw c.given-written.ensures at c.if-written-eq0.false) in
    rw c.part_values.ensures (omega (arith, given, c.if-lacks_room.false))

pub put-requires-2 : goal.put-requires-2
put-requires-2 c =
    let a = c.args in let b = c.put.new.buffer in
    let given = c.given-written.ensures ∙ all (gives a.number) (6 + length a.rest.now) (rw c.given-written.ensures at c.if-written-eq0.false) in
    rw (length-take-le (length b - 48) (drop 48 b) (omega (arith, length-drop 48 b)))
    (omega (arith, given, c.if-lacks_room.false, c.put.auto.buffer))

pub returns : goal.returns
unfolding answered
returns c =
    let a = c.args in
    let first = rw c.part_values.ensures at c.put.ensures in
    let w = whole a.buffer.now (part_values a.parts ++ a.rest.now) a.number (6 + length a.rest.now) (omega arith) (gives a.number)
    (rw c.given-written.ensures at c.if-written-eq0.false) (omega (arith, c.given-written.ensures, c.if-lacks_room.false)) in
    record {
      value = w.0;
      buffer_after = rw (c.put-2.ensures, first) (behind a.buffer.now (part_values a.parts) a.rest.now) ∙ w.1;
    }
