-- The bytes in the array and those that are left stay the whole text. The loop ends where as many are read as were asked for, or where none is left.
use mathlib.Core.Path.{◌≡◌, refl}
use native.Mathlib.Omega.{arith}
use Rattle.text.proofs.Decoding.{no_byte, one_byte}
use Rattle.text.proofs.Filling.{filled_none, filled_next, ended-length, fronted, take_more, drop_more}
use Rattle.text.proofs.walk.read_front.Goals as goal

pub loop-count-init : goal.loop-count-init
loop-count-init c = (omega arith, filled_none _ _ refl)

pub returns-in_default : goal.returns-in_default
returns-in_default c =
    let a = c.args in
    let i = c.loop-count.invariant in
    let l = ended-length i.1 (no_byte _ _ c.next_byte.ensures c.in_default.is) in
    fronted _ i.1 (take_more _ c.loop-count.count a.most l i.0) (drop_more _ c.loop-count.count a.most l i.0)

pub loop-count-preserved : goal.loop-count-preserved
loop-count-preserved c =
    let m = c.requires in
    let i = c.loop-count.invariant in
    let t = c.loop-count-test.true in
    (omega arith, filled_next (omega arith) i.1 (one_byte _ _ _ _ c.next_byte.ensures c.in-Some.is))

pub returns : goal.returns
returns c =
    let a = c.args in
    let i = c.loop-count.invariant in
    let n : c.loop-count.count ≡ a.most = omega (arith, i.0, c.loop-count-test.false) in
    fronted _ (rw n at i.1) refl refl
