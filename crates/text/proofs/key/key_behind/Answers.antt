-- What is left behind the bytes that are still to be passed is what follows them all.
use mathlib.Core.Path.{◌≡◌, sym, ap, ◌∙◌}
use Prim.Native.Nat.{suc, ◌+◌, ◌-◌}
use lib.ListN.{drop}
use Rattle.text.specs.inner.Key.{key_of}
use Rattle.text.specs.inner.Walk.{left}
use Rattle.text.proofs.Decoding.{no_byte, one_byte}
use Rattle.text.proofs.Fronts.{drop-next}
use Rattle.text.proofs.Keys.{key-past, room-start}
use native.Mathlib.Omega.{arith}
use Rattle.text.proofs.key.key_behind.Goals as goal

pub returns-in_default : goal.returns-in_default
returns-in_default c =
    let l = c.loop in key-past (c.args.skip - l.counter) (no_byte _ _ c.next_byte.ensures c.in_default.is) ∙ ap key_of l.invariant

pub loop-preserved : goal.loop-preserved
loop-preserved c =
    let l = c.loop in let m = c.args.skip - (l.counter + 1) in let e : c.args.skip - l.counter ≡ suc m = omega (arith, c.loop-test.true) in
    sym (drop-next (c.args.skip - l.counter) m e (one_byte _ _ _ _ c.next_byte.ensures c.in-Some.is)) ∙ l.invariant

pub returns : goal.returns
returns c =
    let l = c.loop in let z : 0 ≡ c.args.skip - l.counter = omega (arith, c.loop-test.false) in
    c.key_left.ensures ∙ ap (λ k. key_of (drop k (left c.args.s.now l.after))) z ∙ ap key_of l.invariant

pub key_left-requires : goal.key_left-requires
key_left-requires c = room-start
