-- What is left of the zeros makes the whole of the key.
use mathlib.Core.Path.{◌≡◌, refl, sym, ◌∙◌}
use mathlib.Core.List.{[]}
use Prim.Native.Nat.{suc, ◌-◌, ◌+◌, ◌*◌}
use Rattle.text.proofs.Keys.{key-done, key-none, room_fits, room_next}
use native.Mathlib.Omega.{arith}
use Rattle.text.proofs.key.padded.Goals as goal

pub overflow_mul-whole : goal.overflow_mul-whole
overflow_mul-whole c =
    let l = c.loop in let m = c.args.n - (l.counter + 1) in let e : c.args.n - l.counter ≡ suc m = omega (arith, c.loop-test.true) in
    omega (arith, room_fits m (l.whole * 256) (room_next (c.args.n - l.counter) m l.whole (l.whole * 256) e (omega arith) l.invariant.0))

pub loop-preserved : goal.loop-preserved
loop-preserved c =
    let l = c.loop in let m = c.args.n - (l.counter + 1) in let e : c.args.n - l.counter ≡ suc m = omega (arith, c.loop-test.true) in (
      room_next (c.args.n - l.counter) m l.whole (l.whole * 256) e (omega arith) l.invariant.0,
      sym (key-none l.whole e refl) ∙ l.invariant.1,
    )

pub returns : goal.returns
returns c = let l = c.loop in sym (key-done (c.args.n - l.counter) l.whole [] (omega (arith, c.loop-test.false))) ∙ l.invariant.1

pub loop-init : goal.loop-init
loop-init c = let z : c.args.n - 0 ≡ c.args.n = omega arith in (rw z c.requires, rw z refl)
