-- What is left makes the whole of the key: each turn takes a byte off, and zeros where none is left.
use mathlib.Core.Path.{◌≡◌, refl, sym, ap, ◌∙◌}
use Prim.Native.Nat.{suc, ◌+◌, ◌-◌, ◌*◌}
use Rattle.text.specs.inner.Key.{key_by}
use Rattle.text.proofs.Decoding.{no_byte, one_byte}
use Rattle.text.proofs.Keys.{key-done, key-next, room_fits, room_next}
use native.Mathlib.Omega.{arith}
use Rattle.text.proofs.key.key_left.Goals as goal

pub returns-in_default : goal.returns-in_default
returns-in_default c =
    let l = c.loop-k in
    c.padded.ensures ∙ ap (key_by (c.args.n - l.k) l.whole) (sym (no_byte _ _ c.next_byte.ensures c.in_default.is)) ∙ l.invariant.1

pub overflow_mul-whole : goal.overflow_mul-whole
overflow_mul-whole c =
    let l = c.loop-k in let m = c.args.n - (l.k + 1) in let e : c.args.n - l.k ≡ suc m = omega (arith, c.loop-k-test.true) in
    omega (arith, room_fits m (l.whole * 256) (room_next (c.args.n - l.k) m l.whole (l.whole * 256) e (omega arith) l.invariant.0))

pub overflow_add-whole : goal.overflow_add-whole
overflow_add-whole c =
    let l = c.loop-k in
    let m = c.args.n - (l.k + 1) in
    let e : c.args.n - l.k ≡ suc m = omega (arith, c.loop-k-test.true) in
    let x = c.from.result in
    let g = rw c.in-Some.is at c.next_byte.type_inv in
    omega (arith, room_fits m (l.whole * 256 + x) (room_next (c.args.n - l.k) m l.whole (l.whole * 256 + x) e (omega arith) l.invariant.0))

pub loop-k-preserved : goal.loop-k-preserved
loop-k-preserved c =
    let l = c.loop-k in
    let m = c.args.n - (l.k + 1) in
    let e : c.args.n - l.k ≡ suc m = omega (arith, c.loop-k-test.true) in
    let x = c.from.result in
    let g = rw c.in-Some.is at c.next_byte.type_inv in (
      room_next (c.args.n - l.k) m l.whole (l.whole * 256 + x) e (omega arith) l.invariant.0,
      key-next l.whole e (one_byte _ _ _ _ c.next_byte.ensures c.in-Some.is) c.from.ensures ∙ l.invariant.1,
    )

pub returns : goal.returns
returns c = let l = c.loop-k in sym (key-done (c.args.n - l.k) l.whole _ (omega (arith, c.loop-k-test.false))) ∙ l.invariant.1

pub loop-k-init : goal.loop-k-init
loop-k-init c = let z : c.args.n - 0 ≡ c.args.n = omega arith in (rw z c.requires, rw z refl)

pub padded-requires : goal.padded-requires
padded-requires c = c.loop-k.invariant.0
