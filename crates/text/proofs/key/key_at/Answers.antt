-- What is left makes the whole of the key. As long as bytes stand for themselves they are taken as they are; from another byte on the rest is decoded.
use mathlib.Core.Path.{◌≡◌, refl, sym, ap, subst, ◌∙◌}
use Prim.Native.Nat.{suc, ◌+◌, ◌-◌, ◌*◌, ◌≤◌, ◌<◌}
use lib.ListN.{drop}
use Rattle.text.specs.inner.Key.{key_by}
use Rattle.text.proofs.Decoding.{left_at}
use Rattle.text.proofs.Keys.{key-done, key-next, room-start, room_fits, room_next}
use Rattle.text.proofs.Seeing.{seen_end, seen-byte, seen-text}
use native.Mathlib.Omega.{arith}
use Rattle.text.proofs.key.key_at.Goals as goal

pub returns-then-b-lt1 : goal.returns-then-b-lt1
returns-then-b-lt1 c =
    let q = c.args in let l = c.loop-k in
    c.padded.ensures
    ∙ ap (key_by (4 - l.k) l.whole) (sym (seen_end q.raw (drop l.i q.s.now) (subst (λ x. x < 1) c.peek-b.ensures c.if-b-lt1.true)))
    ∙ l.invariant.1

pub returns-then-b-gt256 : goal.returns-then-b-gt256
returns-then-b-gt256 c =
    let q = c.args in let l = c.loop-k in
    c.key_left.ensures
    ∙ ap (key_by (4 - l.k) l.whole)
    (left_at q.s.now l.i _ c.cursor_at.ensures
    ∙ seen-text q.raw q.s.now l.i (λ k. omega (arith, c.type_inv.s k)) c.peek-b.ensures c.if-b-gt256.true)
    ∙ l.invariant.1

pub overflow_mul-whole : goal.overflow_mul-whole
overflow_mul-whole c =
    let l = c.loop-k in let m = 4 - (l.k + 1) in let e : 4 - l.k ≡ suc m = omega (arith, c.loop-k-test.true) in
    omega (arith, room_fits m (l.whole * 256) (room_next (4 - l.k) m l.whole (l.whole * 256) e (omega arith) l.invariant.0))

pub overflow_add-whole : goal.overflow_add-whole
overflow_add-whole c =
    let l = c.loop-k in
    let m = 4 - (l.k + 1) in
    let e : 4 - l.k ≡ suc m = omega (arith, c.loop-k-test.true) in
    let x = c.peek-b.result in
    let f : 1 ≤ x = c.if-b-lt1.false in
    let g : x ≤ 256 = c.if-b-gt256.false in
    omega (arith, room_fits m (l.whole * 256 + (x - 1)) (room_next (4 - l.k) m l.whole (l.whole * 256 + (x - 1)) e (omega arith) l.invariant.0))

pub overflow_add-i : goal.overflow_add-i
overflow_add-i c =
    let q = c.args in let l = c.loop-k in omega (arith, (seen-byte q.raw q.s.now l.i c.peek-b.ensures c.if-b-lt1.false c.if-b-gt256.false).0)

pub loop-k-preserved : goal.loop-k-preserved
loop-k-preserved c =
    let q = c.args in
    let l = c.loop-k in
    let m = 4 - (l.k + 1) in
    let e : 4 - l.k ≡ suc m = omega (arith, c.loop-k-test.true) in
    let x = c.peek-b.result in
    let f : 1 ≤ x = c.if-b-lt1.false in
    let g : x ≤ 256 = c.if-b-gt256.false in (
      room_next (4 - l.k) m l.whole (l.whole * 256 + (x - 1)) e (omega arith) l.invariant.0,
      key-next l.whole e (seen-byte q.raw q.s.now l.i c.peek-b.ensures c.if-b-lt1.false c.if-b-gt256.false).1 refl ∙ l.invariant.1,
    )

pub returns : goal.returns
returns c = let l = c.loop-k in sym (key-done (4 - l.k) l.whole _ (omega (arith, c.loop-k-test.false))) ∙ l.invariant.1

pub loop-k-init : goal.loop-k-init
loop-k-init c = (room-start, refl)

pub padded-requires : goal.padded-requires
padded-requires c = c.loop-k.invariant.0

pub key_left-requires : goal.key_left-requires
key_left-requires c = c.loop-k.invariant.0
