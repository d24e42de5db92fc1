-- What is left behind the bytes that are still to be passed is what follows them all. As long as bytes stand for themselves they are passed as they are.
use mathlib.Core.Path.{◌≡◌, sym, ap, subst, ◌∙◌}
use Prim.Native.Nat.{suc, ◌+◌, ◌-◌, ◌<◌}
use lib.ListN.{drop}
use Rattle.text.specs.Text.{meant}
use Rattle.text.specs.inner.Key.{key_of}
use Rattle.text.proofs.Decoding.{left_at}
use Rattle.text.proofs.Fronts.{drop-next}
use Rattle.text.proofs.Keys.{key-past}
use Rattle.text.proofs.Seeing.{seen_end, seen-byte, seen-text}
use native.Mathlib.Omega.{arith}
use Rattle.text.proofs.key.key_of.Goals as goal

pub loop-i-init : goal.loop-i-init
loop-i-init c = let q = c.args in let z : q.skip - 0 ≡ q.skip = omega arith in ap (λ k. drop k (meant q.raw q.s.now)) z

pub returns-then-b-lt1 : goal.returns-then-b-lt1
returns-then-b-lt1 c =
    let q = c.args in let l = c.loop-i in
    key-past (q.skip - l.i) (seen_end q.raw (drop l.i q.s.now) (subst (λ x. x < 1) c.peek-b.ensures c.if-b-lt1.true)) ∙ ap key_of l.invariant

pub overflow_sub-skip : goal.overflow_sub-skip
overflow_sub-skip c = omega (arith, c.loop-i-test.true)

pub returns-then-b-gt256 : goal.returns-then-b-gt256
returns-then-b-gt256 c =
    let q = c.args in let l = c.loop-i in
    c.key_behind.ensures
    ∙ ap (λ x. key_of (drop (q.skip - l.i) x))
    (left_at q.s.now l.i _ c.cursor_at.ensures
    ∙ seen-text q.raw q.s.now l.i (λ k. omega (arith, c.type_inv.s k)) c.peek-b.ensures c.if-b-gt256.true)
    ∙ ap key_of l.invariant

pub loop-i-preserved : goal.loop-i-preserved
loop-i-preserved c =
    let q = c.args in let l = c.loop-i in let h : l.i < q.skip = c.loop-i-test.true in let e : q.skip - l.i ≡ suc (q.skip - (l.i + 1)) = omega arith in
    sym (drop-next (q.skip - l.i) (q.skip - (l.i + 1)) e (seen-byte q.raw q.s.now l.i c.peek-b.ensures c.if-b-lt1.false c.if-b-gt256.false).1)
    ∙ l.invariant

pub returns : goal.returns
returns c =
    let q = c.args in let l = c.loop-i in
    let e : l.i ≡ q.skip = omega arith in
    let z : q.skip - q.skip ≡ 0 = omega arith in
    let h = rw (e, z) at l.invariant in c.key_at.ensures ∙ ap key_of h
