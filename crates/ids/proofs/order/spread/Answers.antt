-- The first loop hands marks on along the order, the second hands them back; both keep what was handed on before.
use mathlib.Core.List.{List}
use mathlib.Core.Path.{◌≡◌, sym, subst}
use Prim.Native.Nat.{ℕ, ◌+◌, ◌-◌, ◌≤◌, ◌<◌}
use native.Mathlib.Omega.{arith}
use lib.ListN.{length}
use Rattle.ids.specs.inner.Spread.{Marks, Onward}
use Rattle.ids.proofs.Spreads.{inside, marks-start, marks-next, onward-next, Turning, turning_start, turning_next, turned_now, turning_end, tells_on}
use Rattle.ids.proofs.order.spread.Goals as goal

pub loop-i-init : goal.loop-i-init
loop-i-init c =
    let a = c.args in
    (marks-start a.p.now a.order.now a.notes.now c.requires.0 c.requires.3 c.requires.2, λ m g h e f. absurd (omega arith), omega arith)

pub hand_on-requires : goal.hand_on-requires
hand_on-requires c =
    let a = c.args in let h = c.loop-i-test.true in let g = c.loop-i.invariant.2 in (
      inside a.p.now a.order.now a.notes.now c.requires.0 c.requires.3 _ (omega arith),
      inside a.p.now a.order.now a.notes.now c.requires.0 c.requires.3 _ h,
      tells_on a.keys.now c.loop-i.invariant.0 (omega (arith, c.requires.0, c.requires.1)) c.requires.4,
    )

pub loop-i-preserved : goal.loop-i-preserved
loop-i-preserved c =
    let a = c.args in let h = c.loop-i-test.true in let g = c.loop-i.invariant.2 in
    let i = c.loop-i.i in let e : i - 1 < length a.order.now = omega arith in let z : i ≡ i - 1 + 1 = omega arith in
    subst (λ (x : List ℕ). Marks a.p.now a.order.now a.notes.now x × Onward a.p.now a.order.now a.notes.now x (i + 1) × (1 ≤ i + 1)) (sym c.hand_on.ensures) (
      marks-next a.p.now a.order.now a.notes.now c.requires.0 c.requires.3 _ c.loop-i.invariant.0 (i - 1) i e h,
      onward-next a.p.now a.order.now a.notes.now c.requires.0 c.requires.3 _ c.loop-i.invariant.0 (i - 1) i e h z c.loop-i.invariant.1,
      omega arith,
    )

pub loop-j-init : goal.loop-j-init
loop-j-init c = let a = c.args in (turning_start a.p.now a.order.now _, omega arith)

-- what the second loop has come to, by the notes at the start
pub hand_on-requires-in-loop-j : goal.hand_on-requires-in-loop-j
hand_on-requires-in-loop-j c =
    let a = c.args in let h = c.loop-j-test.true in let g = c.loop-j.invariant.1 in
    let turned =
    turned_now a.p.now a.order.now a.notes.now c.loop-i.notes c.loop-j.notes c.loop-i.i c.loop-j.j c.requires.0 c.requires.3 c.loop-i.invariant.0 c.loop-i.invariant.1 c.loop-i-test.false c.loop-j.invariant.0 in (
      inside a.p.now a.order.now a.notes.now c.requires.0 c.requires.3 _ (omega arith),
      inside a.p.now a.order.now a.notes.now c.requires.0 c.requires.3 _ (omega arith),
      tells_on a.keys.now turned.marks (omega (arith, c.requires.0, c.requires.1)) c.requires.4,
    )

pub loop-j-preserved : goal.loop-j-preserved
loop-j-preserved c =
    let a = c.args in let h = c.loop-j-test.true in let g = c.loop-j.invariant.1 in let j = c.loop-j.j in
    (subst (λ (x : List ℕ). Turning a.p.now a.order.now c.loop-i.notes x (j - 1)) (sym c.hand_on-in-loop-j.ensures) (turning_next a.p.now a.order.now _ _ j h g c.loop-j.invariant.0), omega arith)

pub returns : goal.returns
returns c =
    let a = c.args in
    turning_end
    (turned_now a.p.now a.order.now a.notes.now c.loop-i.notes c.loop-j.notes c.loop-i.i c.loop-j.j c.requires.0 c.requires.3 c.loop-i.invariant.0 c.loop-i.invariant.1 c.loop-i-test.false c.loop-j.invariant.0)
    c.loop-j-test.false
