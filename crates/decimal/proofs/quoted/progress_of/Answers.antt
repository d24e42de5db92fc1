-- The bytes that are left of the text lead from the state to that of the whole; each turn takes one of them.
use mathlib.Core.Path.{sym, ap, subst, ◌∙◌}
use native.Mathlib.Omega.{arith}
use lib.ListN.{length}
use Rattle.text.specs.inner.Walk.{left}
use Rattle.text.proofs.Decoding.{left_at, no_byte, one_byte}
use Rattle.decimal.specs.inner.Priced.{start, steps, Held}
use Rattle.decimal.proofs.Progress.{start-held, step-held, steps_next, steps-end}
use Rattle.decimal.proofs.quoted.progress_of.Goals as goal

pub loop-b-init : goal.loop-b-init
loop-b-init c =
    let s = c.args.spelled.now in
    let e = c.empty-p.ensures in
    (subst Held (sym e) start-held, ap (λ p. steps p (left s c.cursor_at-c.result)) e ∙ ap (steps start) (left_at s 0 _ c.cursor_at-c.ensures))

pub returns : goal.returns
returns c =
    steps-end _ _ _ (no_byte _ _ c.next_byte.ensures c.in_default.is) c.loop-b.invariant.1

pub loop-b-smaller : goal.loop-b-smaller
loop-b-smaller c =
    let e = one_byte _ _ _ _ c.next_byte.ensures c.in-Some.is in
    omega (arith, ap length e)

pub loop-b-preserved : goal.loop-b-preserved
loop-b-preserved c =
    let w = c.loop-b in
    let s = c.args.spelled.now in
    let b = c.in-Some.b in
    let after = c.in-Some.after in
    let e = one_byte s _ _ after c.next_byte.ensures c.in-Some.is in (
      subst Held (sym c.step-p.ensures) (step-held w.p w.invariant.0 b),
      ap (λ p. steps p (left s after)) c.step-p.ensures ∙ steps_next w.p e ∙ w.invariant.1,
    )

pub step-p-requires : goal.step-p-requires
step-p-requires c = c.loop-b.invariant.0
