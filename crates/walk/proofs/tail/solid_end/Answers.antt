-- The bytes from `i` on are blanks; the one before it is either no blank, and `i` is the place, or one blank more.
use mathlib.Core.Path.{◌≡◌, sym, ap, subst, ◌∙◌}
use Prim.Native.Nat.{◌+◌, ◌-◌}
use native.Mathlib.Omega.{arith}
use lib.ListN.{length, drop, drop_of_length-le}
use Rattle.lexeme.specs.Tokens.{blanks}
use Rattle.walk.specs.inner.Tail.{Tail}
use Rattle.walk.proofs.Tails.{tail-here, tail-before}
use Rattle.walk.proofs.tail.solid_end.Goals as goal

pub loop-i-init : goal.loop-i-init
unfolding blanks
loop-i-init c = let s = c.args.s.now in (omega arith, ap blanks (drop_of_length-le s {i = length s} (omega arith)))

pub returns-then-not-is_blank : goal.returns-then-not-is_blank
returns-then-not-is_blank c =
    let s = c.args.s.now in let l = c.loop-i in
    let z : l.i ≡ l.i - 1 + 1 = omega arith in
    subst (Tail s) z (tail-here s l.i (omega arith) l.invariant.0 l.invariant.1 (sym c.is_blank.ensures ∙ c.if-not-is_blank.true))

pub loop-i-preserved : goal.loop-i-preserved
loop-i-preserved c =
    let s = c.args.s.now in let l = c.loop-i in
    (omega arith, tail-before s l.i (omega arith) l.invariant.0 l.invariant.1 (sym c.is_blank.ensures ∙ c.if-not-is_blank.false))

pub returns : goal.returns
returns c =
    let l = c.loop-i in let s = c.args.s.now in
    let z : l.i ≡ 0 = omega arith in
    record { inside = omega arith; empty = ap (λ k. blanks (drop k s)) (sym z) ∙ l.invariant.1; solid = λ h. absurd (omega arith) }
