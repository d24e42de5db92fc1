-- `brackets_end` ends past the bracket that closes: the loop's invariant is that behind it the text is the same from each place on, with the inner brackets
-- that stand open there. The last bytes of a text are passed one by one.
use Prim.Native.Nat.{suc, ◌+◌, ◌-◌, ◌<◌}
use mathlib.Core.Path.{◌≡◌, sym, ap, ◌∙◌}
use native.Mathlib.Omega.{arith}
use lib.ListN.{length, drop}
use Rattle.lexeme.specs.Character.{byte}
use Rattle.lexeme.proofs.Rests.{place_at}
use Rattle.walk.specs.inner.Skip.{outside, enclosed}
use Rattle.walk.proofs.Skips.{enclosed-all}
use Rattle.walk.proofs.Ends.{brackets_open, brackets-other, brackets_close}
use Rattle.walk.proofs.Runs.{like_unmarked, not_like}
use Rattle.walk.proofs.skip.brackets_end.Goals as goal

-- no bracket
pub loop-i-smaller-then-b-ne89 : goal.loop-i-smaller-then-b-ne89
loop-i-smaller-then-b-ne89 c =
    let i = c.loop-i.i in
    let h : i < c.to_bracket-i.result = c.to_bracket-i.ensures.later (omega arith) (not_like (byte c.args.s.now i) c.if-b-ne89.true) in
    omega arith

pub loop-i-preserved-then-b-ne89 : goal.loop-i-preserved-then-b-ne89
loop-i-preserved-then-b-ne89 c =
    (omega (arith, c.to_bracket-i.ensures.from), sym (c.to_bracket-i.ensures.same c.loop-i.inner) ∙ c.loop-i.invariant.1)

-- what may be one
pub loop-i-preserved-then-is_either : goal.loop-i-preserved-then-is_either
loop-i-preserved-then-is_either c =
    let s = c.args.s.now in let i = c.loop-i.i in (
      omega arith,
      sym (brackets_open s i c.loop-i.inner (omega arith) (like_unmarked (byte s i) c.if-b-ne89.false) (sym c.is_either.ensures ∙ c.if-is_either.true))
          ∙ c.loop-i.invariant.1,
    )

pub returns-then-inner-eq0 : goal.returns-then-inner-eq0
returns-then-inner-eq0 c =
    let s = c.args.s.now in let i = c.loop-i.i in
    rw (sym c.loop-i.invariant.1
    ∙ brackets_close s i c.loop-i.inner (omega arith) (like_unmarked (byte s i) c.if-b-ne89.false) (sym c.is_either.ensures ∙ c.if-is_either.false)
    (sym c.is_either-in-loop-i.ensures ∙ c.if-is_either-2.true)
    ∙ ap (λ m. enclosed m outside (drop (i + 1) s)) c.if-inner-eq0.true ∙ enclosed-all (drop (i + 1) s)) (place_at s (i + 1) (omega arith))

pub loop-i-preserved-then-is_either-2 : goal.loop-i-preserved-then-is_either-2
loop-i-preserved-then-is_either-2 c =
    let s = c.args.s.now in let i = c.loop-i.i in let n = c.loop-i.inner in
    let less : n ≡ suc (n - 1) = omega arith in (
      omega arith,
      sym (brackets_close s i n (omega arith) (like_unmarked (byte s i) c.if-b-ne89.false) (sym c.is_either.ensures ∙ c.if-is_either.false)
          (sym c.is_either-in-loop-i.ensures ∙ c.if-is_either-2.true)
          ∙ ap (λ m. enclosed m outside (drop (i + 1) s)) less)
          ∙ c.loop-i.invariant.1,
    )

pub loop-i-preserved : goal.loop-i-preserved
loop-i-preserved c =
    let s = c.args.s.now in let i = c.loop-i.i in (
      omega arith,
      sym (brackets-other s i c.loop-i.inner (omega arith) (like_unmarked (byte s i) c.if-b-ne89.false) (sym c.is_either.ensures ∙ c.if-is_either.false)
          (sym c.is_either-in-loop-i.ensures ∙ c.if-is_either-2.false))
          ∙ c.loop-i.invariant.1,
    )

pub returns : goal.returns
returns c = let s = c.args.s.now in c.brackets_end_bytewise-2.ensures ∙ ap (λ l. length s - length l) c.loop-i.invariant.1
