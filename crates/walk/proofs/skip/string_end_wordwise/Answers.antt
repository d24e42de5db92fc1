-- `string_end_wordwise` ends past the closing mark: the loop's invariant is that behind it the text is the same from each place on, and the bytes before the first
-- mark are passed at once. The last bytes of a text are passed one by one.
use Prim.Native.Nat.{◌+◌, ◌-◌, ◌≤◌}
use mathlib.Core.Bool.{false}
use mathlib.Core.Path.{◌≡◌, sym, ap, ◌∙◌}
use native.Mathlib.Omega.{arith}
use lib.ListN.{length, drop}
use lib.Seq.{drop-drop}
use Rattle.lexeme.specs.Character.{byte}
use Rattle.lexeme.proofs.Rests.{place_at}
use Rattle.walk.specs.inner.Mark.{string_mark}
use Rattle.walk.specs.inner.Skip.{quoted}
use Rattle.walk.proofs.Ends.{string-closes, string_escapes}
use Rattle.walk.proofs.Runs.{run_within, run_ends, run_passed, string_passes, string-other}
use Rattle.walk.proofs.skip.string_end_wordwise.Goals as goal

pub loop-i-preserved-then-n-eq8 : goal.loop-i-preserved-then-n-eq8
loop-i-preserved-then-n-eq8 c =
    let s = c.args.s.now in let i = c.loop-i.i in
    ap (λ m. quoted false (drop (i + m) s)) (sym c.if-n-eq8.true)
    ∙ sym (run_passed string_mark s i _ (omega arith) c.before_string_mark-n.ensures (quoted false) string_passes)
    ∙ c.loop-i.invariant

-- a mark
pub overflow_add-j : goal.overflow_add-j
overflow_add-j c = omega (arith, run_within string_mark c.args.s.now c.loop-i.i _ (omega arith) c.before_string_mark-n.ensures)

pub bounds-s-j : goal.bounds-s-j
bounds-s-j c = omega (arith, run_within string_mark c.args.s.now c.loop-i.i _ (omega arith) c.before_string_mark-n.ensures)

pub returns-then-s-j-eq34 : goal.returns-then-s-j-eq34
returns-then-s-j-eq34 c =
    let s = c.args.s.now in let i = c.loop-i.i in let n = c.before_string_mark-n.result in
    let h : n ≤ 8 = run_within string_mark s i n (omega arith) c.before_string_mark-n.ensures in
    rw (sym c.loop-i.invariant
    ∙ run_passed string_mark s i n (omega arith) c.before_string_mark-n.ensures (quoted false) string_passes
    ∙ string-closes s (i + n) (omega arith) c.if-s-j-eq34.true) (place_at s (i + n + 1) (omega arith))

pub overflow_add-i-in-loop-i : goal.overflow_add-i-in-loop-i
overflow_add-i-in-loop-i c = omega (arith, run_within string_mark c.args.s.now c.loop-i.i _ (omega arith) c.before_string_mark-n.ensures)

pub loop-i-preserved : goal.loop-i-preserved
loop-i-preserved c =
    let s = c.args.s.now in let i = c.loop-i.i in let n = c.before_string_mark-n.result in let j = i + n in
    let h : n ≤ 8 = run_within string_mark s i n (omega arith) c.before_string_mark-n.ensures in
    let e : byte s j ≡ 0x5c = string-other (byte s j) (run_ends string_mark s i n (omega arith) c.before_string_mark-n.ensures (omega arith)) c.if-s-j-eq34.false in
    sym (string_escapes s j (j + 2) e (sym (drop-drop 2 j s)))
    ∙ sym (run_passed string_mark s i n (omega arith) c.before_string_mark-n.ensures (quoted false) string_passes)
    ∙ c.loop-i.invariant

pub returns : goal.returns
returns c = let s = c.args.s.now in c.string_end_bytewise-2.ensures ∙ ap (λ l. length s - length l) c.loop-i.invariant
