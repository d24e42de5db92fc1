-- The bytes in the array and those that are left stay the whole text.
use mathlib.Core.Path.{refl, sym, ◌∙◌}
use native.Mathlib.Omega.{arith}
use Rattle.text.proofs.Decoding.{text-end, text-plain}
use Rattle.text.proofs.Filling.{filled_none, filled_next}
use Rattle.schema.proofs.Prefixes.{reads_all, reads-full, text-escaped}
use Rattle.schema.proofs.spelling.read_prefix.Goals.{then-is_plain, else-is_plain+else-b-ge128}
use Rattle.schema.proofs.spelling.read_prefix.Goals as goal

pub loop-count-init : goal.loop-count-init
loop-count-init c = filled_none _ _ refl

pub returns-then-spelled-i : goal.returns-then-spelled-i
returns-then-spelled-i c = reads_all c.loop-count.invariant (text-end _ c.loop-count.i c.if-spelled-i.true)

pub returns-then-b-ge128 : goal.returns-then-b-ge128
returns-then-b-ge128 c = c.read_any.ensures

pub loop-count-preserved : goal.loop-count-preserved
loop-count-preserved c =
    let s = c.args.spelled.now in
    elim c.if-is_plain.branch [
      | then-is_plain w ↦
          rw (w.bytes-is, w.i-is) (filled_next (omega arith) c.loop-count.invariant (text-plain s c.loop-count.i (omega arith) (sym c.is_plain.ensures ∙ w.if-is_plain.true)))
      | else-is_plain+else-b-ge128 w ↦
          rw (w.bytes-is, w.i-is) (filled_next (omega arith) c.loop-count.invariant (text-escaped s c.loop-count.i _ (omega arith) w.escaped-b.ensures (omega arith)))
    ]

pub returns : goal.returns
returns c = reads-full c.loop-count.invariant (omega arith)
