-- `first_fault` hands the file's value to the judge.
use mathlib.Core.Path.{sym, subst, ◌∙◌}
use mathlib.Core.List.{List}
use Prim.Native.Nat.{ℕ}
use lib.ListN.{length-take, length-drop}
use native.Mathlib.Omega.{arith}
use Rattle.walk.specs.Part.{Whole}
use Rattle.document.specs.inner.Spans.{Readable}
use Rattle.clean.specs.Clean.{tree_of}
use Rattle.clean.proofs.Judged.{top-there, file-short, top-whole}
use Rattle.clean.proofs.first_fault.Goals as goal

pub returns-in_err-span : goal.returns-in_err-span
returns-in_err-span c = absurd (top-there _ c.requires (sym (c.top_span.ensures (Readable.sound c.requires)) ∙ c.in_err-span.was))

-- a part of the file is no longer than the file
pub judge_file-requires : goal.judge_file-requires
judge_file-requires c =
    let short = file-short _ c.requires in
    rw (c.cut.ensures, length-take, length-drop) (omega (arith, short))

pub returns : goal.returns
returns c =
    let s = c.args.s.now in
    c.judge_file.ensures (tree_of s)
    (subst (λ (p : List ℕ). Whole p (tree_of s)) (sym c.cut.ensures) (top-whole s c.requires _ _ (sym (c.top_span.ensures (Readable.sound c.requires)) ∙ c.in_ok-span.was)))
