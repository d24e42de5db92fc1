-- `record_span` counts the items of the array that the rest from the records on begins with.
use mathlib.Core.Path.{sym, ◌∙◌}
use borrow.Author.Tests.{eqb-true, eqb-false}
use native.Mathlib.Omega.{arith}
use Rattle.document.proofs.Rests.{record_absent, record_there}
use Rattle.document.proofs.record_span.Goals as goal

pub returns-then-is_empty : goal.returns-then-is_empty
returns-then-is_empty c h =
    let a = c.args in
    record_absent a.sheet a.s.now c.records_from-p.result.now a.n c.records_from-p.ensures (eqb-true _ 0 (sym c.is_empty.ensures ∙ c.if-is_empty.true)) h

pub overflow_sub-s : goal.overflow_sub-s
overflow_sub-s c = let i = c.records_from-p.ensures.inside in omega arith

pub nth_span-requires : goal.nth_span-requires
nth_span-requires c = let i = c.records_from-p.ensures.inside in omega arith

pub returns : goal.returns
returns c h =
    let a = c.args in
    let t = record_there a.sheet a.s.now c.records_from-p.result.now a.n c.records_from-p.ensures (eqb-false _ 0 (sym c.is_empty.ensures ∙ c.if-is_empty.false)) h in
    c.nth_span.ensures t.0 ∙ t.1
