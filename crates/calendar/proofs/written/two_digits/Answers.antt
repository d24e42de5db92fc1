-- Two digits stand at the place, so both reads are inside and nothing falls below 0; the first counts ten times.
use mathlib.Core.Path.{sym}
use native.Mathlib.Omega.{arith}
use Rattle.calendar.proofs.Dates.{two_at}
use Rattle.calendar.proofs.written.two_digits.Goals as goal

pub bounds-s-at : goal.bounds-s-at
bounds-s-at c = let d = two_at c.args.s.now c.args.at c.requires in omega arith

pub overflow_sub-result : goal.overflow_sub-result
overflow_sub-result c = let d = two_at c.args.s.now c.args.at c.requires in omega arith

pub overflow_mul-result : goal.overflow_mul-result
overflow_mul-result c = let d = two_at c.args.s.now c.args.at c.requires in omega arith

pub overflow_add-result : goal.overflow_add-result
overflow_add-result c = let d = two_at c.args.s.now c.args.at c.requires in omega arith

pub bounds-s-at-2 : goal.bounds-s-at-2
bounds-s-at-2 c = let d = two_at c.args.s.now c.args.at c.requires in omega arith

pub overflow_sub-result-2 : goal.overflow_sub-result-2
overflow_sub-result-2 c = let d = two_at c.args.s.now c.args.at c.requires in omega arith

pub overflow_add-result-2 : goal.overflow_add-result-2
overflow_add-result-2 c = let d = two_at c.args.s.now c.args.at c.requires in omega arith

pub returns : goal.returns
returns c = sym (two_at c.args.s.now c.args.at c.requires).value
