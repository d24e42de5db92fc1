-- The code has the count without a walk over the years.
use mathlib.Core.Path.{◌≡◌}
use Prim.Native.Nat.{◌+◌, ◌/◌}
use native.Mathlib.Omega.{arith}
use Rattle.calendar.proofs.Days.{days_closed}
use Rattle.calendar.proofs.days_before.Goals as goal

pub returns : goal.returns
returns c =
    let y = c.args.year in
    let fours : c.div_ceil.result ≡ (c.args.year + 3) / 4 = omega arith in
    let cycles : c.div_ceil-2.result ≡ (c.args.year + 399) / 400 = omega arith in
    let hundreds : c.div_ceil-3.result ≡ (c.args.year + 99) / 100 = omega arith in
    rw (days_closed y, c.from-y.ensures, fours, cycles, hundreds)
