-- Each two digits of the form are read as the number that they spell; the year's four are a hundred times the first two, and the others.
use mathlib.Core.Path.{◌≡◌}
use Prim.Native.Nat.{◌+◌, ◌*◌, ◌≤◌}
use native.Mathlib.Omega.{arith}
use lib.ListN.{length, take, drop}
use Rattle.decimal.specs.Decimals.{value_of}
use Rattle.calendar.specs.Written.{date_form}
use Rattle.calendar.proofs.Forms.{form_length, form_part}
use Rattle.calendar.proofs.Dates.{four-first}
use Rattle.calendar.proofs.written.date_in.Goals as goal

pub two_digits-requires : goal.two_digits-requires
two_digits-requires c = form_part 0 2 date_form _ c.requires

pub two_digits-requires-2 : goal.two_digits-requires-2
two_digits-requires-2 c = form_part 2 2 date_form _ c.requires

pub two_digits-requires-3 : goal.two_digits-requires-3
two_digits-requires-3 c = form_part 5 2 date_form _ c.requires

pub two_digits-requires-4 : goal.two_digits-requires-4
two_digits-requires-4 c = form_part 8 2 date_form _ c.requires

pub returns : goal.returns
returns c =
    let s = c.args.s.now in
    let l : 4 ≤ length s = omega (arith, form_length date_form s c.requires) in
    let year : c.two_digits.result * 100 + c.two_digits-2.result ≡ value_of (take 4 s) =
    omega (arith, c.two_digits.ensures, c.two_digits-2.ensures, four-first s l) in
    let month : c.two_digits-3.result ≡ value_of (take 2 (drop 5 s)) = c.two_digits-3.ensures in
    let day : c.two_digits-4.result ≡ value_of (take 2 (drop 8 s)) = c.two_digits-4.ensures in
    cc
