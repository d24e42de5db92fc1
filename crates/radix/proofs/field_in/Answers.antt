-- The bytes from the one that the field begins in to the one that it ends in are at most eight, and hold it.
use mathlib.Core.Path.{◌≡◌, ap, ◌∙◌}
use Prim.Native.Nat.{◌+◌, ◌-◌, ◌*◌, ◌/◌, ◌%◌, ◌^◌, ◌≤◌}
use native.Mathlib.Omega.{arith}
use lib.ListN.{length}
use Rattle.radix.specs.Fields.{bytes_number}
use Rattle.radix.proofs.Window.{bytes-all, window_field}
use Rattle.radix.proofs.field_in.Goals as goal

pub returns : goal.returns
returns c =
    let q = c.args in let s = q.s.now in let n = q.lower in let w = q.width in
    let room : q.lower + q.width ≤ length q.s.now * 8 = c.requires.1 in
    let end = length s - n / 8 in let start = end - c.div_ceil.result in
    let z : (length q.s.now - (length q.s.now - q.lower / 8)) * 8 + q.lower % 8 ≡ q.lower = omega arith in
    let held : q.lower % 8 + q.width ≤ (length q.s.now - q.lower / 8 - (length q.s.now - q.lower / 8 - c.div_ceil.result)) * 8 = omega arith in
    c.field_of.ensures ∙ ap (λ x. x / 2 ^ (n % 8) % 2 ^ w) c.bytes_number.ensures
    ∙ window_field s (bytes-all s (λ i. omega (arith, c.type_inv.s i))) start end (omega arith) (omega arith) (n % 8) w held
    ∙ ap (λ x. bytes_number s / 2 ^ x % 2 ^ w) z
