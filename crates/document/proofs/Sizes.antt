-- No part is longer than the whole: an item, a member, what is read at a slot.
use mathlib.Core.Bool.{Bool, true, false}
use mathlib.Core.List.{List, []}
use Prim.Native.Nat.{ℕ, ◌-◌, ◌≤◌}
use native.Mathlib.Omega.{arith}
use lib.Dec.{eqb}
use lib.ListN.{length, drop, length-take, length-drop}
use Rattle.notation.specs.Choice.{◌⇒◌else◌}
use Rattle.walk.specs.Walk.{part}
use Rattle.walk.specs.Part.{part_tree}
use Rattle.walk.specs.inner.Kind.{kind_at}
use Rattle.slots.specs.declared.Found.{Found}
use Rattle.slots.specs.declared.Found.TheVariants.{Missing, Once, Twice}
use Rattle.slots.specs.Found.{found_in}
use Rattle.slots.specs.inner.Blank.{blank_text}
use Rattle.document.specs.inner.Values.{kind_code, found_bytes, member_of, array_by}

pub part-short : (p : List ℕ) (from upto : ℕ) → length (part p from upto) ≤ length p
part-short p from upto = omega (arith, length-take (upto - from) (drop from p), length-drop from p)

pub found-short : (p : List ℕ) (o : Found) → length (found_bytes p o) ≤ length p
found-short p Missing = omega arith
found-short p (Once from upto) = go (blank_text (part_tree (part p from upto)))
  where
    go : (t : Bool) → length (t ⇒ [] else part p from upto) ≤ length p
    go true = omega arith
    go false = part-short p from upto
found-short p Twice = omega arith

pub member-short : (p name : List ℕ) → length (member_of p name) ≤ length p
unfolding member_of
member-short p name = go (eqb (kind_code (kind_at p)) 5)
  where
    go : (t : Bool) → length (t ⇒ found_bytes p (found_in p name) else []) ≤ length p
    go true = found-short p (found_in p name)
    go false = omega arith

pub array-short : (q : List ℕ) → length (array_by q) ≤ length q
unfolding array_by
array-short q = go (eqb (kind_code (kind_at q)) 4)
  where
    go : (t : Bool) → length (t ⇒ q else []) ≤ length q
    go true = omega arith
    go false = omega arith
