-- What the bytes p of an object hold under a name: nothing, a value at its place, or more than one. Names are compared as decoded.
use mathlib.Core.List.{List, foldl}
use Rattle.std.specs.Prelude.{ℕ}
use Rattle.notation.specs.Choice.{◌⇒◌else◌}
use Rattle.text.specs.Text.{text_of, same}
use Rattle.walk.specs.declared.Member.{Member}
use Rattle.walk.specs.Walk.{part, members_of}
use Rattle.slots.specs.declared.Found.{Found}
use Rattle.slots.specs.declared.Found.TheVariants.{Missing, Once, Twice}

-- one value more
abbrev pub one_more : Found → ℕ → ℕ → Found
one_more Missing from upto = Once from upto
one_more (Once a e) from upto = Twice
one_more Twice from upto = Twice

abbrev pub noted : List ℕ → List ℕ → Found → Member → Found
noted p name o m = same (text_of (part p m.name m.name_end)) name ⇒ one_more o m.value m.value_end else o

unfoldable pub found_in : (p name : List ℕ) → Found
found_in p name = foldl (noted p name) Missing (members_of p)
