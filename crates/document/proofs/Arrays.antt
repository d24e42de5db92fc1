-- Arrays in objects: one that is a member of an object is whole, or there is nothing. And a walk along an array that passes over its items finds what
-- reading them finds, behind its last byte too.
use mathlib.Core.Bool.{Bool, true, false}
use mathlib.Core.List.{List, []}
use mathlib.Core.Path.{◌≡◌, refl}
use Prim.Native.Nat.{ℕ, ◌<◌}
use native.Mathlib.Omega.{arith}
use lib.Dec.{eqb}
use lib.ListN.{length}
use Rattle.notation.specs.Choice.{◌⇒◌else◌}
use Rattle.lexeme.specs.Character.{within}
use Rattle.lexeme.specs.Numbers.{digit}
use Rattle.lexeme.specs.inner.Start.{start}
use Rattle.json_text.specs.Tree.{Json, Items}
use Rattle.walk.specs.Walk.{part}
use Rattle.walk.specs.Part.{Whole, part_tree, kind_of}
use Rattle.walk.specs.inner.Kind.{kind_at}
use Rattle.walk.specs.inner.Along.{AlongItems}
use Rattle.walk.proofs.Wholes.{whole-kind}
use Rattle.slots.specs.declared.Found.{Found}
use Rattle.slots.specs.declared.Found.TheVariants.{Missing, Once, Twice}
use Rattle.slots.specs.Found.{found_in}
use Rattle.slots.specs.inner.Blank.{blank_text}
use Rattle.slots.proofs.Finds.{found-value}
use Rattle.document.specs.inner.Values.{kind_code, found_bytes, member_of, array_by}

-- an array with its brackets, where there is anything
abbrev Bracketed : List ℕ → Type 0
Bracketed q = 0 < length q → (is : Items) × Whole q (Json.array is)

nothing : Bracketed []
nothing h = absurd (omega arith)

nothing-listed : Bracketed (array_by [])
unfolding array_by kind_at start digit within
nothing-listed = nothing

array_whole : (q : List ℕ) (x : Json) → Whole q x → Bracketed (array_by q)
unfolding array_by
array_whole q x w = rw (array_by, whole-kind w) (go x w)
  where
    go : (y : Json) → Whole q y → Bracketed (eqb (kind_code (kind_of y)) 4 ⇒ q else [])
    go Json.null v = nothing
    go (Json.boolean b) v = nothing
    go (Json.number s) v = nothing
    go (Json.string s) v = nothing
    go (Json.array is) v = λ h. (is, v)
    go (Json.object ms) v = nothing

module _ (p name : List ℕ) where
  pub member-array : 0 < length (array_by (member_of p name)) → (is : Items) × Whole (array_by (member_of p name)) (Json.array is)
  unfolding member_of
  member-array = go (eqb (kind_code (kind_at p)) 5)
    where
      unless-blank : (t : Bool) (q : List ℕ) → Whole q (part_tree q) → Bracketed (array_by (t ⇒ [] else q))
      unless-blank true q w = nothing-listed
      unless-blank false q w = array_whole q (part_tree q) w

      in_found : (o : Found) → found_in p name ≡ o → Bracketed (array_by (found_bytes p o))
      in_found Missing e = nothing-listed
      in_found (Once from upto) e = unless-blank (blank_text (part_tree (part p from upto))) (part p from upto) (found-value p name from upto e).whole
      in_found Twice e = nothing-listed

      go : (t : Bool) → Bracketed (array_by (t ⇒ found_bytes p (found_in p name) else []))
      go true = in_found (found_in p name) refl
      go false = nothing-listed

  pub member-along : 0 < length (array_by (member_of p name)) → AlongItems (array_by (member_of p name)) 1
  member-along h = AlongItems.start (member-array h).1
