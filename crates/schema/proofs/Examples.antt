-- The later tree on a bikes file: a bike's first two members change places and an unlisted one comes in. A member of a listed name
-- cannot come in: what `added` asks for is false.
use mathlib.Core.Bool.{false}
use mathlib.Core.List.{[], ◌∷◌}
use mathlib.Core.Path.{◌≡◌, refl}
use Prim.Native.String.{String}
use Rattle.notation.specs.Ascii.{bytes}
use Rattle.notation.proofs.Booleans.{true-false}
use Rattle.json_text.specs.Tree.{Json, Members, boolean, string, array, object, no_item, item, no_member, member}
use Rattle.text.specs.Text.{same}
use Rattle.schema.specs.Pick.{pick}
use Rattle.schema.specs.Table23.{file, listing, bike}
use Rattle.schema.specs.Later.{Later, unchanged, in_array, in_object, no_item', item', no_member', kept, swapped, added, and_then, item_shape, rows_of, listed_in, shape_in, listed}
use Rattle.schema.specs.inner.Sound.{distinct_names}
use Rattle.schema.proofs.PickLater.{pick-later₁}

infixr 20 ◌∶◌▸◌
abbrev ◌∶◌▸◌ : String → Json → Members → Members
◌∶◌▸◌ name x ms = member (bytes name) x ms

-- a file of one bike
abbrev bikes : Members → Json
bikes ms = object ("data" ∶ object ("bikes" ∶ array (item (object ms) no_item) ▸ no_member) ▸ no_member)

earlier : Json
earlier = bikes ("bike_id" ∶ string (bytes "a") ▸ "is_reserved" ∶ boolean false ▸ no_member)

later : Json
later = bikes ("is_reserved" ∶ boolean false ▸ "vin" ∶ string (bytes "z") ▸ "bike_id" ∶ string (bytes "a") ▸ no_member)

earlier-later : Later (listing "bikes" bike ∷ []) earlier later
unfolding earlier later listing file bike item_shape rows_of listed_in shape_in listed same
earlier-later =
    in_object (kept (in_object (kept (in_array (item' (in_object (and_then swapped (kept unchanged (added refl)))) no_item')) no_member')) no_member')

same-picked : pick (listing "bikes" bike) earlier ≡ pick (listing "bikes" bike) later
same-picked = pick-later₁ (unfold distinct_names listing file bike listed_in same in refl) earlier-later

-- a bike lists `lat`, so the premise of adding one does not hold
no-lat-added : listed (bike ∷ []) (bytes "lat") ≡ false → ⊥
unfolding bike rows_of listed_in listed same
no-lat-added e = true-false refl e
