-- The rules that apply at a point, and what they give together: document 01, "Zones", with document 02's requests W4 and W13.
use Rattle.std.specs.Prelude.{Bool, true, false, List, [], ◌∷◌, ◌++◌, map, ℕ, leb, ltb, Option, None, Some}
use Rattle.std.specs.Option.{option_or}
use Rattle.notation.specs.Choice.{◌⇒◌else◌, ◌and◌}
use Rattle.text.specs.Text.{same}
use Rattle.schema.specs.Shape.{Table, file_shape}
use Rattle.schema.specs.Pick.{Picked, elements}
use Rattle.geometry.specs.Ring.{Point}
use Rattle.geometry.specs.Held.{side_of, polygon_holds}
use Rattle.rings.specs.Rings.{position}
use Rattle.document.specs.Document.{along, elements_of, field, field_items, spelling, text_in}
use Rattle.document.specs.Values.{integer_in}
use Rattle.clean.specs.Clean.{records_in}

-- an integer, where it is given
abbrev pub integer : Option (List ℕ) → Option ℕ
integer None = None
integer (Some s) = Some (integer_in (Some s))

-- a zone counts from its start to before its end, where they are given
abbrev pub begun : Option ℕ → ℕ → Bool
begun None moment = true
begun (Some start) moment = leb start moment

abbrev pub unended : Option ℕ → ℕ → Bool
unended None moment = true
unended (Some end) moment = ltb moment end

unfoldable pub counts : Picked → ℕ → Bool
counts properties moment = begun (integer (spelling 75 properties)) moment and unended (integer (spelling 76 properties)) moment

-- the points of a ring
abbrev pub outline : Picked → List Point
outline ring = map position (elements ring)

-- the rings of a polygon; the polygons of a zone, of which one whose rings hold the point is enough
unfoldable pub rings_hold : List Picked → Point → Bool
rings_hold rs q = polygon_holds side_of (map outline rs) q

unfoldable pub polygons_hold_by : (rings : List Picked → Point → Bool) → List Picked → Point → Bool
polygons_hold_by rings [] q = false
polygons_hold_by rings (p ∷ ps) q = rings (elements p) q ⇒ true else polygons_hold_by rings ps q

abbrev pub polygons_of : Picked → List Picked
polygons_of zone = elements_of (along (71 ∷ 73 ∷ []) zone)

abbrev pub zone_holds : Picked → Point → Bool
zone_holds zone q = polygons_hold_by rings_hold (polygons_of zone) q

abbrev pub polygons_hold : List Picked → Point → Bool
polygons_hold = polygons_hold_by rings_hold

-- a rule is for this type where it names it, or has no field 78
unfoldable pub any_text : List Picked → List ℕ → Bool
any_text [] type = false
any_text (x ∷ l) type = elim (text_in x) [ None ↦ any_text l type | Some t ↦ same t type ⇒ true else any_text l type ]

unfoldable pub applies : Picked → List ℕ → Bool
applies rule type = elim (field 78 rule) [ None ↦ true | Some ids ↦ any_text (elements ids) type ]

-- the rules of the zones that count and hold the point, in file order; `holding` tells which hold it
unfoldable pub zone_rules_by : (holding : Picked → Point → Bool) → Picked → Point → ℕ → List Picked
zone_rules_by holding zone q moment =
    elim (field 74 zone) [
      | None ↦ []
      | Some properties ↦ counts properties moment and holding zone q ⇒ field_items 77 properties else []
    ]

unfoldable pub rules_by : (holding : Picked → Point → Bool) → List Picked → Point → ℕ → List Picked
rules_by holding [] q moment = []
rules_by holding (z ∷ zs) q moment = zone_rules_by holding z q moment ++ rules_by holding zs q moment

abbrev pub zone_rules : Picked → Point → ℕ → List Picked
zone_rules = zone_rules_by zone_holds

abbrev pub rules : List Picked → Point → ℕ → List Picked
rules = rules_by zone_holds

-- those of them that are for the type
unfoldable pub applicable : List Picked → List ℕ → List Picked
applicable [] type = []
applicable (r ∷ rs) type = applies r type ⇒ r ∷ applicable rs type else applicable rs type

-- by a table, the zones of a file, by its bytes, and the rules of it that apply
abbrev pub zones_of : Table → List ℕ → List Picked
zones_of t s = records_in (file_shape t 6) s

unfoldable pub rules_at : Table → (s : List ℕ) → Point → List ℕ → ℕ → List Picked
rules_at t s q type moment = applicable (rules_by zone_holds (zones_of t s) q moment) type

-- a value as the first rule that gives it has it; one that is missing or "" is not given
unfoldable pub first_given : {A : Type 0} → (Picked → Option A) → List Picked → Option A
first_given value [] = None
first_given value (r ∷ rs) = option_or (value r) (first_given value rs)
