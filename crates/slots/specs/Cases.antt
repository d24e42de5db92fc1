-- Finding and gathering on cases, computed.
use Rattle.std.specs.Prelude.{List, [], ◌∷◌, ◌≡◌, refl, ℕ}
use Rattle.notation.specs.Ascii.{bytes}
use Rattle.notation.specs.Case.{Case, Answers}
use Rattle.text.specs.Text.{same}
use Rattle.walk.specs.Cases.{walking}
use Rattle.schema.specs.inner.Line.{laid_out}
use Rattle.schema.specs.Tables.{written}
use Rattle.slots.specs.declared.Found.{Found}
use Rattle.slots.specs.declared.Found.TheVariants.{Missing, Once, Twice}
use Rattle.slots.specs.declared.Slots.{Slots}
use Rattle.slots.specs.Found.{found_in}
use Rattle.slots.specs.inner.Rows.{names_at, line_names, row_named}
use Rattle.slots.specs.inner.Slots.{slot_at, put_in, gathered}

-- opens every definition of this layer
unfoldable pub gathering : Unit {0}
unfolding walking same found_in row_named slot_at put_in gathered
gathering = tt

-- an object, and a name in it
abbrev searches : List (Case (List ℕ × List ℕ) Found)
searches =
    ("at its place", (bytes "{\"a\":1,\"b\":22}", bytes "b"), Once 11 13) ∷
    ("names are decoded", (bytes "{\"\\u0061\":1}", bytes "a"), Once 10 11) ∷
    ("case counts", (bytes "{\"A\":1}", bytes "a"), Missing) ∷
    ("a name deeper down is not met", (bytes "{\"b\":{\"a\":1}}", bytes "a"), Missing) ∷
    ("twice, however it is spelled", (bytes "{\"a\":1,\"b\":2,\"\\u0061\":3}", bytes "a"), Twice) ∷
    ("three times is twice", (bytes "{\"a\":1,\"a\":1,\"a\":1}", bytes "a"), Twice) ∷
    []

searches-answered : Answers (λ c. found_in c.0 c.1) searches
unfolding gathering
searches-answered = refl

abbrev some : Slots
some = gathered (bytes "{\"c\":0,\"b\":1,\"x\":2,\"c\":3}") (bytes "a" ∷ bytes "b" ∷ bytes "c" ∷ [])

by_rows : slot_at some 0 ∷ slot_at some 1 ∷ slot_at some 2 ∷ [] ≡ Missing ∷ Once 11 12 ∷ Twice ∷ []
unfolding gathering
by_rows = refl

-- the names of an object's rows, of those in so many lines of the table from one on
abbrev rows : List (Case (ℕ × ℕ) (List (List ℕ)))
rows =
    ("a file's, lines of inner objects passed over", (0, 10), bytes "version" ∷ bytes "last_updated" ∷ bytes "ttl" ∷ bytes "data" ∷ []) ∷
    ("those of `data`", (4, 6), bytes "vehicle_types" ∷ []) ∷
    ("none past the last", (107, 10), bytes "region_id" ∷ bytes "name" ∷ []) ∷
    []

rows-answered : Answers (λ c. line_names c.0 c.1) rows
unfolding laid_out written names_at
rows-answered = refl
