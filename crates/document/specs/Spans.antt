-- Where the records of a file stand in the caller's bytes: along the names that lead to them, and then item by item.
use Rattle.std.specs.Prelude.{List, [], ◌∷◌, map, ℕ, zero, suc, ◌+◌, Option, Some, None}
use Rattle.lexeme.specs.Read.Read.{done, bad}
use Rattle.lexeme.specs.Character.{paired}
use Rattle.lexeme.specs.Tokens.{blanks}
use Rattle.limits.specs.Ceilings.{depth}
use Rattle.json_text.specs.Text.{value}
use Rattle.walk.specs.declared.Item.{Item}
use Rattle.walk.specs.Walk.{offset_of, part, items_of}
use Rattle.schema.specs.Shape.{Shape}
use Rattle.schema.specs.Records.{way_in}
use Rattle.slots.specs.declared.Found.{Found}
use Rattle.slots.specs.declared.Found.TheVariants.{Once}
use Rattle.slots.specs.Found.{found_in}
use Rattle.document.specs.declared.Span.{Span}

abbrev pub spanning : (from upto : ℕ) → Span
spanning from upto = record { from = from; upto = upto }

-- a span inside the part that begins at a place
abbrev pub moved : ℕ → Found → Option Span
moved at (Once from upto) = Some (spanning (at + from) (at + upto))
moved at r = None

-- the member of a name, in the object at a span of s
abbrev pub member_span : List ℕ → List ℕ → Option Span → Option Span
member_span s name None = None
member_span s name (Some p) = moved p.from (found_in (part s p.from p.upto) name)

unfoldable pub members_along : List ℕ → List (List ℕ) → Option Span → Option Span
members_along s [] span = span
members_along s (name ∷ names) span = members_along s names (member_span s name span)

-- the value of the whole file
unfoldable pub top_span : List ℕ → Option Span
top_span s = elim (value paired depth (blanks s)) [ done x r ↦ Some (spanning (offset_of s (blanks s)) (offset_of s r)) | bad k r ↦ None ]

-- the array of records, in a file of this shape; none in one without records
unfoldable pub records_span : Shape → List ℕ → Option Span
records_span σ s = elim (way_in σ) [ None ↦ None | Some w ↦ members_along s (map (λ k. k.name) w.keys) (top_span s) ]

-- the n-th item, counted from 1, of a list of them
unfoldable pub nth : ℕ → List Item → ℕ → Option Span
nth at [] n = None
nth at (m ∷ l) zero = None
nth at (m ∷ l) (suc zero) = Some (spanning (at + m.value) (at + m.value_end))
nth at (m ∷ l) (suc (suc n)) = nth at l (suc n)

abbrev pub nth_in : List ℕ → Option Span → ℕ → Option Span
nth_in s None n = None
nth_in s (Some p) n = nth p.from (items_of (part s p.from p.upto)) n

unfoldable pub record_span : Shape → List ℕ → ℕ → Option Span
record_span σ s n = nth_in s (records_span σ s) n
