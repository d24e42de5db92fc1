-- What the bytes of a plan's values say, as the code reads them.
use Rattle.std.specs.Prelude.{List, map, Option, None, Some, ℕ}
use Rattle.notation.specs.Choice.{◌⇒◌else◌}
use Rattle.notation.specs.Ascii.{bytes}
use Rattle.walk.specs.Walk.{part, items_of}
use Rattle.decimal.specs.declared.Amount.{Amount}
use Rattle.document.specs.Values.{integer_in}
use Rattle.document.specs.inner.Values.{member_of, spelled_by, text_by, there_by}
use Rattle.fare.specs.declared.Segment.{Segment}
use Rattle.quote.specs.Plan.{money_in, price_in}

-- a price, of its bytes; an end, where there are bytes; a segment, of those of its object
unfoldable pub price_by : List ℕ → Amount
price_by q = price_in (spelled_by q) (text_by q)

abbrev pub end_by : List ℕ → Option ℕ
end_by q = there_by q ⇒ Some (integer_in (spelled_by q)) else None

unfoldable pub segment_by : List ℕ → Segment
segment_by p =
    record {
      start = integer_in (spelled_by (member_of p (bytes "start")));
      rate = money_in (spelled_by (member_of p (bytes "rate")));
      interval = integer_in (spelled_by (member_of p (bytes "interval")));
      end = end_by (member_of p (bytes "end"));
    }

-- the segments in an array
unfoldable pub segments_by : List ℕ → List Segment
segments_by p = map (λ m. segment_by (part p m.value m.value_end)) (items_of p)
