-- The order of records by their ids: by the decoded bytes, and equal ids by record.
use Rattle.std.specs.Prelude.{Bool, true, false, List, ◌≡◌, ℕ, leb, length, drop, get_or}
use Rattle.text.specs.Text.{text_of}
use Rattle.text.specs.Ordering.{order_of}
use Rattle.sorting.specs.Sorting.{sorted, numbers}
use Rattle.std.specs.declared.cmp.Ordering.{Ordering}
use Rattle.std.specs.declared.cmp.Ordering.TheVariants.{Less, Equal, Greater}

-- the id of the record k in the bytes p, where `places` tells for each record where the text of its id begins; the text ends at its quotation mark
abbrev pub id_at : (p places : List ℕ) → ℕ → List ℕ
id_at p places k = text_of (drop (get_or places k 0) p)

-- of two records whose ids are in this order, the record i comes no later than the record j
abbrev pub by_order : Ordering → ℕ → ℕ → Bool
by_order Less i j = true
by_order Equal i j = leb i j
by_order Greater i j = false

-- of two records with any ids
unfoldable pub not_after : (ids : ℕ → List ℕ) → ℕ → ℕ → Bool
not_after ids i j = by_order (order_of (ids i) (ids j)) i j

-- the list has all records from 0 on, as many as it is long, in this order
abbrev pub Ordered : (ids : ℕ → List ℕ) → List ℕ → Type 0
Ordered ids order = order ≡ sorted (not_after ids) (numbers 0 (length order))
