-- Orders of records, computed.
use Rattle.std.specs.Prelude.{List, [], ◌∷◌, refl, ℕ, length, drop, get_or}
use Rattle.notation.specs.Ascii.{bytes}
use Rattle.notation.specs.Case.{Case, Answers}
use Rattle.text.specs.inner.Key.{key_of}
use Rattle.text.specs.Cases.{comparing}
use Rattle.sorting.specs.Sorting.{insert, sorted, numbers}
use Rattle.sorting.specs.declared.Lookup.{Lookup}
use Rattle.sorting.specs.Ids.{id_at, not_after}
use Rattle.sorting.specs.Repeats.{same_id, used_before, repeat_from, first_repeat}
use Rattle.sorting.specs.inner.Keys.{key_order, by_keys}
use Rattle.sorting.specs.inner.Halves.{found_by}
use Rattle.std.specs.declared.cmp.Ordering.{Ordering}
use Rattle.std.specs.declared.cmp.Ordering.TheVariants.{Less, Equal, Greater}

-- opens every definition of this layer
unfoldable pub sorting : Unit {0}
unfolding comparing insert sorted numbers not_after by_keys key_order found_by same_id used_before repeat_from
sorting = tt

-- records with these ids, in order
abbrev orders : List (Case (List (List ℕ)) (List ℕ))
orders =
    ("none", [], []) ∷
    ("by the first byte that differs", bytes "ac" ∷ bytes "ab" ∷ bytes "b" ∷ [], 1 ∷ 0 ∷ 2 ∷ []) ∷
    ("a prefix first", bytes "ab" ∷ bytes "a" ∷ [], 1 ∷ 0 ∷ []) ∷
    ("equal ids by record", bytes "b" ∷ bytes "a" ∷ bytes "b" ∷ bytes "a" ∷ [], 1 ∷ 3 ∷ 0 ∷ 2 ∷ []) ∷
    ("no id comes first", bytes "a" ∷ [] ∷ [], 1 ∷ 0 ∷ []) ∷
    ("past ASCII last", (0xc3 ∷ 0xa9 ∷ []) ∷ bytes "z" ∷ bytes "A" ∷ [], 2 ∷ 1 ∷ 0 ∷ []) ∷
    []

orders-answered : Answers (λ l. sorted (not_after (λ k. get_or l k [])) (numbers 0 (length l))) orders
unfolding sorting
orders-answered = refl

-- the ids of three records, of which the second has none, by their places in an array
abbrev places : List (Case ℕ (List ℕ))
places =
    ("up to its quotation mark", 0, bytes "b") ∷
    ("none", 1, []) ∷
    ("decoded", 2, bytes "a") ∷
    []

places-answered : Answers (id_at (bytes "[{\"id\":\"b\"},{},{\"id\":\"\\u0061\"}]") (8 ∷ 31 ∷ 22 ∷ [])) places
unfolding sorting
places-answered = refl

-- the ids of four records, in order
abbrev ids : ℕ → List ℕ
ids k = get_or (bytes "id-a" ∷ bytes "id-b" ∷ bytes "id-b" ∷ bytes "id-dddde" ∷ []) k []

-- what is found of them by their keys behind three bytes, with a number of reads at most
abbrev lookups : List (Case (List ℕ × ℕ) Lookup)
lookups =
    ("the one in the middle, by one read", (bytes "id-b", 14), record { met = 3; left = 13 }) ∷
    ("the last, by two", (bytes "id-dddde", 14), record { met = 4; left = 12 }) ∷
    ("the first, by three", (bytes "id-a", 14), record { met = 1; left = 11 }) ∷
    ("none between two", (bytes "id-c", 14), record { met = 0; left = 12 }) ∷
    ("none with the key of one", (bytes "id-ddddf", 14), record { met = 0; left = 12 }) ∷
    ("none before the first", (bytes "id-A", 14), record { met = 0; left = 11 }) ∷
    ("none with another front", (bytes "ID-b", 14), record { met = 0; left = 11 }) ∷
    ("nothing once the reads are used up", (bytes "id-dddde", 1), record { met = 0; left = 0 }) ∷
    []

lookups-answered : Answers (λ c. found_by (by_keys ids (0x61000000 ∷ 0x62000000 ∷ 0x62000000 ∷ 0x64646464 ∷ []) c.0 (key_of (drop 3 c.0))) c.1 0 4) lookups
unfolding sorting
lookups-answered = refl

-- what the keys of two records say on their order
abbrev keyed : List (Case (ℕ × ℕ) Ordering)
keyed =
    ("the lesser first", (0, 1), Less) ∷
    ("the greater first", (1, 0), Greater) ∷
    ("nothing where they are the same", (1, 2), Equal) ∷
    ("nothing where one is missing", (0, 3), Equal) ∷
    []

keyed-answered : Answers (λ c. key_order (5 ∷ 7 ∷ 7 ∷ []) c.0 c.1) keyed
unfolding sorting
keyed-answered = refl

-- the first record, counted from 1, whose id one before it has
abbrev repeats : List (Case (List (List ℕ)) ℕ)
repeats =
    ("all differ", bytes "a" ∷ bytes "b" ∷ [], 0) ∷
    ("the first of two", bytes "b" ∷ bytes "a" ∷ bytes "b" ∷ bytes "a" ∷ [], 3) ∷
    ("a third with the id", bytes "a" ∷ bytes "b" ∷ bytes "a" ∷ bytes "a" ∷ [], 3) ∷
    ("no ids", [] ∷ [] ∷ [], 0) ∷
    []

repeats-answered : Answers (λ l. first_repeat (λ k. get_or l k []) (length l)) repeats
unfolding sorting
repeats-answered = refl
