-- Keys of ids: four bytes of each, behind a front that all ids have in common.
use Rattle.std.specs.Prelude.{List, ◌≡◌, ℕ, ◌<◌, leb, ltb, length, take, drop, get_or}
use Rattle.notation.specs.Choice.{◌⇒◌else◌}
use Rattle.text.specs.Ordering.{order_of}
use Rattle.text.specs.inner.Key.{key_of, Bytes}
use Rattle.sorting.specs.Ids.{id_at}
use Rattle.std.specs.declared.cmp.Ordering.{Ordering}
use Rattle.std.specs.declared.cmp.Ordering.TheVariants.{Less, Equal, Greater}

-- the first n ids begin with the same bytes, as many as `skip`
abbrev pub SameFront : (ids : ℕ → List ℕ) → (n skip : ℕ) → Type 0
SameFront ids n skip = (i j : ℕ) → i < n → j < n → take skip (ids i) ≡ take skip (ids j)

-- the first n of the keys are those of the ids, behind such a front
pub record Keyed (ids : ℕ → List ℕ) (n skip : ℕ) (keys : List ℕ) : Type 0 where
  pub front : SameFront ids n skip
  pub bytes : (k : ℕ) → k < n → Bytes (ids k)
  pub key : (k : ℕ) → k < n → get_or keys k 0 ≡ key_of (drop skip (ids k))

-- of two of the first n ids the one with the lesser key comes first
abbrev pub Telling : (ids : ℕ → List ℕ) → (n : ℕ) → (keys : List ℕ) → Type 0
Telling ids n keys = (i j : ℕ) → i < n → j < n → get_or keys i 0 < get_or keys j 0 → order_of (ids i) (ids j) ≡ Less

-- the keys of records tell so, whose ids stand in p
abbrev pub Tells : (p places keys : List ℕ) → Type 0
Tells p places keys = Telling (id_at p places) (length keys) keys

-- what the keys of the records i and j say on the order of their ids: Equal where they say nothing
unfoldable pub key_order : (keys : List ℕ) → (i j : ℕ) → Ordering
key_order keys i j =
    leb (length keys) i ⇒ Equal else
    leb (length keys) j ⇒ Equal else
    ltb (get_or keys i 0) (get_or keys j 0) ⇒ Less else
    ltb (get_or keys j 0) (get_or keys i 0) ⇒ Greater else Equal

-- how the i-th id stands to an id whose key is `wanted`: by the keys where they differ
unfoldable pub by_keys : (ids : ℕ → List ℕ) → (keys id : List ℕ) → (wanted i : ℕ) → Ordering
by_keys ids keys id wanted i = ltb (get_or keys i 0) wanted ⇒ Less else ltb wanted (get_or keys i 0) ⇒ Greater else order_of (ids i) id
