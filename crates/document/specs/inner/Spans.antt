-- What is known of a file before its records are looked for, and the rests that the search answers with.
use Rattle.std.specs.Prelude.{false, List, [], ◌≡◌, ℕ, ◌≤◌, length, take, drop, Some, Ok}
use Rattle.json_text.specs.Tree.{Json, Items}
use Rattle.json_text.specs.Text.{syntax_of}
use Rattle.walk.specs.Walk.{part}
use Rattle.walk.specs.Part.{Whole}
use Rattle.schema.specs.Tables.{sheet_shape}
use Rattle.schema.specs.Records.{has_records}
use Rattle.slots.specs.declared.Found.TheVariants.{Once}
use Rattle.slots.specs.Found.{found_in}
use Rattle.document.specs.Spans.{records_span, spanning}

-- no file, or one that stage A passed
pub data Readable (s : List ℕ) : Type 0 where
  absent : s ≡ [] → Readable s
  sound : syntax_of s ≡ Ok tt → Readable s

-- no file, one of a sheet without records, or one that stage A passed with an array for its records
pub data Listed (sheet : ℕ) (s : List ℕ) : Type 0 where
  absent : s ≡ [] → Listed sheet s
  recordless : has_records sheet ≡ false → Listed sheet s
  listed : {is : Items} (from upto : ℕ) → syntax_of s ≡ Ok tt → records_span (sheet_shape sheet) s ≡ Some (spanning from upto) → Whole (part s from upto) (Json.array is) → Listed sheet s

-- r is a rest of p: of an object at the front of p, n bytes long, the rest from the value on that it has once under the name
pub record ValueFrom (p name r : List ℕ) : Type 0 where
  pub inside : length r ≤ length p
  pub starts : (n : ℕ) (x : Json) → Whole (take n p) x → (from upto : ℕ) → found_in (take n p) name ≡ Once from upto → r ≡ drop from p

-- r is a rest of s: of a file that stage A passed, the rest from its records on; of a file without records no bytes
pub record RecordsFrom (sheet : ℕ) (s r : List ℕ) : Type 0 where
  pub inside : length r ≤ length s
  pub none : has_records sheet ≡ false → r ≡ []
  pub starts : syntax_of s ≡ Ok tt → (from upto : ℕ) → records_span (sheet_shape sheet) s ≡ Some (spanning from upto) → r ≡ drop from s
