-- The question "show record n of file f", told by trees: of a clean file, the part that is shown is the n-th item of its array of records, from the bracket
-- that opens it to the one that closes it. Every number of a record is answered so, and no other.
use Rattle.std.specs.Prelude.{false, List, ◌++◌, ◌≡◌, ℕ, ◌≤◌, length, Some}
use Rattle.notation.specs.Ascii.{bytes}
use Rattle.word.specs.Word.{no_parts}
use Rattle.json_text.specs.Tree.{Json}
use Rattle.walk.specs.Walk.{part}
use Rattle.walk.specs.Part.{Whole}
use Rattle.schema.specs.Shape.{Shape, Table, file_shape}
use Rattle.schema.specs.Records.{way_in}
use Rattle.document.specs.Document.{given}
use Rattle.document.specs.Trees.{record_trees, numbered}
use Rattle.fault.specs.Outcome.{file_count, unbroken}
use Rattle.clean.specs.Clean.{tree_of, clean_in, clean_of}
use Rattle.clean.specs.Show.{refused, of_clean, shown_of}

-- s are the bytes of a clean file of this shape and number, which has a record n
pub record Has (σ : Shape) (file n : ℕ) (s : List ℕ) : Type 0 where
  pub least : 1 ≤ file
  pub most : file ≤ file_count
  pub clean : clean_in σ file s ≡ unbroken
  pub first : 1 ≤ n
  pub last : n ≤ length (record_trees σ (tree_of s))

-- The bytes of s from one place up to another are record n of a file of this shape: one whole value, with its brackets for first and last byte. Of two records that are
-- alike this does not say which is meant; the places of `shown_by` do.
pub record IsRecord (σ : Shape) (n : ℕ) (s : List ℕ) (from upto : ℕ) : Type 0 where
  pub tree : Json
  pub numbered : numbered n (record_trees σ (tree_of s)) ≡ Some tree
  pub inside : upto ≤ length s
  pub whole : Whole (part s from upto) tree
  pub between : List ℕ
  pub brackets : part s from upto ≡ bytes "{" ++ between ++ bytes "}"

pub record ShowsRecords (t : Table) : Type 0 where
  pub answered : (file n : ℕ) (s : List ℕ) → Has (file_shape t file) file n s → (shown_of t file n s).number ≡ 0
  pub only : (file n : ℕ) (s : List ℕ) → (shown_of t file n s).number ≡ 0 → Has (file_shape t file) file n s
  pub shows : (file n : ℕ) (s : List ℕ) → (shown_of t file n s).number ≡ 0 → IsRecord (file_shape t file) n s (shown_of t file n s).from (shown_of t file n s).upto
  -- a file without records shows none: 5 where it is not clean, else 10
  pub recordless : (file n : ℕ) (s : List ℕ) → 1 ≤ file → file ≤ file_count → given (way_in (file_shape t file)) ≡ false
      → shown_of t file n s ≡ of_clean (clean_of t file s) (refused 10 no_parts)
