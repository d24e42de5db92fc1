-- The first bytes of a text, as the code reads them into an array.
use Rattle.std.specs.Prelude.{List, ◌≡◌, ℕ, length, take}
use Rattle.schema.specs.declared.Prefix.{Prefix}

-- r has the first 32 bytes of the text x, or all of them
pub record Reads (x : List ℕ) (r : Prefix) : Type 0 where
  pub counted : r.count ≡ length (take r.count r.bytes)
  pub bytes : take r.count r.bytes ≡ take 32 x
