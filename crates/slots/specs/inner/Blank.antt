-- The text with nothing in it, which counts as no value where a member is listed.
use Rattle.std.specs.Prelude.{Bool, true, false, List, [], ◌∷◌, ◌≡◌, ℕ, take}
use Rattle.json_text.specs.Tree as tree
use Rattle.json_text.specs.Tree.{Json}
use Rattle.walk.specs.Part.{Whole}
use Rattle.walk.specs.inner.Front.{Ends}

abbrev pub blank_text : Json → Bool
blank_text tree.null = false
blank_text (tree.boolean b) = false
blank_text (tree.number s) = false
blank_text (tree.string []) = true
blank_text (tree.string (b ∷ s)) = false
blank_text (tree.array is) = false
blank_text (tree.object ms) = false

-- r tells whether the value at the front of p is that text, which then ends behind its two quotation marks
pub record BeginsBlank (p : List ℕ) (r : Bool) : Type 0 where
  pub ends : r ≡ true → Ends p 2
  pub is : r ≡ true → (x : Json) → Whole (take 2 p) x → true ≡ blank_text x
  pub not : r ≡ false → (n : ℕ) (x : Json) → Whole (take n p) x → false ≡ blank_text x
