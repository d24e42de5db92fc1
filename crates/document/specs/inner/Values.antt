-- What the bytes of a value say: an object's member, and by its kind a number, a text, a boolean, an array. No bytes stand for a value that
-- is not there. `proofs/FieldBytes` shows that these are the fields of the picked object.
use Rattle.std.specs.Prelude.{Bool, false, List, [], ℕ, eqb, ltb, length, get_or, Option, None, Some}
use Rattle.notation.specs.Choice.{◌⇒◌else◌}
use Rattle.text.specs.Text.{text_of, same}
use Rattle.walk.specs.declared.ValueKind.{ValueKind}
use Rattle.walk.specs.declared.ValueKind.TheVariants as kind
use Rattle.walk.specs.Walk.{part}
use Rattle.walk.specs.Part.{Whole, part_tree, inside}
use Rattle.walk.specs.inner.Kind.{kind_at}
use Rattle.slots.specs.declared.Found.{Found}
use Rattle.slots.specs.declared.Found.TheVariants.{Missing, Once, Twice}
use Rattle.slots.specs.Found.{found_in}
use Rattle.slots.specs.inner.Blank.{blank_text}

-- a kind by number
abbrev pub kind_code : ValueKind → ℕ
kind_code kind.Null = 0
kind_code kind.Boolean = 1
kind_code kind.Number = 2
kind_code kind.String = 3
kind_code kind.Array = 4
kind_code kind.Object = 5

-- what is found in p, unless it is the text with nothing in it
abbrev pub found_bytes : List ℕ → Found → List ℕ
found_bytes p Missing = []
found_bytes p (Once from upto) = blank_text (part_tree (part p from upto)) ⇒ [] else part p from upto
found_bytes p Twice = []

-- what is found there is a whole value
abbrev pub FoundWhole : List ℕ → Found → Type 0
FoundWhole p Missing = Unit {0}
FoundWhole p (Once from upto) = Whole (part p from upto) (part_tree (part p from upto))
FoundWhole p Twice = Unit {0}

-- the member of a name, in the object p
unfoldable pub member_of : (p name : List ℕ) → List ℕ
member_of p name = eqb (kind_code (kind_at p)) 5 ⇒ found_bytes p (found_in p name) else []

-- a truth, the spelling of a number, the text of a string, an array with its brackets, whether there is a value
unfoldable pub truth_by : List ℕ → Option Bool
truth_by q = eqb (kind_code (kind_at q)) 1 ⇒ Some (eqb (get_or q 0 0) 0x74) else None

unfoldable pub spelled_by : List ℕ → Option (List ℕ)
spelled_by q = eqb (kind_code (kind_at q)) 2 ⇒ Some q else None

unfoldable pub text_by : List ℕ → Option (List ℕ)
text_by q = eqb (kind_code (kind_at q)) 3 ⇒ Some (text_of (inside q)) else None

unfoldable pub array_by : List ℕ → List ℕ
array_by q = eqb (kind_code (kind_at q)) 4 ⇒ q else []

abbrev pub there_by : List ℕ → Bool
there_by q = ltb 0 (length q)

-- a text that is the id
abbrev pub is_id : List ℕ → Option (List ℕ) → Bool
is_id id None = false
is_id id (Some t) = same t id
