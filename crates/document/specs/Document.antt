-- What a picked file holds, by field numbers: its records, and the values of a record's fields. A field that is missing, or twice there, or of
-- another kind than asked for, gives nothing; in a file without faults it is never of another kind.
use Rattle.std.specs.Prelude.{Bool, List, [], ◌∷◌, ℕ, Option, None, Some}
pub use Rattle.notation.specs.Given.{given}
use Rattle.schema.specs.Pick.{Picked, Slot, bare, items, slots, missing, once, twice, slot_of, elements, by_value}

abbrev pub once_only : {A : Type 0} → Slot A → Option A
once_only missing = None
once_only (once x) = Some x
once_only twice = None

-- the value of a field of an object
unfoldable pub field : ℕ → Picked → Option Picked
field f (slots ss) = once_only (slot_of f ss)
field f (bare x) = None
field f (items is) = None

-- the items of an array
abbrev pub elements_of : Option Picked → List Picked
elements_of None = []
elements_of (Some x) = elements x

unfoldable pub field_items : ℕ → Picked → List Picked
field_items f x = elements_of (field f x)

-- the value behind a path of fields
unfoldable pub along : List ℕ → Picked → Option Picked
along [] x = Some x
along (f ∷ fs) x = elim (field f x) [ None ↦ None | Some y ↦ along fs y ]

-- the text of a string, the spelling of a number, the truth of a boolean
abbrev pub text_in : Picked → Option (List ℕ)
text_in x = by_value (λ b. None) (λ n. None) (λ s. Some s) None x

abbrev pub spelling_in : Picked → Option (List ℕ)
spelling_in x = by_value (λ b. None) (λ n. Some n) (λ s. None) None x

abbrev pub truth_in : Picked → Option Bool
truth_in x = by_value (λ b. Some b) (λ n. None) (λ s. None) None x

abbrev pub then : {A B : Type 0} → Option A → (A → Option B) → Option B
then None f = None
then (Some x) f = f x

unfoldable pub text : ℕ → Picked → Option (List ℕ)
text f x = then (field f x) text_in

unfoldable pub spelling : ℕ → Picked → Option (List ℕ)
spelling f x = then (field f x) spelling_in

unfoldable pub truth : ℕ → Picked → Option Bool
truth f x = then (field f x) truth_in
