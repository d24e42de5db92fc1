-- References between files, and the conditions that rest on them: document 01, "refers to" and the letter C of the field table.
use Rattle.std.specs.Prelude.{Bool, true, false, not, List, [], ◌∷◌, ℕ, Option, None, Some}
use Rattle.notation.specs.Ascii.{bytes}
use Rattle.notation.specs.Choice.{◌⇒◌else◌, ◌and◌}
use Rattle.word.specs.Kinds.{dangling, condition}
use Rattle.text.specs.Text.{same, same_word}
use Rattle.schema.specs.Pick.{Picked}
use Rattle.document.specs.Document.{field, text, given}

-- a kind where the test holds
abbrev pub kind_if : Bool → ℕ → List ℕ
kind_if true kind = kind ∷ []
kind_if false kind = []

-- some record of the list has this text in its field, and passes a test
unfoldable pub any_with : (Picked → Bool) → ℕ → List Picked → List ℕ → Bool
any_with test f [] id = false
any_with test f (x ∷ l) id =
    elim (text f x) [ None ↦ any_with test f l id | Some t ↦ same t id and test x ⇒ true else any_with test f l id ]

-- what is asked of a record that is referred to: that it is there; that it has a capacity; that its propulsion is not human
abbrev pub any : Picked → Bool
any x = true

abbrev pub has_capacity : Picked → Bool
has_capacity x = given (field 24 x)

abbrev pub not_human : Option (List ℕ) → Bool
not_human None = true
not_human (Some w) = not (same_word w (bytes "human"))

abbrev pub motorized : Picked → Bool
motorized x = not_human (text 12 x)

-- a record that the reference names passes the test, where a reference is given
abbrev pub named : (Picked → Bool) → ℕ → List Picked → Option (List ℕ) → Bool
named test f l None = false
named test f l (Some id) = any_with test f l id

-- a reference that is given names a record
abbrev pub refers : Option (List ℕ) → ℕ → List Picked → List ℕ
refers None f l = []
refers (Some id) f l = kind_if (not (any_with any f l id)) dangling

-- a field that is needed is given
abbrev pub demanded : (needed there : Bool) → List ℕ
demanded needed there = kind_if (needed and not there) condition
