-- The ids of a file's own records: what a record has as its id and where, which records have a given id, and the first record whose id one before it has.
use Rattle.std.specs.Prelude.{Bool, true, false, ◌≡◌, ℕ, zero, suc, ◌+◌, ◌≤◌, ◌<◌, eqb, length, drop, get_or, Option, None, Some}
use mathlib.Core.List.{List, [], ◌∷◌, ◌++◌, map, Memᴰ}
use Rattle.limits.specs.Ceilings.{file_bytes}
use Rattle.notation.specs.Ascii.{bytes}
use Rattle.notation.specs.Choice.{◌⇒◌else◌, ◌and◌}
use Rattle.json_text.specs.Tree as tree
use Rattle.json_text.specs.Tree.{Members}
use Rattle.text.specs.Text.{text_of}
use Rattle.walk.specs.declared.Item.{Item}
use Rattle.walk.specs.Walk.{items_of}
use Rattle.walk.specs.Part.{Whole, part_tree}
use Rattle.walk.specs.inner.Along.{AlongMembers}
use Rattle.walk.proofs.Folds.{Walk, member_steps}
use Rattle.walk.proofs.Parts.{item_of}
use Rattle.schema.specs.Records.{id_key}
use Rattle.slots.specs.declared.Found.TheVariants.{Missing, Twice}
use Rattle.slots.specs.Found.{noted, found_in}
use Rattle.document.specs.inner.Values.{member_of, text_by, there_by, is_id}
use Rattle.ids.specs.declared.IdText.{IdText}
use Rattle.ids.specs.References.{not_human}

-- the field and the name of the ids of a file's own records; 0 and no bytes where they have none
unfoldable pub id_field : ℕ → ℕ
id_field sheet = elim (id_key sheet) [ None ↦ 0 | Some k ↦ k.field ]

unfoldable pub id_name : ℕ → List ℕ
id_name sheet = elim (id_key sheet) [ None ↦ [] | Some k ↦ k.name ]

-- what a record holds as its id
unfoldable pub id_value : ℕ → List ℕ → List ℕ
id_value sheet q = member_of q (id_name sheet)

-- the text of a record's id
abbrev pub id_of : ℕ → List ℕ → Option (List ℕ)
id_of sheet q = text_by (id_value sheet q)

-- no bytes where it has none
abbrev pub text_or : Option (List ℕ) → List ℕ
text_or None = []
text_or (Some id) = id

unfoldable pub id_text : ℕ → List ℕ → List ℕ
id_text sheet q = text_or (id_of sheet q)

-- a walk over the members of the record q has come to `at`, and none that it passed has the name of the file's ids
pub record NoIdBefore (sheet : ℕ) (q : List ℕ) (at : ℕ) : Type 0 where
  pub left : Walk (member_steps q) (noted q (id_name sheet)) Missing at (found_in q (id_name sheet))
  pub along : (0 < length q) → AlongMembers q at

-- a text of q, if there is one, begins at the place r, whatever follows q; that is never its first byte
pub record TextPlace (q : List ℕ) (text : Option (List ℕ)) (r : Option ℕ) : Type 0 where
  pub none : r ≡ None → text ≡ None
  pub some : (at : ℕ) → r ≡ Some at → (0 < at) × (id : List ℕ) × (text ≡ Some id) × ((s : List ℕ) → text_of (drop at (q ++ s)) ≡ id)

-- what a walk over the members of the record q tells of its id: where its member is looked for, and where its text begins
pub record IdTold (sheet : ℕ) (q : List ℕ) (r : IdText) : Type 0 where
  pub least : r.member ≤ file_bytes
  pub inside : (at : ℕ) → r.text ≡ Some at → at ≤ length q
  pub told : (ms : Members) → Whole q (tree.object ms) → (found_in q (id_name sheet) ≡ Twice → ⊥) → NoIdBefore sheet q r.member × TextPlace q (id_of sheet q) r.text

-- the record q is an object in which this name stands once at most
pub record IdOnce (sheet : ℕ) (q : List ℕ) : Type 0 where
  pub object : (ms : Members) × (part_tree q ≡ tree.object ms)
  pub once : found_in q (id_name sheet) ≡ Twice → ⊥

-- all records of an array are such objects
abbrev pub AllIdsOnce : ℕ → List ℕ → Type 0
AllIdsOnce sheet p = (m : Item) → Memᴰ m (items_of p) → IdOnce sheet (item_of p m)

-- a record has this id
abbrev pub has_id : ℕ → List ℕ → List ℕ → Bool
has_id sheet id q = is_id id (id_of sheet q)

-- the records of an array, as bytes
unfoldable pub record_bytes : List ℕ → List (List ℕ)
record_bytes p = map (item_of p) (items_of p)

-- the text of the id of the record k
abbrev pub ids_of : ℕ → List ℕ → ℕ → List ℕ
ids_of sheet p k = id_text sheet (get_or (record_bytes p) k [])

-- a record is of the sort that is asked about in its file
abbrev pub passing : ℕ → List ℕ → Bool
passing sheet q =
    eqb sheet 1 ⇒ not_human (text_by (member_of q (bytes "propulsion_type"))) else
    eqb sheet 2 ⇒ there_by (member_of q (bytes "capacity")) else true

-- a record has the id, and passes where that is asked
abbrev pub meeting : ℕ → Bool → List ℕ → List ℕ → Bool
meeting sheet tested id q = has_id sheet id q and (tested ⇒ passing sheet q else true)

-- one of the first n records has the id, and passes where that is asked
unfoldable pub any_meets : ℕ → Bool → List ℕ → List (List ℕ) → ℕ → Bool
any_meets sheet tested id rs zero = false
any_meets sheet tested id rs (suc n) = meeting sheet tested id (get_or rs n []) ⇒ true else any_meets sheet tested id rs n

-- one of the records has the id
unfoldable pub any_has : ℕ → List ℕ → List (List ℕ) → Bool
any_has sheet id [] = false
any_has sheet id (q ∷ l) = has_id sheet id q ⇒ true else any_has sheet id l

-- a record that is passed has the id of q
abbrev pub repeated : ℕ → List (List ℕ) → List ℕ → Bool
repeated sheet passed q = elim (id_of sheet q) [ None ↦ false | Some id ↦ any_has sheet id passed ]

-- the number of the first record whose id one before it has, where the first has the number n and `passed` are those before; 0 where there is none
unfoldable pub repeat_from : ℕ → ℕ → List (List ℕ) → List (List ℕ) → ℕ
repeat_from sheet n passed [] = 0
repeat_from sheet n passed (q ∷ l) = repeated sheet passed q ⇒ n else repeat_from sheet (n + 1) (q ∷ passed) l

unfoldable pub first_repeat : ℕ → List (List ℕ) → ℕ
first_repeat sheet rs = repeat_from sheet 1 [] rs

-- the first n records, the latest first
unfoldable pub earlier : List (List ℕ) → ℕ → List (List ℕ)
earlier rs zero = []
earlier rs (suc n) = get_or rs n [] ∷ earlier rs n
