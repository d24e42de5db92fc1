-- A file without its set: document 01, below the table of questions. It is clean where neither stage A nor stage B nor kind 12 has anything against it.
use Rattle.std.specs.Prelude.{List, [], ◌∷◌, ◌++◌, map, ℕ, ◌+◌, Result, Err, Ok, None, Some}
use Rattle.notation.specs.Choice.{◌⇒◌else◌}
use Rattle.limits.specs.Ceilings.{depth}
use Rattle.word.specs.Kinds.{id_twice}
use Rattle.lexeme.specs.Read.Read.{done, bad}
use Rattle.lexeme.specs.Character.{paired}
use Rattle.json_text.specs.Tree.{Json}
use Rattle.json_text.specs.Text.{text, syntax_of}
use Rattle.text.specs.Text.{same}
use Rattle.schema.specs.Shape.{Shape, Table, file_shape}
use Rattle.schema.specs.Records.{way_in, id_of}
use Rattle.schema.specs.Pick.{Picked, PickedItems, pick}
use Rattle.fault.specs.declared.Fault.{Fault}
use Rattle.fault.specs.Fault.{fault, least}
use Rattle.fault.specs.Outcome.{syntax_parts, outcome_of, or_next, Outcome, unbroken}
use Rattle.document.specs.Document as document
use Rattle.document.specs.Document.{elements_of, along}
use Rattle.rings.specs.Rings.{Found, coordinates_found}
use Rattle.judge.specs.Faults.{file_faults_by}
use Rattle.lexeme.specs.declared.SyntaxError.{SyntaxError}

-- the tree of a file that stage A passes
unfoldable pub tree_of : List ℕ → Json
tree_of s = elim (text paired depth s) [ done x r ↦ x | bad k r ↦ Json.null ]

-- the records of a picked file of this shape; and of its bytes
unfoldable pub records_of : Shape → Picked → List Picked
records_of σ x = elim (way_in σ) [ None ↦ [] | Some w ↦ elements_of (along (map (λ k. k.field) w.keys) x) ]

abbrev pub records_in : Shape → List ℕ → List Picked
records_in σ s = records_of σ (pick σ (tree_of s))

-- a record before has this id
unfoldable pub used_before : ℕ → List Picked → List ℕ → List ℕ
used_before f [] id = []
used_before f (y ∷ passed) id =
    elim (document.text f y) [ None ↦ used_before f passed id | Some t ↦ same t id ⇒ id_twice ∷ [] else used_before f passed id ]

unfoldable pub repeated_id : ℕ → ℕ → List Picked → Picked → List Fault
repeated_id f n passed x =
    elim (document.text f x) [
      | None ↦ []
      | Some id ↦ elim (used_before f passed id) [ [] ↦ [] | k ∷ ks ↦ fault n f 0 k ∷ [] ]
    ]

-- record after record; `passed` are those before
unfoldable pub repeats_from : ℕ → ℕ → List Picked → List Picked → List Fault
repeats_from f n passed [] = []
repeats_from f n passed (x ∷ l) = repeated_id f n passed x ++ repeats_from f (n + 1) (x ∷ passed) l

-- kind 12 over all records of a file, by its records and by the picked file
abbrev pub repeats_in : Shape → List Picked → List Fault
repeats_in σ l = elim (id_of σ) [ None ↦ [] | Some k ↦ repeats_from k.field 1 [] l ]

unfoldable pub repeats : Shape → Picked → List Fault
repeats σ x = repeats_in σ (records_of σ x)

-- what stage A tells of a file
abbrev pub syntax_outcome : ℕ → Result (Unit {0}) SyntaxError → Outcome
syntax_outcome file (Ok _) = unbroken
syntax_outcome file (Err w) = Err (syntax_parts file w.kind w.offset)

-- a file of this shape and number, of which stage A finds this; `coordinates` tells what is found in field 73
abbrev pub judged_by : (coordinates : PickedItems → List Found) → Shape → (file : ℕ) → List ℕ → Result (Unit {0}) SyntaxError → Outcome
judged_by coordinates σ file s x =
    or_next (syntax_outcome file x)
    (or_next (outcome_of file (least (file_faults_by coordinates σ (tree_of s))))
    (outcome_of file (least (repeats σ (pick σ (tree_of s))))))

-- an absent file is clean
unfoldable pub clean_by : (coordinates : PickedItems → List Found) → Shape → (file : ℕ) → List ℕ → Outcome
clean_by coordinates σ file [] = unbroken
clean_by coordinates σ file (b ∷ s) = judged_by coordinates σ file (b ∷ s) (syntax_of (b ∷ s))

abbrev pub clean_in : Shape → (file : ℕ) → List ℕ → Outcome
clean_in = clean_by coordinates_found

-- by a table
abbrev pub clean_of : Table → (file : ℕ) → List ℕ → Outcome
clean_of t file s = clean_in (file_shape t file) file s
