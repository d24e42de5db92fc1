-- The question "show record" on files, computed: the order of checking, and where records stand.
use Rattle.std.specs.Prelude.{List, [], ◌∷◌, ◌++◌, refl, ℕ, Option, None, Some}
use Rattle.notation.specs.Case.{Case, Answers, json}
use Rattle.word.specs.Word.{no_parts}
use Rattle.json_text.specs.Tree.{Json}
use Rattle.walk.specs.Walk.{part}
use Rattle.walk.specs.Part as walk
use Rattle.schema.specs.Shape.{file_shape}
use Rattle.schema.specs.Tables.{table_at}
use Rattle.schema.specs.Records.{identified}
use Rattle.schema.specs.Pick as pick
use Rattle.slots.specs.Cases.{gathering}
use Rattle.slots.specs.Found.{found_in}
use Rattle.document.specs.Document as document
use Rattle.document.specs.Spans.{members_along, top_span, records_span, nth, record_span}
use Rattle.document.specs.Trees.{value_along, listed, record_trees, numbered}
use Rattle.judge.specs.Cases.{judging, in_data}
use Rattle.clean.specs.Clean.{tree_of, records_of, used_before, repeated_id, repeats_from, repeats, clean_by}
use Rattle.clean.specs.Show.{Answer, refused, shown, shown_by, shown_of}

-- opens every definition of this layer
unfoldable pub showing : Unit {0}
unfolding judging identified gathering found_in pick.slot_of document.field document.along document.text members_along top_span records_span nth record_span value_along listed record_trees numbered tree_of records_of used_before repeated_id repeats_from repeats clean_by shown_by
showing = tt

-- a file of two vehicle types, with blanks around them and a brace in a name
abbrev types : List ℕ
types =
    in_data (json "{'vehicle_types':[ {'vehicle_type_id':'a','form_factor':'bicycle','propulsion_type':'human'} , {'vehicle_type_id':'b','form_factor':'car','propulsion_type':'human','}':[{}]} ]}")

-- a file without records, and one of regions
abbrev system : List ℕ
system = in_data (json "{'system_id':'s','language':'en','name':'n','timezone':'Europe/Paris'}")

abbrev regions : List ℕ → List ℕ
regions more = in_data (json "{'regions':[{'region_id':'r','name':'n'}" ++ more ++ json "]}")

abbrev noted : (file kind field rec : ℕ) → Answer
noted file kind field rec = refused 5 (record { file = file; kind = kind; field = field; «record» = rec; sub = 0; offset = 0 })

-- a file's number, a record's number and the file
abbrev questions : List (Case (ℕ × ℕ × List ℕ) Answer)
questions =
    ("records are counted from 1", (1, 0, types), refused 10 no_parts) ∷
    ("the first", (1, 1, types), shown 68 141) ∷
    ("the second", (1, 2, types), shown 144 222) ∷
    ("none past the last", (1, 3, types), refused 10 no_parts) ∷
    ("none of an absent file", (1, 1, []), refused 10 no_parts) ∷
    ("no file 0, whatever it is", (0, 1, json "7"), refused 10 no_parts) ∷
    ("no file 9", (9, 1, json "7"), refused 10 no_parts) ∷
    ("no file 257", (257, 1, json "7"), refused 10 no_parts) ∷
    ("a file that is not clean, whatever the record", (1, 0, json "7"), noted 1 7 0 0) ∷
    ("file 7 has no records", (7, 1, system), refused 10 no_parts) ∷
    ("and may not be clean", (7, 1, json "7"), noted 7 7 0 0) ∷
    ("a region", (8, 1, regions []), shown 61 89) ∷
    ("an id that two regions have", (8, 1, regions (json ",{'name':'m','region_id':'r'}")), noted 8 12 100 2) ∷
    []

questions-answered : Answers (λ c. shown_of (table_at 0) c.0 c.1 c.2) questions
unfolding showing
questions-answered = refl

-- the records of that file in its tree
abbrev trees : List (Case ℕ (Option Json))
trees =
    ("records are counted from 1", 0, None) ∷
    ("the first", 1, Some (walk.part_tree (part types 68 141))) ∷
    ("the second", 2, Some (walk.part_tree (part types 144 222))) ∷
    ("none past the last", 3, None) ∷
    []

trees-answered : Answers (λ n. numbered n (record_trees (file_shape (table_at 0) 1) (tree_of types))) trees
unfolding showing
trees-answered = refl
