-- The verdict on a feed set: document 01, "Kinds" and the first row of the table of questions. Stage by stage, file by file, the first broken rule is
-- named; `broken_rules` lists all that count, and `before` is their order.
use Rattle.std.specs.Prelude.{Bool, true, false, List, [], ◌∷◌, ◌++◌, map, ℕ, zero, suc, ◌+◌, ltb, length, drop, Result, Err, Ok}
use Rattle.notation.specs.Choice.{◌⇒◌else◌}
use Rattle.word.specs.declared.Parts.{Parts}
use Rattle.word.specs.Form.{written_form, word_size}
use Rattle.word.specs.Word.{no_parts, word_of}
use Rattle.json_text.specs.Text.{syntax_of}
use Rattle.schema.specs.Shape.{Table, file_shape}
use Rattle.schema.specs.Pick.{PickedItems}
use Rattle.fault.specs.declared.Fault.{Fault}
use Rattle.fault.specs.Fault as fault
use Rattle.fault.specs.Outcome.{file_count, syntax_parts, fault_parts, Outcome, unbroken}
use Rattle.rings.specs.Rings.{Found, coordinates_found}
use Rattle.judge.specs.Faults.{file_faults_by}
use Rattle.clean.specs.Clean.{tree_of}
use Rattle.cross.specs.Cross.{cross_faults}
use Rattle.cross.specs.Stage.{Feeds, bytes_of, picked}
use Rattle.verdict.specs.declared.Acceptance.{Acceptance}
use Rattle.verdict.specs.declared.Acceptance.TheVariants.{NoRoom, Accepted, NotAccepted}
use Rattle.lexeme.specs.declared.SyntaxError.{SyntaxError}

-- what a file breaks in stage A, and by a table in stages B and C; an absent file breaks nothing in A and B
abbrev pub syntax_rules : ℕ → Result (Unit {0}) SyntaxError → List Parts
syntax_rules file (Ok _) = []
syntax_rules file (Err w) = syntax_parts file w.kind w.offset ∷ []

abbrev pub rules_a : ℕ → List ℕ → List Parts
rules_a file [] = []
rules_a file (b ∷ s) = syntax_rules file (syntax_of (b ∷ s))

abbrev pub faults_b_by : (coordinates : PickedItems → List Found) → Table → (file : ℕ) → List ℕ → List Fault
faults_b_by coordinates t file [] = []
faults_b_by coordinates t file (b ∷ s) = file_faults_by coordinates (file_shape t file) (tree_of (b ∷ s))

-- what is said of `left` files, from the number `file` on; and of all
unfoldable pub each_from : {A : Type 0} → (ℕ → List A) → (file left : ℕ) → List A
each_from f file zero = []
each_from f file (suc left) = f file ++ each_from f (file + 1) left

abbrev pub every_file : {A : Type 0} → (ℕ → List A) → List A
every_file f = each_from f 1 file_count

unfoldable pub stage_a : Feeds → List Parts
stage_a s = every_file (λ file. rules_a file (bytes_of s file))

unfoldable pub stage_b_by : (coordinates : PickedItems → List Found) → Table → Feeds → List Parts
stage_b_by coordinates t s = every_file (λ file. map (fault_parts file) (faults_b_by coordinates t file (bytes_of s file)))

unfoldable pub stage_c : Table → Feeds → List Parts
stage_c t s = every_file (λ file. map (fault_parts file) (cross_faults t (picked t s) file))

-- the first stage that has any
abbrev pub or_else : {A : Type 0} → List A → List A → List A
or_else [] m = m
or_else (x ∷ l) m = x ∷ l

-- the broken rules of a set, by a table; `coordinates` tells what is found in field 73
unfoldable pub broken_rules_by : (coordinates : PickedItems → List Found) → Table → Feeds → List Parts
broken_rules_by coordinates t s = or_else (stage_a s) (or_else (stage_b_by coordinates t s) (stage_c t s))

abbrev pub broken_rules : Table → Feeds → List Parts
broken_rules = broken_rules_by coordinates_found

-- their order: by file, then record, field, sub and kind
unfoldable pub before : Parts → Parts → Bool
before p q =
    ltb p.file q.file ⇒ true else
    ltb q.file p.file ⇒ false else
    fault.before (fault.fault p.«record» p.field p.sub p.kind) (fault.fault q.«record» q.field q.sub q.kind)

-- the first of them
abbrev pub earlier : Parts → Outcome → Outcome
earlier p (Ok _) = Err p
earlier p (Err q) = before q p ⇒ Err q else Err p

unfoldable pub first : List Parts → Outcome
first [] = unbroken
first (p ∷ l) = earlier p (first l)

unfoldable pub verdict_of : Table → Feeds → Outcome
verdict_of t s = first (broken_rules t s)

-- an accepting word says nothing else
abbrev pub said : Outcome → Parts
said (Ok _) = no_parts
said (Err p) = p

abbrev pub accepts : Outcome → Bool
accepts (Ok _) = true
accepts (Err p) = false

-- The question "verdict": its number in the order of checking, and the buffer after the call: as it was without room for a word, else the word in front of its rest.
unfoldable pub verdict_number : Table → Feeds → (buffer : List ℕ) → ℕ
verdict_number t s buffer = ltb (length buffer) word_size ⇒ 2 else accepts (verdict_of t s) ⇒ 0 else 1

unfoldable pub buffer_of : Table → Feeds → (buffer : List ℕ) → List ℕ
buffer_of t s buffer = ltb (length buffer) word_size ⇒ buffer else word_of written_form (said (verdict_of t s)) ++ drop word_size buffer

-- the number of each case of the answer
abbrev pub number : Acceptance → ℕ
number NoRoom = 2
number Accepted = 0
number NotAccepted = 1
