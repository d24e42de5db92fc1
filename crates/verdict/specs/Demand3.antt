-- Demand 3: what may change in a feed set without changing an answer by any field table t, and what another version string leads to by a table that asks for one.
-- A file is known by what its bytes spell: blanks between tokens and escapes in strings may stand wherever RFC 8259 has them.
use Rattle.std.specs.Prelude.{List, [], ◌∷◌, ◌≡◌, ℕ, ◌≤◌, ◌<◌, length, take}
use Rattle.word.specs.Form.{word_size}
use Rattle.notation.specs.Ascii.{bytes}
use Rattle.limits.specs.Ceilings.{file_bytes, depth}
use Rattle.json_text.specs.Tree as tree
use Rattle.json_text.specs.Tree.{Json, Members}
use Rattle.json_text.specs.Spelling.{Spells}
use Rattle.json_text.specs.Grammar.{IsText}
use Rattle.word.specs.declared.Parts.{Parts}
use Rattle.word.specs.Kinds.{too_long, too_deep}
use Rattle.schema.specs.Shape.{Rows, Table, required, exactly, object, file_shape, ◌·◌·◌∶◌▸◌}
use Rattle.schema.specs.Later.{Later}
use Rattle.judge.specs.Bounds.{OfStageB}
use Rattle.geometry.specs.Ring.{Point}
use Rattle.fault.specs.Outcome.{file_count}
use Rattle.quote.specs.Quote.{quote_of}
use Rattle.zone.specs.Answer.{ruling_of}
use Rattle.cross.specs.Stage.{Feeds, bytes_of}
use Rattle.verdict.specs.Verdict.{verdict_number, buffer_of}
use Rattle.verdict.specs.Demand2.{Says}

-- a well-formed file within length and depth, every surrogate escape paired, and the tree that it spells
pub record WellFormed (s : List ℕ) (x : Json) : Type 0 where
  pub short : length s ≤ file_bytes
  pub spells : Spells depth x s

-- a file and a later one: both absent, or both well formed, and the tree that the later one spells is later
pub data LaterFile (t : Table) (file : ℕ) : List ℕ → List ℕ → Type 0 where
  absent : LaterFile t file [] []
  present : {s u : List ℕ} {x y : Json} → WellFormed s x → WellFormed u y → Later (file_shape t file ∷ []) x y → LaterFile t file s u

-- a set and a later one, file by file
abbrev pub LaterSet : Table → Feeds → Feeds → Type 0
LaterSet t s u = (file : ℕ) → 1 ≤ file → file ≤ file_count → LaterFile t file (bytes_of s file) (bytes_of u file)

-- the answers of two sets agree: number and word of the verdict wherever there is room for a word, and all that quotes and zone rules return
pub record Agree (t : Table) (s u : Feeds) : Type 0 where
  pub verdicts : (b c : List ℕ) → word_size ≤ length b → word_size ≤ length c → (verdict_number t s b ≡ verdict_number t u c) × (take word_size (buffer_of t s b) ≡ take word_size (buffer_of t u c))
  pub quotes : (id : List ℕ) (seconds metres : ℕ) → quote_of t (bytes_of s 5) id seconds metres ≡ quote_of t (bytes_of u 5) id seconds metres
  pub zones : (q : Point) (type : List ℕ) (moment : ℕ) → ruling_of t (bytes_of s 6) q type moment ≡ ruling_of t (bytes_of u 6) q type moment

-- a table asks every file for version 2.3, by the first row of its shape
abbrev pub AsksVersion : Table → Type 0
AsksVersion t = (file : ℕ) → 1 ≤ file → file ≤ file_count → (rows : Rows) × (file_shape t file ≡ object (1 · required · "version" ∶ exactly (bytes "2.3") ▸ rows))

-- a member of this name holds this string
pub data Holds (name value : List ℕ) : Members → Type 0 where
  here : {ms : Members} → Holds name value (tree.member name (tree.string value) ms)
  later : {n : List ℕ} {x : Json} {ms : Members} → Holds name value ms → Holds name value (tree.member n x ms)

-- an object that holds a version string other than 2.3
pub data Outdated : Json → Type 0 where
  outdated : {v : List ℕ} {ms : Members} → Holds (bytes "version") v ms → (v ≡ bytes "2.3" → ⊥) → Outdated (tree.object ms)

-- A file of another version: a JSON text of any length and depth, and the tree that it spells is such an object. One that has a lone surrogate escape
-- spells no tree, and is refused whatever its version.
pub record OtherVersion (s : List ℕ) : Type 0 where
  pub json : IsText s
  pub version : {levels : ℕ} {x : Json} → Spells levels x s → Outdated x

-- the kinds of stage A
pub record OfStageA (kind : ℕ) : Type 0 where
  pub least : too_long ≤ kind
  pub most : kind ≤ too_deep

-- field 1 of the file, or what comes ahead of it: stage A of any file; in stage B an earlier file, or an earlier field of this one's header
pub data Ahead (file : ℕ) (p : Parts) : Type 0 where
  malformed : OfStageA p.kind → Ahead file p
  earlier : OfStageB p.kind → p.file < file → Ahead file p
  header : OfStageB p.kind → p.file ≡ file → p.«record» ≡ 0 → p.field ≤ 1 → Ahead file p

-- the call does not accept the set, and names one of these
pub record Refused (t : Table) (s : Feeds) (file : ℕ) : Type 0 where
  pub parts : Parts
  pub ahead : Ahead file parts
  pub told : Says t s 1 parts

-- the demand, undivided; its last sentence is of tables that ask for the version, as that of 2.3 does (`Demands`)
pub record Demand3 (t : Table) : Type 0 where
  pub unmoved : (s u : Feeds) → LaterSet t s u → Agree t s u
  pub other_version : AsksVersion t → (s : Feeds) (file : ℕ) → 1 ≤ file → file ≤ file_count → OtherVersion (bytes_of s file) → Refused t s file
