-- What a word holds of a fault, and which kinds are those of stage B.
use Rattle.std.specs.Prelude.{ℕ, ◌≤◌}
use Rattle.word.specs.Form.{written_form}
use Rattle.word.specs.Kinds.{name_twice, bad_ring}
use Rattle.fault.specs.declared.Fault.{Fault}

-- the greatest number of a record or an item: twelve bits
abbrev pub greatest : ℕ
greatest = 4_095

abbrev pub fields : ℕ
fields = written_form.fields

-- the kinds of stage B
pub record OfStageB (kind : ℕ) : Type 0 where
  pub least : name_twice ≤ kind
  pub most : kind ≤ bad_ring

-- a fault of stage B that the word can say
pub record Fitting (f : Fault) : Type 0 where
  pub rec : f.«record» ≤ greatest
  pub field : f.field ≤ fields
  pub sub : f.sub ≤ greatest
  pub kind : OfStageB f.kind
