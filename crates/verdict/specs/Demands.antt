-- Demands 2 and 3 of the exported functions, which go by the table of version 2.3: each of its files asks for the version, so that demand 3 holds with its last
-- sentence. `proofs/Demands` shows it.
use Rattle.schema.specs.Table23.{table23}
use Rattle.verdict.specs.Demand2.{Demand2}
use Rattle.verdict.specs.Demand3.{AsksVersion, Demand3}

pub record Demands : Type 0 where
  pub demand2 : Demand2 table23
  pub demand3 : Demand3 table23
  pub version : AsksVersion table23
