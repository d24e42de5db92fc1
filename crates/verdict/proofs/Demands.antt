-- The demands hold by the table of every number, and the number 0 is that of version 2.3, whose files all begin with their version.
use mathlib.Core.Path.{subst}
use Rattle.schema.proofs.SheetShapes.{first-table}
use Rattle.verdict.specs.Demand2.{Demand2}
use Rattle.verdict.specs.Demand3.{AsksVersion, Demand3}
use Rattle.verdict.specs.Demands.{Demands}
use Rattle.verdict.proofs.Demand2.{demand_2}
use Rattle.verdict.proofs.Demand3.{demand_3, first-asks}

pub demands : Demands
demands =
    record { demand2 = subst Demand2 first-table (demand_2 0); demand3 = subst Demand3 first-table (demand_3 0); version = subst AsksVersion first-table first-asks }
