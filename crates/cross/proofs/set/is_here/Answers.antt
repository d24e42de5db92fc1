-- A file is there where it has bytes.
use mathlib.Core.List.{List}
use mathlib.Core.Path.{ap}
use Prim.Native.Nat.{ℕ}
use lib.Dec.{ltb}
use lib.ListN.{length}
use Rattle.cross.proofs.set.is_here.Goals as goal

pub returns : goal.returns
returns c = ap (λ (q : List ℕ). ltb 0 (length q)) c.file_in.ensures
