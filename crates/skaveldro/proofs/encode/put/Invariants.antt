-- Byte after byte; the loop keeps the buffer at the bytes put so far with the rest behind them.
use mathlib.Core.Path.{◌≡◌}
use Prim.Native.Nat.{◌*◌, ◌≤◌}
use lib.ListN.{length}
use Rattle.skaveldro.proofs.Filling.{upto}
use Rattle.skaveldro.proofs.encode.put.Given as goal

abbrev pub invariant-loop-i : goal.invariant-loop-i
invariant-loop-i l = (l.buffer ≡ upto l.fn.buffer l.values l.i) × (l.i ≤ 8 * length l.values)
