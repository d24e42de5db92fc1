-- One column after the other is put in order, then the keys, and the two numbers are written behind them.
use native.Mathlib.Omega.{arith}
use Rattle.ids.proofs.Gathers.{settled}
use Rattle.ids.proofs.gather.settle.Goals as goal

pub returns : goal.returns
returns c =
    let x = c.requires in settled x.0 c.gather.ensures c.gather-2.ensures c.put_keys.ensures

pub gather-requires : goal.gather-requires
gather-requires c = let x = c.requires in (x.0, (omega arith, omega arith), x.3)

pub gather-requires-2 : goal.gather-requires-2
gather-requires-2 c = let x = c.requires in (x.0, (omega arith, omega arith), c.gather.ensures.long)

pub put_keys-requires : goal.put_keys-requires
put_keys-requires c = let x = c.requires in (x.0, x.1, c.gather-2.ensures.long)

pub overflow_cast-notes : goal.overflow_cast-notes
overflow_cast-notes c = let x = c.requires in omega (arith, x.0.few)

pub overflow_cast-notes-2 : goal.overflow_cast-notes-2
overflow_cast-notes-2 c = let x = c.requires in omega (arith, x.2)
