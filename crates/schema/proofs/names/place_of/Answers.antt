-- The sum is that of the definition; no part of it passes what a length below 32 and three bytes can give.
use native.Mathlib.Omega.{arith}
use Rattle.schema.specs.inner.Names.{place_of}
use Rattle.schema.proofs.names.place_of.Goals as goal

pub returns : goal.returns
unfolding place_of
returns c =
    (rw (c.from.ensures, c.from-2.ensures, c.from-3.ensures), omega arith)
