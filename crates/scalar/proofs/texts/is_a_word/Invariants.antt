use mathlib.Core.Path.{◌≡◌}
use Prim.Native.Nat.{◌-◌, ◌≤◌}
use lib.ListN.{length, take, drop}
use Rattle.text.specs.Text.{text_of}
use Rattle.schema.specs.Tables.{sheets}
use Rattle.schema.specs.inner.Line.{words_of, words_at}
use Rattle.scalar.specs.Scalars.{any_word}
use Rattle.scalar.proofs.texts.is_a_word.Given as goal

abbrev pub invariant-loop-k : goal.invariant-loop-k
invariant-loop-k l =
    (l.end ≤ length (words_of sheets))
    × (any_word (take (l.end - l.k) (drop l.k (words_of sheets))) (text_of l.spelled) ≡ any_word (words_at sheets l.line) (text_of l.spelled))
