-- The part of the code's text at the word's range is that word, since the text is all words one after the other, by computation.
use native.Mathlib.Omega.{arith}
use Rattle.schema.specs.Tables.{sheets, written}
use Rattle.schema.specs.inner.Line.{words_of, laid_out}
use Rattle.schema.proofs.Computed.{words-length}
use Rattle.schema.proofs.Walk.{read_fits, read-part}
use Rattle.schema.proofs.words.word_at.Goals as goal

pub overflow_add-result : goal.overflow_add-result
overflow_add-result c =
    let a = c.args in
    omega (arith, read_fits (words_of sheets) a.k c.range_of-word.ensures, words-length)

pub slice_bounds-result-end : goal.slice_bounds-result-end
slice_bounds-result-end c =
    let a = c.args in
    omega (arith, read_fits (words_of sheets) a.k c.range_of-word.ensures, words-length)

pub returns : goal.returns
unfolding laid_out written
returns c = read-part (words_of sheets) c.args.k c.range_of-word.ensures
