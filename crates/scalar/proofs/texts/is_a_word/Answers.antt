-- Whether the text is one of the words that are left says whether it is one of the line's. All words hold the line's, so none is past them.
use mathlib.Core.Path.{ap, sym, ◌∙◌}
use native.Mathlib.Omega.{arith}
use Rattle.text.specs.Text.{text_of}
use Rattle.schema.specs.Tables.{sheets}
use Rattle.schema.specs.inner.Line.{line_words, words_of}
use Rattle.schema.proofs.Walk.{read_fits, read-part}
use Rattle.scalar.specs.Scalars.{any_word}
use Rattle.scalar.proofs.Words.{words-end, words-here, words-next, all_words}
use Rattle.scalar.proofs.texts.is_a_word.Goals as goal

pub overflow_add-end : goal.overflow_add-end
unfolding words_of
overflow_add-end c =
    omega (arith, read_fits (line_words sheets) c.args.line c.words_at-words.ensures, all_words)

pub loop-k-init : goal.loop-k-init
unfolding words_of
loop-k-init c =
    let a = c.args in (
      read_fits (line_words sheets) a.line c.words_at-words.ensures,
      ap (λ ws. any_word ws (text_of a.spelled.now)) (read-part (line_words sheets) a.line c.words_at-words.ensures),
    )

pub returns-then-word_is : goal.returns-then-word_is
returns-then-word_is c =
    let w = c.loop-k in
    words-here (words_of sheets) _ w.k _ (omega arith) w.invariant.0 (sym c.word_is.ensures ∙ c.if-word_is.true) ∙ w.invariant.1

pub loop-k-preserved : goal.loop-k-preserved
loop-k-preserved c =
    let w = c.loop-k in
    (w.invariant.0, words-next (words_of sheets) _ w.k _ (omega arith) w.invariant.0 (sym c.word_is.ensures ∙ c.if-word_is.false) ∙ w.invariant.1)

pub returns : goal.returns
returns c = let w = c.loop-k in words-end (words_of sheets) _ w.k _ (omega arith) ∙ w.invariant.1
