-- The range that is read is the line's.
use mathlib.Core.Path.{ap, ◌∙◌}
use Rattle.text.specs.Text.{text_of, same}
use Rattle.schema.specs.declared.Range.{Range}
use Rattle.schema.specs.Tables.{sheets}
use Rattle.schema.specs.inner.Line.{word_at}
use Rattle.scalar.proofs.texts.is_the_word.Goals as goal

pub returns : goal.returns
returns c =
    let s = c.args.spelled.now in
    c.word_is_exactly.ensures ∙ ap (λ (r : Range). same (text_of s) (word_at sheets r.first)) c.words_at-words.ensures
