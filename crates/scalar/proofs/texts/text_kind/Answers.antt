-- Each letter that a string may have names a sort, and every other letter a sort that no string is of. Where the sort has words, they are
-- the line's.
-- one kind where a test fails that the code made
use mathlib.Core.Bool.{Bool, not}
use mathlib.Core.Path.{◌≡◌, refl, sym, ap, ◌∙◌}
use borrow.Author.Rules.{rules}
use Rattle.word.specs.Kinds.{out_of_range}
use Rattle.schema.specs.Tables.{sheets}
use Rattle.schema.proofs.Letters.{sort_from}
use Rattle.scalar.specs.Scalars.{unless, text_kinds, sort_kinds}
use Rattle.scalar.proofs.Sorts.{by-letter, text-exactly, text-word, no_text}
use Rattle.scalar.proofs.Words.{only-word}
use Rattle.scalar.proofs.texts.text_kind.Goals as goal

tested : {t u : Bool} → u ≡ t → unless t out_of_range ≡ unless u out_of_range
tested e = ap (λ (b : Bool). unless b out_of_range) (sym e)

pub returns-in-61 : goal.returns-in-61
returns-in-61 c σ e h =
    text-exactly σ _ _ e c.in-61.is h (only-word sheets c.args.line) ∙ tested c.is_the_word.ensures ∙ c.range_kind-in-61.ensures

pub returns-in-119 : goal.returns-in-119
returns-in-119 c σ e h =
    text-word σ _ e c.in-119.is h ∙ tested c.is_a_word.ensures ∙ c.range_kind-in-119.ensures

pub returns-in_default : goal.returns-in_default
returns-in_default c σ e h =
    no_text _ (search rules) (search rules) (search rules) (search rules) (search rules) (search rules) (search rules) σ e

pub returns-in-112 : goal.returns-in-112
unfolding sort_kinds sort_from
returns-in-112 c σ e h = by-letter text_kinds _ _ c.in-112.is (λ ws. c.price_kind.ensures) σ e

pub returns-in-83 : goal.returns-in-83
unfolding sort_kinds sort_from
returns-in-83 c σ e h = by-letter text_kinds _ _ c.in-83.is (λ ws. refl) σ e

pub returns-in-105 : goal.returns-in-105
unfolding sort_kinds sort_from
returns-in-105 c σ e h = by-letter text_kinds _ _ c.in-105.is (λ ws. tested (ap not c.longer_than.ensures) ∙ c.range_kind.ensures) σ e

pub returns-in-99 : goal.returns-in-99
unfolding sort_kinds sort_from
returns-in-99 c σ e h = by-letter text_kinds _ _ c.in-99.is (λ ws. tested c.is_currency.ensures ∙ c.range_kind-in-99.ensures) σ e

pub returns-in-100 : goal.returns-in-100
unfolding sort_kinds sort_from
returns-in-100 c σ e h = by-letter text_kinds _ _ c.in-100.is (λ ws. tested c.is_date.ensures ∙ c.range_kind-in-100.ensures) σ e

pub price_kind-requires : goal.price_kind-requires
unfolding sort_kinds sort_from
price_kind-requires c = search rules

pub longer_than-requires : goal.longer_than-requires
unfolding sort_kinds sort_from
longer_than-requires c = search rules

pub range_kind-requires : goal.range_kind-requires
unfolding sort_kinds sort_from
range_kind-requires c = search rules

pub is_currency-requires : goal.is_currency-requires
unfolding sort_kinds sort_from
is_currency-requires c = search rules

pub range_kind-requires-in-99 : goal.range_kind-requires-in-99
unfolding sort_kinds sort_from
range_kind-requires-in-99 c = search rules

pub is_date-requires : goal.is_date-requires
unfolding sort_kinds sort_from
is_date-requires c = search rules

pub range_kind-requires-in-100 : goal.range_kind-requires-in-100
unfolding sort_kinds sort_from
range_kind-requires-in-100 c = search rules

pub is_the_word-requires : goal.is_the_word-requires
unfolding sort_kinds sort_from
is_the_word-requires c = search rules

pub range_kind-requires-in-61 : goal.range_kind-requires-in-61
unfolding sort_kinds sort_from
range_kind-requires-in-61 c = search rules

pub is_a_word-requires : goal.is_a_word-requires
unfolding sort_kinds sort_from
is_a_word-requires c = search rules

pub range_kind-requires-in-119 : goal.range_kind-requires-in-119
unfolding sort_kinds sort_from
range_kind-requires-in-119 c = search rules
