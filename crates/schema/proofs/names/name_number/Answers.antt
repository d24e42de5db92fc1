-- A spelling that is a name stands for that name. Any other is decoded, and the first 32 bytes of a text tell whether it is a name.
use mathlib.Core.Path.{ap, ◌∙◌}
use native.Mathlib.Omega.{arith}
use Rattle.text.specs.Text.{text_of}
use Rattle.schema.specs.Tables.{sheets}
use Rattle.schema.specs.inner.Line.{each_name, number_of}
use Rattle.schema.proofs.Numbers.{number-plain, number-front}
use Rattle.schema.proofs.Found.{names-plain, names-sized}
use Rattle.schema.proofs.names.name_number.Goals as goal

pub returns-then-number-gt0 : goal.returns-then-number-gt0
returns-then-number-gt0 c =
    c.number_in-number.ensures ∙ number-plain (each_name sheets) names-plain _ (λ z. omega (arith, c.number_in-number.ensures, c.if-number-gt0.true, z))

pub slice_bounds-number_in-end : goal.slice_bounds-number_in-end
slice_bounds-number_in-end c = c.read_prefix-read.ensures.counted

pub returns : goal.returns
returns c =
    let x = text_of c.args.spelled.now in
    c.number_in.ensures ∙ ap (number_of sheets) c.read_prefix-read.ensures.bytes ∙ number-front (each_name sheets) names-sized x
