-- Each kind has its number.
use mathlib.Core.Path.{sym, ap, ◌∙◌}
use Rattle.document.specs.inner.Values.{kind_code}
use Rattle.document.proofs.fields.code_of.Goals as goal

pub returns-in-Null : goal.returns-in-Null
returns-in-Null c = ap kind_code (sym c.in-Null.is ∙ c.value_kind.ensures)

pub returns-in-Boolean : goal.returns-in-Boolean
returns-in-Boolean c = ap kind_code (sym c.in-Boolean.is ∙ c.value_kind.ensures)

pub returns-in-Number : goal.returns-in-Number
returns-in-Number c = ap kind_code (sym c.in-Number.is ∙ c.value_kind.ensures)

pub returns-in-String : goal.returns-in-String
returns-in-String c = ap kind_code (sym c.in-String.is ∙ c.value_kind.ensures)

pub returns-in-Array : goal.returns-in-Array
returns-in-Array c = ap kind_code (sym c.in-Array.is ∙ c.value_kind.ensures)

pub returns-in-Object : goal.returns-in-Object
returns-in-Object c = ap kind_code (sym c.in-Object.is ∙ c.value_kind.ensures)
