-- The whole part of a number that is in the form; zero of anything else.
use mathlib.Core.Path.{sym, ap, ◌∙◌}
use Rattle.document.specs.Values.{whole_of, integer_in}
use Rattle.document.proofs.ByKind.{spelled_none, spelled-some, kind_tag, is_other, is_same}
use Rattle.document.proofs.fields.integer_in.Goals as goal

pub returns-then-ne : goal.returns-then-ne
returns-then-ne c =
    let q = c.args.q.now in sym (ap integer_in (spelled_none q _ (kind_tag q c.value_kind.ensures) (is_other c.ne.ensures c.if-ne.true)))

pub returns-in_default : goal.returns-in_default
returns-in_default c =
    let q = c.args.q.now in
    ap whole_of (sym c.in_default.is ∙ c.read_decimal.ensures)
    ∙ sym (ap integer_in (spelled-some q _ (kind_tag q c.value_kind.ensures) (is_same c.ne.ensures c.if-ne.false)))

pub returns : goal.returns
returns c =
    let q = c.args.q.now in
    ap whole_of (sym c.in-Some.is ∙ c.read_decimal.ensures)
    ∙ sym (ap integer_in (spelled-some q _ (kind_tag q c.value_kind.ensures) (is_same c.ne.ensures c.if-ne.false)))
