-- By the kind of the value.
use mathlib.Core.Path.{◌∙◌}
use Rattle.document.proofs.ByKind.{array-none, array-some, kind_tag, is_other, is_same}
use Rattle.document.proofs.fields.array_in.Goals as goal

pub returns-then-ne : goal.returns-then-ne
returns-then-ne c =
    let q = c.args.q.now in c.no_bytes.ensures ∙ array-none q _ (kind_tag q c.value_kind.ensures) (is_other c.ne.ensures c.if-ne.true)

pub returns : goal.returns
returns c = let q = c.args.q.now in array-some q _ (kind_tag q c.value_kind.ensures) (is_same c.ne.ensures c.if-ne.false)
