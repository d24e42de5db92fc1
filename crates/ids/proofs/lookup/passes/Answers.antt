-- `passes` asks what its file's records are asked.
use borrow.Author.Rules.{rules}
use mathlib.Core.Path.{sym, ap, ◌∙◌}
use Prim.Native.Nat.{ℕ}
use borrow.Author.Tests.{ne_eqb}
use Rattle.document.specs.inner.Values.{text_by, there_by}
use Rattle.ids.specs.References.{not_human}
use Rattle.ids.specs.inner.Ids.{passing}
use Rattle.ids.proofs.lookup.passes.Goals as goal

pub returns-in-1 : goal.returns-in-1
returns-in-1 c =
    c.is_motorized.ensures ∙ ap (λ q. not_human (text_by q)) (c.member.ensures _ c.requires) ∙ ap (λ (f : ℕ). passing f c.args.q.now) (sym c.in-1.is)

pub returns-in-2 : goal.returns-in-2
returns-in-2 c =
    ap there_by (c.member-in-2.ensures _ c.requires) ∙ ap (λ (f : ℕ). passing f c.args.q.now) (sym c.in-2.is)

pub returns-in_default : goal.returns-in_default
returns-in_default c = rw (ne_eqb c.args.sheet 1 (search rules), ne_eqb c.args.sheet 2 (search rules))
