-- The first byte tells the kind of the value, and each kind has its judge.
use mathlib.Core.Logic.{inl, inr}
use mathlib.Core.Path.{refl, sym, ◌∙◌}
use Rattle.scalar.proofs.Values.{by_kind}
use Rattle.scalar.proofs.judge_scalar.Goals as goal

pub returns-in-Null : goal.returns-in-Null
returns-in-Null c σ x e h w =
    elim c.in-Null.is [
      | inl k ↦ by_kind σ _ _ x _ (sym k ∙ c.value_kind.ensures) w refl
      | inr (inl k) ↦ by_kind σ _ _ x _ (sym k ∙ c.value_kind.ensures) w refl
      | inr (inr k) ↦ by_kind σ _ _ x _ (sym k ∙ c.value_kind.ensures) w refl
    ]

pub returns-in-Boolean : goal.returns-in-Boolean
returns-in-Boolean c σ x e h w =
    by_kind σ _ _ x _ (sym c.in-Boolean.is ∙ c.value_kind.ensures) w (c.boolean_kind.ensures σ e)

pub returns-in-Number : goal.returns-in-Number
returns-in-Number c σ x e h w =
    by_kind σ _ _ x _ (sym c.in-Number.is ∙ c.value_kind.ensures) w (c.number_kind.ensures σ e)

pub returns-in-String : goal.returns-in-String
returns-in-String c σ x e h w =
    by_kind σ _ _ x _ (sym c.in-String.is ∙ c.value_kind.ensures) w (c.string_kind.ensures σ e h)
