-- The part that is judged is what stands between the quotation marks.
use mathlib.Core.Path.{◌≡◌, ap, ◌∙◌}
use Prim.Native.Nat.{ℕ, ◌-◌}
use native.Mathlib.Omega.{arith}
use lib.ListN.{length, take, drop}
use Rattle.text.specs.Text.{text_of}
use Rattle.scalar.specs.Scalars.{text_kinds}
use Rattle.scalar.proofs.string_kind.Goals as goal

pub returns-then-p-lt2 : goal.returns-then-p-lt2
returns-then-p-lt2 c σ e h n = absurd (omega arith)

pub returns : goal.returns
returns c σ e h n =
    let p = c.args.p.now in
    let k : length p - 2 ≡ length p - 1 - 1 = omega arith in
    ap (λ (m : ℕ). text_kinds σ (text_of (take m (drop 1 p)))) k ∙ c.text_kind.ensures σ e h
