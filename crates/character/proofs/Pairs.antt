-- An escape \u that is no surrogate stands for its value.
use mathlib.Core.Bool.{Bool, false}
use mathlib.Core.List.{List}
use mathlib.Core.Path.{◌≡◌, sym, ◌∙◌}
use Prim.Native.Nat.{ℕ}
use Rattle.lexeme.specs.declared.Next.{Next}
use Rattle.lexeme.specs.Character.Surrogates.{paired}
use Rattle.lexeme.specs.Character.{within, encoded, unit}

pub unit-plain : (l : List ℕ) (v : ℕ) {t : Bool} → t ≡ within 0xdc00 0xdfff v → t ≡ false → {u : Bool} → u ≡ within 0xd800 0xdbff v → {n : Next}
    → u ≡ false → n ≡ encoded v 5 → n ≡ unit paired l v
unfolding unit
unit-plain l v e h f i p = p ∙ rw (sym e ∙ h, sym f ∙ i, unit)
