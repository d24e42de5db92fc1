-- Theorem 2. The bytes of a value, cut out, are read whole and to the same tree, since reading a value looks past its last byte only to see
-- that a number has ended.
use mathlib.Core.List.{List, [], ◌++◌, append-nil, append_cancel_right}
use mathlib.Core.Path.{◌≡◌, sym, ap, ◌∙◌}
use Prim.Native.Nat.{ℕ, ◌+◌, ◌-◌, ◌≤◌}
use native.Mathlib.Omega.{arith}
use lib.ListN.{length, take, drop, take-append-drop}
use lib.Seq.{drop-drop}
use Rattle.lexeme.specs.Read.Read.{done}
use Rattle.lexeme.specs.Character.{Surrogates}
use Rattle.lexeme.proofs.Reading.Settled.{stops}
use Rattle.json_text.specs.Tree.{Json}
use Rattle.json_text.specs.Text.{value}
use Rattle.json_text.proofs.StrongPrefixes.{value_takes}

module _ (ρ : Surrogates) (d : ℕ) (x : Json) where
  pub value_local : (p q : List ℕ) → value ρ d (p ++ q) ≡ done x q → value ρ d p ≡ done x []
  value_local p q e =
      let t = value_takes ρ d (p ++ q) q x e in
      let own : p ≡ t.part = append_cancel_right p t.part q t.splits in
      ap (value ρ d) (own ∙ sym (append-nil t.part)) ∙ t.frame [] (stops tt)

  -- the value from `at` up to `end` in the text s
  pub value-part : (s : List ℕ) (at end : ℕ) → at ≤ end → end ≤ length s → value ρ d (drop at s) ≡ done x (drop end s)
      → value ρ d (take (end - at) (drop at s)) ≡ done x []
  value-part s at end from upto e =
      let p = take (end - at) (drop at s) in
      let n : at + (end - at) ≡ end = omega arith in
      let whole : p ++ drop end s ≡ drop at s =
      ap (λ (m : ℕ). p ++ drop m s) (sym n) ∙ ap (λ (l : List ℕ). p ++ l) (sym (drop-drop (end - at) at s)) ∙ take-append-drop (end - at) (drop at s) in
      value_local p (drop end s) (ap (value ρ d) whole ∙ e)
