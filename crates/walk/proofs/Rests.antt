-- The rests of a text, and where each begins: what reading leaves is a rest, and stands at the place that its length tells.
use mathlib.Core.List.{List, [], ◌∷◌, ◌++◌}
use mathlib.Core.Path.{◌≡◌, sym, ap, ◌∙◌}
use Prim.Native.Nat.{ℕ, ◌-◌, ◌≤◌}
use native.Mathlib.Omega.{arith}
use lib.ListN.{length, drop, take, length-append, take-append-drop}
use lib.Seq.{drop_at}
use Rattle.lexeme.specs.Read.{Read}
use Rattle.lexeme.specs.Read.Read.{done}
use Rattle.lexeme.specs.Tokens.{blanks}
use Rattle.lexeme.proofs.Reading.{StrongPrefix}
use Rattle.lexeme.proofs.StrongPrefixes.{blanks-of}
use Rattle.json_text.proofs.StrongPrefixes.{joins}
use Rattle.walk.specs.Walk.{offset_of}

pub record Rest (p l : List ℕ) : Type 0 where
  pub front : List ℕ
  pub splits : p ≡ front ++ l

module _ {p : List ℕ} where
  pub rest-drop : (at : ℕ) → Rest p (drop at p)
  rest-drop at = record { front = take at p; splits = sym (take-append-drop at p) }

  pub rest-after : {l : List ℕ} (w r : List ℕ) → l ≡ w ++ r → Rest p l → Rest p r
  rest-after w r e s = record { front = s.front ++ w; splits = joins s.front w r s.splits e }

  pub rest-next : {l : List ℕ} (b : ℕ) (r : List ℕ) → l ≡ b ∷ r → Rest p l → Rest p r
  rest-next b r e s = rest-after (b ∷ []) r e s

  pub rest-blanks : (l : List ℕ) → Rest p l → Rest p (blanks l)
  rest-blanks l s = let k = blanks-of l in rest-after k.part (blanks l) k.splits s

  pub rest_read : {A : Type 0} {C : List ℕ → List ℕ → Type 0} (f : List ℕ → Read A) → StrongPrefix C f
      → (l r : List ℕ) (x : A) → f l ≡ done x r → Rest p l → Rest p r
  rest_read f takes l r x e s = let t = takes l r x e in rest-after t.part r t.splits s

  pub rest-inside : {l : List ℕ} → Rest p l → length l ≤ length p
  rest-inside {l} s = omega (arith, ap length s.splits, length-append s.front l)

  pub rest-there : {l : List ℕ} → Rest p l → drop (offset_of p l) p ≡ l
  rest-there {l} s =
      let n : length s.front ≡ length p - length l = omega (arith, ap length s.splits, length-append s.front l) in
      ap (drop (offset_of p l)) s.splits ∙ drop_at s.front l (offset_of p l) n
