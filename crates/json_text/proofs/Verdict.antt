-- A verdict of kind 2, 3 or 4 is a fault of reading the text: its offset is the text's length less what the fault leaves.
use mathlib.Core.Bool.{true, false}
use mathlib.Core.List.{List}
use mathlib.Core.Path.{sym, ◌≡◌, refl, ap, ◌∙◌}
use Prim.Native.Nat.{ℕ, ◌-◌}
use native.Mathlib.Omega.{arith}
use lib.ListN.{length}
use lib.Dec.{ltb}
use Rattle.limits.specs.Ceilings.{file_bytes, depth}
use Rattle.notation.proofs.Booleans.{by_test}
use Rattle.word.specs.Kinds.{too_long}
use Rattle.lexeme.specs.Read.{Read, placed, wrong_at}
use Rattle.lexeme.specs.Read.Read.{done, bad}
use Rattle.lexeme.specs.Character.{paired}
use Rattle.json_text.specs.Tree.{Json}
use Rattle.json_text.specs.Text.{text, syntax_by, syntax_of}
use Rattle.std.specs.Prelude.{Result}
use Rattle.lexeme.specs.declared.SyntaxError.{SyntaxError}

pub record FaultRead (s : List ℕ) (k n : ℕ) : Type 0 where
  pub rest : List ℕ
  pub reads : text paired depth s ≡ bad k rest
  pub place : length s - length rest ≡ n

pub met : (s : List ℕ) (k n : ℕ) → syntax_of s ≡ wrong_at k n → (k ≡ too_long → ⊥) → FaultRead s k n
unfolding syntax_of syntax_by placed
met s k n e other = by_test (ltb file_bytes (length s)) long read
  where
    long : ltb file_bytes (length s) ≡ true → FaultRead s k n
    long h =
        let p : ◌≡◌ {A = Result (Unit {0}) SyntaxError} (wrong_at too_long 0) (wrong_at k n) = rw (h, syntax_of) at e in
        let i : ◌≡◌ {A = SyntaxError} (record { kind = too_long; offset = 0 }) (record { kind = k; offset = n }) = cc in
        absurd (other (sym (ap (λ (z : SyntaxError). z.kind) i)))

    go : (o : Read Json) → text paired depth s ≡ o → syntax_by (placed s o) ≡ wrong_at k n → FaultRead s k n
    go (done x r) h i = absurd (let z : ◌≡◌ {A = ℕ} 0 1 = cc in omega arith)
    go (bad m r) h i =
        let w : ◌≡◌ {A = SyntaxError} (record { kind = m; offset = length s - length r }) (record { kind = k; offset = n }) = cc in
        record { rest = r; reads = h ∙ ap (λ (z : SyntaxError). bad z.kind r) w; place = ap (λ (z : SyntaxError). z.offset) w }

    read : ltb file_bytes (length s) ≡ false → FaultRead s k n
    read h = go (text paired depth s) refl (rw (h, syntax_of) at e)
