-- How many bytes the escape of a code point takes, whatever it stands for.
use mathlib.Core.Path.{◌≡◌, sym, ap, ◌∙◌}
use Prim.Native.Nat.{ℕ, ◌+◌}
use Rattle.std.specs.Prelude.{Some}
use Rattle.lexeme.specs.Character.{encoded}
use Rattle.lexeme.proofs.Local.{encoded-char}
use Rattle.character.specs.inner.Length.{taken}

pub encoded_taken : (v more : ℕ) → Some (1 + more) ≡ taken (encoded v more)
encoded_taken v more = let c = encoded-char v more in ap (λ n. Some (1 + n)) (sym c.takes) ∙ sym (ap taken c.is)
