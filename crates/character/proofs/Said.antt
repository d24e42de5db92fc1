-- What a first byte says, by tests that decide those of the definition.
use mathlib.Core.List.{List}
use mathlib.Core.Path.{◌≡◌, sym, ap, ◌∙◌}
use Prim.Native.Nat.{ℕ}
use Rattle.lexeme.specs.declared.Next.{Next}
use Rattle.lexeme.specs.Character.Surrogates.{paired}
use Rattle.lexeme.specs.Character.{byte, next}
use Rattle.lexeme.specs.inner.Lead.{lead, next_by}
use Rattle.lexeme.proofs.Leads.{next_led}

pub next-says : {n : Next} {b : ℕ} (l : List ℕ) → b ≡ byte l 0 → next_by paired l (lead b) ≡ n → next paired l ≡ n
next-says l e f = next_led paired l (ap lead (sym e)) ∙ f
