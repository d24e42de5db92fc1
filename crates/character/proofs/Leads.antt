-- A character by what its class or its first byte says.
use mathlib.Core.List.{List}
use mathlib.Core.Path.{◌≡◌, sym, ap, ◌∙◌}
use Prim.Native.Nat.{ℕ, ◌<◌}
use borrow.Author.Tests.{lt-ltb}
use Rattle.lexeme.specs.declared.Next.{Next}
use Rattle.lexeme.specs.inner.Class.{lead_of}
use Rattle.lexeme.specs.Character.Surrogates.{paired}
use Rattle.lexeme.specs.Character.{byte, escape, next}
use Rattle.lexeme.specs.inner.Lead.{Lead, lead, next_by}
use Rattle.lexeme.proofs.Leads.{next_led}

pub class_plain : (c : ℕ) → c < 14 → lead_of c ≡ Lead.plain
unfolding lead_of
class_plain c h = rw (lt-ltb c 14 h, lead_of)

pub next_class : {n : Next} {b : ℕ} (l : List ℕ) (c : ℕ) → b ≡ byte l 0 → lead_of c ≡ lead b → n ≡ next_by paired l (lead_of c) → n ≡ next paired l
next_class l c e f g = g ∙ sym (next_led paired l (ap lead (sym e) ∙ sym f))

pub next-escape : {n : Next} {b : ℕ} (l : List ℕ) → b ≡ byte l 0 → b ≡ 0x5c → n ≡ escape paired l → n ≡ next paired l
unfolding next
next-escape l e f g = g ∙ rw (← e, f)
