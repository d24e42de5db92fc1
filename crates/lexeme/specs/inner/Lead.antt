-- The first bytes of a character as the code's table of classes has them: what each says, and what then stands at the front. `lexeme/proofs/Leads.antt`
-- shows that this comes to `next`.
use Rattle.std.specs.Prelude.{List, ℕ, eqb, ltb}
use Rattle.notation.specs.Choice.{◌⇒◌else◌}
use Rattle.word.specs.Kinds.{not_json}
use Rattle.lexeme.specs.declared.Next.{Next}
use Rattle.lexeme.specs.declared.Next.TheVariants.{Quote, Fault}
use Rattle.lexeme.specs.Character.{Surrogates, byte, char1, utf2, utf3, utf4, escape}

-- what a first byte says
pub data Lead : Type 0 where
  plain : Lead
  quote : Lead
  backslash : Lead
  wrong : Lead
  two : Lead
  three_e0 : Lead
  three : Lead
  three_ed : Lead
  four_f0 : Lead
  four : Lead
  four_f4 : Lead

unfoldable pub lead : ℕ → Lead
lead b =
    eqb b 0x22 ⇒ quote else
    eqb b 0x5c ⇒ backslash else
    ltb b 0x20 ⇒ wrong else
    ltb b 0x80 ⇒ plain else
    ltb b 0xc2 ⇒ wrong else
    ltb b 0xe0 ⇒ two else
    eqb b 0xe0 ⇒ three_e0 else
    eqb b 0xed ⇒ three_ed else
    ltb b 0xf0 ⇒ three else
    eqb b 0xf0 ⇒ four_f0 else
    ltb b 0xf4 ⇒ four else
    eqb b 0xf4 ⇒ four_f4 else wrong

-- what stands at the front of the text inside a string, by what its first byte says
unfoldable pub next_by : Surrogates → List ℕ → Lead → Next
next_by ρ l plain = char1 (byte l 0) 0
next_by ρ l quote = Quote
next_by ρ l backslash = escape ρ l
next_by ρ l wrong = Fault not_json 0
next_by ρ l two = utf2 l
next_by ρ l three_e0 = utf3 0xa0 0xbf l
next_by ρ l three = utf3 0x80 0xbf l
next_by ρ l three_ed = utf3 0x80 0x9f l
next_by ρ l four_f0 = utf4 0x90 0xbf l
next_by ρ l four = utf4 0x80 0xbf l
next_by ρ l four_f4 = utf4 0x80 0x8f l
