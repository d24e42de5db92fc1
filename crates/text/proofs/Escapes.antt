-- An escape \u whose four digits are a number below 128 is a character of ASCII: one byte, that number.
use mathlib.Core.List.{List}
use mathlib.Core.Path.{◌≡◌, sym, ap, ◌∙◌}
use Prim.Native.Nat.{ℕ, ◌+◌, ◌-◌, ◌*◌, ◌≤◌, ◌<◌}
use native.Mathlib.Omega.{arith}
use lib.ListN.{drop}
use lib.Seq.{get_or-drop}
use borrow.Author.Tests.{lt-ltb, le-leb, lt-leb, eq-eqb}
use Rattle.lexeme.specs.Character.{byte, within, char1, encoded, hex_value, quad, unit, unicode, escape, next}
use Rattle.lexeme.specs.Character.Surrogates.{paired}
use Rattle.lexeme.specs.inner.Lead.{Lead, lead, next_by}
use Rattle.lexeme.proofs.Leads.{next_led}
use Rattle.lexeme.proofs.Rests.{first_byte}
use Rattle.character.proofs.Digits.{hex_digit, quad-whole}
use Rattle.character.proofs.Ranges.{within-rest}
use Rattle.text.specs.inner.Walk.{Escapes, LowEscape}
use Rattle.std.specs.Prelude.{Ok}

pub no-escape : (l : List ℕ) → Escapes l 128
no-escape l h = absurd (omega arith)

module _ (l : List ℕ) (v : ℕ) (small : v < 128) where
  unit_ascii : unit paired l v ≡ char1 v 5
  unfolding unit within encoded
  unit_ascii = rw (unit, within, lt-leb 0xdc00 v (omega arith), lt-leb 0xd800 v (omega arith), encoded, lt-ltb v 0x80 small)

  pub escape_ascii : byte l 0 ≡ 0x5c → byte l 1 ≡ 0x75 → quad (drop 2 l) ≡ Ok v → next paired l ≡ char1 v 5
  unfolding lead next_by escape unicode
  escape_ascii e f g =
      next_led paired l {t = Lead.backslash} (ap lead e) ∙ rw (escape, eq-eqb (byte l 1) 0x75 f) (ap (unicode paired l) g ∙ unit_ascii)

-- the digits behind \u00
module _ (s : List ℕ) (i : ℕ) (o : LowEscape s i) {c d : ℕ} (e : c ≡ hex_value (byte s (i + 4))) (f : d ≡ hex_value (byte s (i + 5))) where
  there : (k : ℕ) → byte (drop 2 (drop i s)) k ≡ byte s (i + (2 + k))
  there k = get_or-drop 2 (drop i s) k 0 ∙ get_or-drop i s (2 + k) 0

  pub escape-low : c ≤ 7 → d ≤ 15 → next paired (drop i s) ≡ char1 (c * 16 + d) 5
  unfolding hex_value within
  escape-low g h =
      let z : 0 * 4096 + 0 * 256 + c * 16 + d ≡ c * 16 + d = omega arith in
      escape_ascii (drop i s) (c * 16 + d) (omega arith) (sym (first_byte s i) ∙ o.backslash) (get_or-drop i s 1 0 ∙ o.letter)
      (sym (quad-whole (drop 2 (drop i s)) (sym (ap hex_value (there 0 ∙ o.third))) (omega arith) (sym (ap hex_value (there 1 ∙ o.fourth))) (omega arith)
      (e ∙ ap hex_value (sym (there 2))) (omega arith) (f ∙ ap hex_value (sym (there 3))) (omega arith)) ∙ ap Ok z)

-- a digit from 0 to 7
pub octal : (b : ℕ) → 0x30 ≤ b → b ≤ 0x37 → b - 0x30 ≡ hex_value b
octal b g h = hex_digit b (within-rest 0x30 0x39 b g) (le-leb b 0x39 (omega arith))
