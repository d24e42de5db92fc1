-- The classes of bytes by their numbers, and what each says: inside a string, at the start of a value, between values, and after a character's first byte.
use Rattle.std.specs.Prelude.{Bool, List, ◌≡◌, ℕ, ◌%◌, ◌<◌, eqb, ltb, get_or}
use Rattle.notation.specs.Choice.{◌⇒◌else◌}
use Rattle.lexeme.specs.Character.{within}
use Rattle.lexeme.specs.inner.Lead.{Lead, lead}
use Rattle.lexeme.specs.inner.Lead.Lead.{plain, quote, backslash, wrong, two, three_e0, three, three_ed, four_f0, four, four_f4}
use Rattle.lexeme.specs.Tokens.{blank}
use Rattle.lexeme.specs.inner.Start.{Start, start}
use Rattle.lexeme.specs.inner.Start.Start.{string, number, array, object, letter_t, letter_f, letter_n, other}

-- inside a string: below 14 a byte stands for itself
unfoldable pub lead_of : ℕ → Lead
lead_of c =
    ltb c 14 ⇒ plain else
    eqb c 14 ⇒ quote else
    eqb c 16 ⇒ backslash else
    eqb c 20 ⇒ two else
    eqb c 22 ⇒ three_e0 else
    eqb c 24 ⇒ three else
    eqb c 26 ⇒ three_ed else
    eqb c 28 ⇒ four_f0 else
    eqb c 30 ⇒ four else
    eqb c 32 ⇒ four_f4 else wrong

-- where a value begins
unfoldable pub start_of : ℕ → Start
start_of c =
    eqb c 2 ⇒ number else
    eqb c 4 ⇒ array else
    eqb c 6 ⇒ object else
    eqb c 8 ⇒ letter_t else
    eqb c 10 ⇒ letter_f else
    eqb c 12 ⇒ letter_n else
    eqb c 14 ⇒ string else other

-- between values: the odd classes, 1 of the space and 15 of the tab, line feed and carriage return
unfoldable pub blank_of : ℕ → Bool
blank_of c = eqb (c % 2) 1

-- after a character's first byte: RFC 3629's tail in three classes, with the least and the greatest byte of each
pub data Tail : ℕ → Type 0 where
  from80 : Tail 34
  from90 : Tail 36
  from_a0 : Tail 38

unfoldable pub least_of : ℕ → ℕ
least_of c =
    eqb c 34 ⇒ 0x80 else
    eqb c 36 ⇒ 0x90 else 0xa0

unfoldable pub most_of : ℕ → ℕ
most_of c =
    eqb c 34 ⇒ 0x8f else
    eqb c 36 ⇒ 0x9f else 0xbf

-- classes that bound a run of these bytes, the first and the last
pub record Tails (lo hi : ℕ) : Type 0 where
  pub from : Tail lo
  pub to : Tail hi

-- c is the class of the byte b
pub record Classed (b c : ℕ) : Type 0 where
  pub lead : lead_of c ≡ lead b
  pub start : start_of c ≡ start b
  pub blank : blank_of c ≡ blank b
  pub tail : (lo hi : ℕ) → Tails lo hi → within lo hi c ≡ within (least_of lo) (most_of hi) b

-- the table t has the class of each byte
pub record Classifies (t : List ℕ) : Type 0 where
  pub at : (b : ℕ) → b < 256 → Classed b (get_or t b 0)
