-- The class of a byte tells what the byte says: computed for each view over all bytes. Each view has a number for each of its values,
-- from which the value is read back.
use mathlib.Core.Bool.{Bool, true, false}
use mathlib.Core.List.{List}
use mathlib.Core.Path.{◌≡◌, refl, sym}
use Prim.Native.Nat.{ℕ, ◌<◌}
use lib.Dec.{eqb}
use lib.ListN.{get_or}
use Rattle.lexeme.specs.Character.{within}
use Rattle.lexeme.specs.inner.Lead.{Lead, lead}
use Rattle.lexeme.specs.inner.Lead.Lead.{plain, quote, backslash, wrong, two, three_e0, three, three_ed, four_f0, four, four_f4}
use Rattle.notation.specs.Choice.{◌⇒◌else◌}
use Rattle.notation.proofs.Booleans.{true-false}
use Rattle.lexeme.specs.inner.Class.{lead_of, start_of, blank_of, Tail, from80, from90, from_a0, least_of, most_of, Classed, Classifies}
use Rattle.lexeme.specs.Numbers.{digit, either}
use Rattle.lexeme.specs.Tokens.{blank}
use Rattle.lexeme.specs.inner.Start.{Start, start}
use Rattle.lexeme.specs.inner.Start.Start.{string, number, array, object, letter_t, letter_f, letter_n, other}
use Rattle.lexeme.proofs.Table.{table, every, at, reads}

abbrev lead_code : Lead → ℕ
lead_code plain = 0
lead_code quote = 14
lead_code backslash = 16
lead_code wrong = 18
lead_code two = 20
lead_code three_e0 = 22
lead_code three = 24
lead_code three_ed = 26
lead_code four_f0 = 28
lead_code four = 30
lead_code four_f4 = 32

lead-back : (x : Lead) → lead_of (lead_code x) ≡ x
unfolding lead_of
lead-back plain = refl
lead-back quote = refl
lead-back backslash = refl
lead-back wrong = refl
lead-back two = refl
lead-back three_e0 = refl
lead-back three = refl
lead-back three_ed = refl
lead-back four_f0 = refl
lead-back four = refl
lead-back four_f4 = refl

abbrev start_code : Start → ℕ
start_code other = 0
start_code number = 2
start_code array = 4
start_code object = 6
start_code letter_t = 8
start_code letter_f = 10
start_code letter_n = 12
start_code string = 14

start_back : (x : Start) → start_of (start_code x) ≡ x
unfolding start_of
start_back other = refl
start_back number = refl
start_back array = refl
start_back object = refl
start_back letter_t = refl
start_back letter_f = refl
start_back letter_n = refl
start_back string = refl

-- a test's outcome is its own value
abbrev bit : Bool → ℕ
bit true = 1
bit false = 0

blank-back : (x : Bool) → blank_of (bit x) ≡ x
unfolding blank_of
blank-back true = refl
blank-back false = refl

-- the class of the byte b, by its views: a value's first byte, a blank, a byte after a character's first, or any other
abbrev class_number : ℕ → ℕ
class_number b =
    elim (start b) [
      | other ↦
          elim (blank b) [
            | true ↦ (eqb b 0x20 ⇒ 1 else 15)
            | false ↦
                within 0x80 0x8f b ⇒ 34 else
                within 0x90 0x9f b ⇒ 36 else
                within 0xa0 0xbf b ⇒ 38 else lead_code (lead b)
          ]
      | string ↦ 14
      | number ↦ 2
      | array ↦ 4
      | object ↦ 6
      | letter_t ↦ 8
      | letter_f ↦ 10
      | letter_n ↦ 12
    ]

abbrev classes : List ℕ
classes = table class_number 256

-- two tests of every entry, by its class and by its byte, that agree throughout
same_test : (x y : Bool) → eqb (bit x) (bit y) ≡ true → x ≡ y
same_test true true e = refl
same_test true false e = true-false refl (sym e)
same_test false true e = true-false refl (sym e)
same_test false false e = refl

same_run : (lo hi least most b : ℕ) → b < 256
    → every (λ k x. eqb (bit (within lo hi x)) (bit (within least most k))) classes ≡ true → within lo hi (get_or classes b 0) ≡ within least most b
same_run lo hi least most b h t = same_test _ _ (at (λ k x. eqb (bit (within lo hi x)) (bit (within least most k))) classes t b h)

-- a run of tail classes is the run of their bytes
tailed : (b : ℕ) → b < 256 → (lo hi : ℕ) → Tail lo → Tail hi → within lo hi (get_or classes b 0) ≡ within (least_of lo) (most_of hi) b
unfolding lead start blank digit within either least_of most_of
tailed b h _ _ from80 from80 = same_run 34 34 0x80 0x8f b h refl
tailed b h _ _ from80 from90 = same_run 34 36 0x80 0x9f b h refl
tailed b h _ _ from80 from_a0 = same_run 34 38 0x80 0xbf b h refl
tailed b h _ _ from90 from80 = same_run 36 34 0x90 0x8f b h refl
tailed b h _ _ from90 from90 = same_run 36 36 0x90 0x9f b h refl
tailed b h _ _ from90 from_a0 = same_run 36 38 0x90 0xbf b h refl
tailed b h _ _ from_a0 from80 = same_run 38 34 0xa0 0x8f b h refl
tailed b h _ _ from_a0 from90 = same_run 38 36 0xa0 0x9f b h refl
tailed b h _ _ from_a0 from_a0 = same_run 38 38 0xa0 0xbf b h refl

pub classed : (b : ℕ) → b < 256 → Classed b (get_or classes b 0)
unfolding lead lead_of start start_of blank blank_of digit within either
classed b h =
    record {
      lead = reads lead_of lead_code lead-back lead classes refl b h;
      start = reads start_of start_code start_back start classes refl b h;
      blank = reads blank_of bit blank-back blank classes refl b h;
      tail = λ lo hi t. tailed b h lo hi t.from t.to;
    }

pub classifies : Classifies classes
classifies = record { at = classed }
