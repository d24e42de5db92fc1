-- The answer by the room that the lent buffer has: with too little nothing is written, and otherwise the word stands in the first eight bytes.
use mathlib.Core.List.{List, ◌++◌}
use mathlib.Core.Path.{◌≡◌, sym, ap, ◌∙◌}
use Prim.Native.Nat.{ℕ, ◌≤◌, ◌<◌}
use lib.ListN.{length, take, drop}
use lib.Seq.{take_at}
use borrow.Author.Tests.{lt-ltb, le-ltb}
use Rattle.notation.specs.Choice.{◌⇒◌else◌}
use Rattle.word.specs.declared.Parts.{Parts}
use Rattle.word.specs.Form.{written_form, word_size}
use Rattle.word.specs.Word.{word_of}
use Rattle.word.proofs.Laws.{written-full, word-length}
use Rattle.schema.specs.Shape.{Table}
use Rattle.cross.specs.Stage.{Feeds}
use Rattle.verdict.specs.Verdict.{verdict_of, said, accepts, verdict_number, buffer_of}
use Rattle.fault.specs.Outcome.{Outcome}

-- the number where there is room
abbrev pub told : Outcome → ℕ
told x = accepts x ⇒ 0 else 1

module _ (t : Table) (s : Feeds) (b : List ℕ) where
  pub number-short : length b < word_size → verdict_number t s b ≡ 2
  unfolding verdict_number
  number-short h = rw (lt-ltb (length b) word_size h)

  pub buffer-short : length b < word_size → buffer_of t s b ≡ b
  unfolding buffer_of
  buffer-short h = rw (lt-ltb (length b) word_size h)

  pub answer-room : {x y : Outcome} {p : Parts} {after : List ℕ} → word_size ≤ length b → x ≡ verdict_of t s → p ≡ said x → after ≡ word_of written_form p ++ drop word_size b → x ≡ y
      → (told y ≡ verdict_number t s b) × (after ≡ buffer_of t s b)
  unfolding verdict_number buffer_of
  answer-room room v q w e =
      (rw (le-ltb (length b) word_size room) (ap told (sym e ∙ v)), rw (le-ltb (length b) word_size room) (w ∙ ap (λ x. word_of written_form x ++ drop word_size b) (q ∙ ap said v)))

module _ (t : Table) (s : Feeds) (b : List ℕ) (room : word_size ≤ length b) where
  pub number-room : verdict_number t s b ≡ told (verdict_of t s)
  unfolding verdict_number
  number-room = rw (le-ltb (length b) word_size room)

  pub word_room : take word_size (buffer_of t s b) ≡ word_of written_form (said (verdict_of t s))
  unfolding buffer_of
  word_room =
      ap (λ x. take word_size (x ⇒ b else word_of written_form (said (verdict_of t s)) ++ drop word_size b)) (le-ltb (length b) word_size room)
      ∙ take_at (word_of written_form (said (verdict_of t s))) (drop word_size b) word_size (word-length written_form written-full _)

pub ruleset shorts = (number-short, buffer-short)
