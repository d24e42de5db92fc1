-- What a call says of a set is what the verdict is, whatever the buffer, where it has room for a word.
use mathlib.Core.Path.{◌≡◌, ap, ◌∙◌}
use Prim.Native.Nat.{ℕ}
use Rattle.word.specs.Form.{written_form}
use Rattle.word.specs.Word as word
use Rattle.word.specs.Word.{word_of}
use Rattle.schema.specs.Tables.{table_at}
use Rattle.cross.specs.Stage.{Feeds}
use Rattle.verdict.specs.Verdict.{verdict_of, said}
use Rattle.verdict.specs.Demand2.{Says}
use Rattle.verdict.proofs.Answers.{told, number-room, word_room}
use Rattle.verdict.proofs.ReadBack.{verdict-read}
use Rattle.fault.specs.Outcome.{Outcome}

abbrev reads : Outcome → word.Answer
reads x = record { number = 0; parts = said x }

pub says : (table : ℕ) (s : Feeds) (x : Outcome) → verdict_of (table_at table) s ≡ x → Says (table_at table) s (told x) (said x)
says table s x e =
    record {
      numbered = λ b room. number-room (table_at table) s b room ∙ ap told e;
      written = λ b room. word_room (table_at table) s b room ∙ ap (λ y. word_of written_form (said y)) e;
      read_back = λ b room. verdict-read table s b room ∙ ap reads e;
    }
