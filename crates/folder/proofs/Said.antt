-- The word that a verdict leaves in a buffer of eight bytes says the verdict.
use mathlib.Core.List.{List, [], ◌∷◌}
use mathlib.Core.Path.{◌≡◌, sym, ap, ◌∙◌}
use Prim.Native.Nat.{ℕ, ◌≤◌}
use lib.ListN.{length, take}
use lib.Seq.{take_all}
use Rattle.word.specs.Form.{word_size}
use Rattle.word.specs.Word.{read_word}
use Rattle.schema.specs.Tables.{table_at}
use Rattle.verdict.specs.Verdict.{said, verdict_of, buffer_of}
use Rattle.verdict.proofs.ReadBack.{verdict-read}

pub parts_said : (table : ℕ) (s : List (List ℕ)) (before after : List ℕ) → word_size ≤ length before → length after ≤ word_size
    → after ≡ buffer_of (table_at table) s before → (read_word after).parts ≡ said (verdict_of (table_at table) s)
parts_said table s before after room h e =
    ap (λ a. a.parts) (ap read_word (sym (take_all word_size after h)) ∙ ap (λ l. read_word (take word_size l)) e ∙ verdict-read table s before room)

-- the same files make the same set
pub same_set : {t s u b p z y r t' s' u' b' p' z' y' r' : List ℕ} → t ≡ t' → s ≡ s' → u ≡ u' → b ≡ b' → p ≡ p' → z ≡ z' → y ≡ y' → r ≡ r'
    → (t ∷ s ∷ u ∷ b ∷ p ∷ z ∷ y ∷ r ∷ []) ≡ (t' ∷ s' ∷ u' ∷ b' ∷ p' ∷ z' ∷ y' ∷ r' ∷ [])
same_set e f g h i j k l = cc
