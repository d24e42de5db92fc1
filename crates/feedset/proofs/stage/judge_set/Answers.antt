-- `judge_set` finds the records of each file; the first file that breaks a rule is stage C's, and its rule fits the word.
use mathlib.Core.Bool.{true}
use mathlib.Core.List.{List, [], ◌∷◌, map}
use mathlib.Core.Path.{◌≡◌, ◌∙◌}
use Prim.Native.Nat.{ℕ}
use native.Mathlib.Omega.{arith}
use Rattle.notation.proofs.Booleans.{true-false}
use Rattle.schema.specs.Tables.{sheet_of}
use Rattle.schema.specs.Records.{has_records}
use Rattle.schema.proofs.Recorded.{ids-recorded}
use Rattle.document.specs.inner.Spans.{RecordsFrom}
use Rattle.cross.specs.Stage.{bytes_of, Feeds}
use Rattle.cross.proofs.Numbers.{Each, by_number}
use Rattle.cross.proofs.Tabled.{has-records}
use Rattle.cross.proofs.Files.{file-bytes}
use Rattle.feedset.proofs.Sets.{AllInBytes, outcome_is, all-narrow}
use Rattle.cross.specs.inner.Stage.{AllPassAB}
use Rattle.feedset.proofs.stage.judge_set.Goals as goal

-- the rest of each file that has records
abbrev From : (table : ℕ) (s rs : Feeds) → ℕ → Type 0
From table s rs file = let sheet = sheet_of table file in has_records sheet ≡ true → RecordsFrom sheet (bytes_of s file) (bytes_of rs file)

-- the records of all files, one by one
held : (table : ℕ) (s : Feeds) → AllPassAB table s → (p₁ p₂ p₃ p₄ p₅ p₆ p₇ p₈ : List ℕ)
    → RecordsFrom (sheet_of table 1) (bytes_of s 1) p₁ → RecordsFrom (sheet_of table 2) (bytes_of s 2) p₂ → RecordsFrom (sheet_of table 3) (bytes_of s 3) p₃
    → RecordsFrom (sheet_of table 4) (bytes_of s 4) p₄ → RecordsFrom (sheet_of table 5) (bytes_of s 5) p₅ → RecordsFrom (sheet_of table 6) (bytes_of s 6) p₆
    → p₇ ≡ bytes_of s 7 → RecordsFrom (sheet_of table 8) (bytes_of s 8) p₈
    → AllInBytes table s (p₁ ∷ p₂ ∷ p₃ ∷ p₄ ∷ p₅ ∷ p₆ ∷ p₇ ∷ p₈ ∷ [])
unfolding Each
held table s all p₁ p₂ p₃ p₄ p₅ p₆ p₇ p₈ h₁ h₂ h₃ h₄ h₅ h₆ h₇ h₈ =
    record { recorded = λ file h i k. file-bytes (sheet_of table file) k _ (all file h i) (by_number (From table s rests) from file h i k); bare = h₇ }
  where
    rests : Feeds
    rests = p₁ ∷ p₂ ∷ p₃ ∷ p₄ ∷ p₅ ∷ p₆ ∷ p₇ ∷ p₈ ∷ []

    from : Each (From table s rests) 1 8
    from =
        (λ k. h₁, (λ k. h₂, (λ k. h₃, (λ k. h₄, (λ k. h₅, (λ k. h₆, (λ k. true-false k (has-records table 7 (omega arith) (omega arith)), (λ k. h₈, tt))))))))

pub judge_parts-requires : goal.judge_parts-requires
judge_parts-requires c =
    let table = c.args.table in let s = map (λ p. p.now) c.args.files in
    let all = held table s c.requires _ _ _ _ _ _ _ _ c.records_in.ensures c.records_in-2.ensures c.records_in-3.ensures c.records_in-4.ensures
    c.records_in-5.ensures c.records_in-6.ensures c.file_in.ensures c.records_in-7.ensures in (
      λ file h i k. (all.recorded file h i k).recorded,
      λ file h i k. (all.recorded file h i (ids-recorded _ k)).singles k,
      all-narrow table s _ all,
    )

pub returns : goal.returns
returns c =
    let table = c.args.table in let s = map (λ p. p.now) c.args.files in
    let all = held table s c.requires _ _ _ _ _ _ _ _ c.records_in.ensures c.records_in-2.ensures c.records_in-3.ensures c.records_in-4.ensures
    c.records_in-5.ensures c.records_in-6.ensures c.file_in.ensures c.records_in-7.ensures in
    c.judge_parts.ensures ∙ outcome_is table s _ all
