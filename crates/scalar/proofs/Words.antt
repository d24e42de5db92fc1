-- The words of a line, as the code goes through all words from the line's first on.
use mathlib.Core.Bool.{true, false}
use mathlib.Core.List.{List, [], ◌∷◌}
use mathlib.Core.Path.{◌≡◌, refl, ◌∙◌}
use Prim.Native.Nat.{ℕ, zero, suc, ◌+◌, ◌-◌, ◌<◌, ◌≤◌}
use native.Mathlib.Numerals.{add-one}
use native.Mathlib.Omega.{arith}
use lib.ListN.{length, get_or, take, drop}
use lib.Seq.{drop-cons}
use Rattle.text.specs.Text.{same_word}
use Rattle.schema.specs.Shape.{Table}
use Rattle.schema.specs.Tables.{sheets, written}
use Rattle.schema.specs.inner.Line.{line_words, words_of, words_at, word_at, range_at, laid_out}
use Rattle.schema.proofs.Walk.{words-part}
use Rattle.scalar.specs.Scalars.{any_word}

-- the words from place k up to another, one at a time
module _ (ws : List (List ℕ)) (s : List ℕ) (k end : ℕ) where
  pub words-end : end ≤ k → false ≡ any_word (take (end - k) (drop k ws)) s
  unfolding any_word
  words-end h = let n : end - k ≡ 0 = omega arith in rw n

  module _ (h : k < end) (fits : end ≤ length ws) where
    here : take (end - k) (drop k ws) ≡ get_or ws k [] ∷ take (end - (k + 1)) (drop (k + 1) ws)
    here =
        let n : end - k ≡ suc (end - (k + 1)) = omega arith in
        let i : k < length ws = omega arith in
        rw (n, add-one, drop-cons ws k [])

    pub words-here : same_word s (get_or ws k []) ≡ true → true ≡ any_word (take (end - k) (drop k ws)) s
    unfolding any_word
    words-here e = rw (here, e, any_word)

    pub words-next : same_word s (get_or ws k []) ≡ false →
        any_word (take (end - (k + 1)) (drop (k + 1) ws)) s ≡ any_word (take (end - k) (drop k ws)) s
    unfolding any_word
    words-next e = rw (here, e, any_word)

-- what a part begins with stands at its place
begins : (l : List (List ℕ)) (k n : ℕ) (x : List ℕ) (r : List (List ℕ)) → take n (drop k l) ≡ x ∷ r → get_or l k [] ≡ x
begins l k zero x r e = let z : ◌≡◌ {A = ℕ} 0 1 = cc in absurd (omega arith)
begins [] zero (suc n) x r e = let z : ◌≡◌ {A = ℕ} 0 1 = cc in absurd (omega arith)
begins [] (suc k) (suc n) x r e = let z : ◌≡◌ {A = ℕ} 0 1 = cc in absurd (omega arith)
begins (y ∷ l) zero (suc n) x r e = cc
begins (y ∷ l) (suc k) (suc n) x r e = begins l k (suc n) x r e

-- a line's only word is the first of its words
pub only-word : (t : Table) (line : ℕ) (x : List ℕ) → words_at t line ≡ x ∷ [] → word_at t (range_at (line_words t) line).first ≡ x
only-word t line x e = begins (words_of t) (range_at (line_words t) line).first (range_at (line_words t) line).count x [] (words-part t line ∙ e)

-- all words of the table
pub all_words : length (words_of sheets) ≡ 27
unfolding laid_out written
all_words = refl
