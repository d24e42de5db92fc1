-- Numbers in bytes and signed numbers in bits, and what is told into short buffers, computed.
use mathlib.Core.List.{List, [], ◌∷◌}
use mathlib.Core.Path.{refl}
use Prim.Native.Nat.{ℕ}
use lib.IntN.{pos, neg_ℤ}
use Rattle.notation.specs.Case.{Case, Answers}
use Rattle.skaveldro.specs.Encoding.{low_bytes, encoded, holds, filled}
use Rattle.skaveldro.specs.Answers.{Answer, answered, signed_bits, told}

abbrev encodings : List (Case (List ℕ) (List ℕ))
encodings =
    ("two numbers", 258 ∷ 1 ∷ [], 2 ∷ 1 ∷ 0 ∷ 0 ∷ 0 ∷ 0 ∷ 0 ∷ 0 ∷ 1 ∷ 0 ∷ 0 ∷ 0 ∷ 0 ∷ 0 ∷ 0 ∷ 0 ∷ []) ∷
    ("−5000", signed_bits (neg_ℤ (pos 5_000)) ∷ [], 120 ∷ 236 ∷ 255 ∷ 255 ∷ 255 ∷ 255 ∷ 255 ∷ 255 ∷ []) ∷
    []

encodings_answered : Answers encoded encodings
unfolding encoded low_bytes
encodings_answered = refl

-- "no such plan", which gives no value; and an answer that gives one
abbrev refusal : Answer
refusal = answered 6 (0 ∷ [])

abbrev value : Answer
value = answered 5 (258 ∷ [])

abbrev nine : List ℕ
nine = 1 ∷ 2 ∷ 3 ∷ 4 ∷ 5 ∷ 6 ∷ 7 ∷ 8 ∷ 9 ∷ []

abbrev numbers : List (Case (List ℕ × Answer) ℕ)
numbers =
    ("a refusal needs no bytes", ([], refusal), 6) ∷
    ("a value does not go into seven", (1 ∷ 2 ∷ 3 ∷ 4 ∷ 5 ∷ 6 ∷ 7 ∷ [], value), 2) ∷
    []

numbers-answered : Answers (λ c. told c.0 c.1) numbers
unfolding told answered holds
numbers-answered = refl

abbrev buffers : List (Case Answer (List ℕ))
buffers =
    ("a refusal leaves every byte", refusal, nine) ∷
    ("a value leaves the ninth", value, 2 ∷ 1 ∷ 0 ∷ 0 ∷ 0 ∷ 0 ∷ 0 ∷ 0 ∷ 9 ∷ []) ∷
    []

buffers_answered : Answers (λ (a : Answer). filled nine a.values) buffers
unfolding filled answered holds encoded low_bytes
buffers_answered = refl
