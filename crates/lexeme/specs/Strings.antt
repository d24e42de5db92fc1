-- A JSON string as its decoded bytes.
use Rattle.std.specs.Prelude.{List, [], ◌∷◌, ◌++◌, ℕ, zero, suc, drop}
use Rattle.word.specs.Kinds.{not_json}
use Rattle.lexeme.specs.declared.Next.TheVariants.{Quote, Character, Fault}
use Rattle.lexeme.specs.Read.{Read, made}
use Rattle.lexeme.specs.Read.Read.{done, bad}
use Rattle.lexeme.specs.Character.{Surrogates, bytes_of, next}

-- The rest of a string up to its closing quote, `string ρ k l`, k bytes into l: a character's spelling may have several bytes,
-- and k passes over those after its first.
unfoldable pub string : Surrogates → ℕ → List ℕ → Read (List ℕ)
string ρ k [] = bad not_json []
string ρ (suc k) (b ∷ r) = string ρ k r
string ρ zero (b ∷ r) =
    elim (next ρ (b ∷ r)) [
      | Quote ↦ done [] r
      | Fault k n ↦ bad k (drop n (b ∷ r))
      | Character x ↦ made (λ y. bytes_of x ++ y) (string ρ x.more r)
    ]

-- The decoded bytes of spelled ones that have no quotes around them, likewise k bytes in, up to the first fault.
unfoldable pub decoded : Surrogates → ℕ → List ℕ → List ℕ
decoded ρ k [] = []
decoded ρ (suc k) (b ∷ r) = decoded ρ k r
decoded ρ zero (b ∷ r) =
    elim (next ρ (b ∷ r)) [
      | Quote ↦ []
      | Fault k n ↦ []
      | Character x ↦ bytes_of x ++ decoded ρ x.more r
    ]
