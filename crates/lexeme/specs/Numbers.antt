-- A JSON number as its spelling: RFC 8259's `number = [ minus ] int [ frac ] [ exp ]`.
use Rattle.std.specs.Prelude.{Bool, true, false, List, [], ◌∷◌, ◌++◌, ℕ, eqb}
use Rattle.word.specs.Kinds.{not_json}
use Rattle.lexeme.specs.Read.{Read, then, made}
use Rattle.lexeme.specs.Read.Read.{done, bad}
use Rattle.notation.specs.Choice.{◌⇒◌else◌}
use Rattle.lexeme.specs.Character.{within}

unfoldable pub digit : ℕ → Bool
digit b = within 0x30 0x39 b

-- either of two bytes
unfoldable pub either : ℕ → ℕ → ℕ → Bool
either x y b = eqb b x ⇒ true else eqb b y

-- a run of digits, perhaps none
unfoldable pub digits : List ℕ → Read (List ℕ)
digits [] = done [] []
digits (b ∷ r) = elim (digit b) [ true ↦ made (λ y. b ∷ y) (digits r) | false ↦ done [] (b ∷ r) ]

-- at least one digit
unfoldable pub some_digits : List ℕ → Read (List ℕ)
some_digits [] = bad not_json []
some_digits (b ∷ r) = digit b ⇒ made (λ y. b ∷ y) (digits r) else bad not_json (b ∷ r)

-- a byte that the test admits and what must follow it; or, where another byte or none stands there, nothing
unfoldable pub optional : (ℕ → Bool) → (List ℕ → Read (List ℕ)) → List ℕ → Read (List ℕ)
optional test follow [] = done [] []
optional test follow (b ∷ r) = test b ⇒ made (λ y. b ∷ y) (follow r) else done [] (b ∷ r)

-- two spellings in a row
unfoldable pub both : (List ℕ → Read (List ℕ)) → (List ℕ → Read (List ℕ)) → List ℕ → Read (List ℕ)
both first second l = then (first l) (λ x r. made (λ y. x ++ y) (second r))

unfoldable pub nothing : List ℕ → Read (List ℕ)
nothing l = done [] l

-- 0 alone, or digits that do not begin with 0
unfoldable pub integer : List ℕ → Read (List ℕ)
integer [] = bad not_json []
integer (b ∷ r) = eqb b 0x30 ⇒ done (b ∷ []) r else some_digits (b ∷ r)

unfoldable pub minus : List ℕ → Read (List ℕ)
minus = optional (λ b. eqb b 0x2d) nothing

unfoldable pub fraction : List ℕ → Read (List ℕ)
fraction = optional (λ b. eqb b 0x2e) some_digits

unfoldable pub exponent : List ℕ → Read (List ℕ)
exponent = optional (either 0x65 0x45) (both (optional (either 0x2b 0x2d) nothing) some_digits)

unfoldable pub number : List ℕ → Read (List ℕ)
number = both minus (both integer (both fraction exponent))
