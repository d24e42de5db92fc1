-- How the code says what a value breaks: one kind, or 0 for none.
use Rattle.std.specs.Prelude.{List, [], ◌∷◌, ℕ, zero, suc}

-- the kinds of which a number tells
abbrev pub listed : ℕ → List ℕ
listed zero = []
listed (suc k) = suc k ∷ []
