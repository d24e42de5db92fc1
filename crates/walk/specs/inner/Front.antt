-- A value at the front of some bytes, with anything behind it: where it ends.
use Rattle.std.specs.Prelude.{List, ◌≡◌, ℕ, ◌≤◌, length, drop}
use Rattle.limits.specs.Ceilings.{depth}
use Rattle.lexeme.specs.Read.Read.{done}
use Rattle.lexeme.specs.Character.{paired, byte}
use Rattle.lexeme.specs.inner.Start.{Start, start}
use Rattle.json_text.specs.Tree.{Json}
use Rattle.json_text.specs.Text.{value}

-- the value of the tree x takes the first n bytes of p
pub record Fronts (p : List ℕ) (x : Json) (n : ℕ) : Type 0 where
  pub reads : value paired depth p ≡ done x (drop n p)
  pub fits : n ≤ length p

-- e is where the value at the front of p ends; 0 where none begins there
pub record Ends (p : List ℕ) (e : ℕ) : Type 0 where
  pub inside : e ≤ length p
  pub is : (x : Json) (n : ℕ) → Fronts p x n → e ≡ n
  pub none : start (byte p 0) ≡ Start.other → e ≡ 0
