-- Computed cases as a table: what each line shows, what is asked, and what is answered.
use Rattle.std.specs.Prelude.{List, map, ◌≡◌, ℕ, eqb}
use Prim.Native.String.{String}
use Rattle.notation.specs.Ascii.{bytes}
use Rattle.notation.specs.Choice.{◌⇒◌else◌}

abbrev pub Case : Type 0 → Type 0 → Type 0
Case A B = String × A × B

-- f answers every line of the table as the line says
abbrev pub Answers : {A B : Type 0} → (A → B) → List (Case A B) → Type 0
Answers f l = map (λ c. f c.1) l ≡ map (λ c. c.2) l

-- a JSON text as its bytes; ' stands for a quotation mark
abbrev pub json : String → List ℕ
json s = map (λ b. eqb b 0x27 ⇒ 0x22 else b) (bytes s)
