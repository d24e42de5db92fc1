-- Reading from the front of a text, as all of stage A does it. A reader finds a value and the text after it,
-- or a fault: its kind, and what is left from there. A fault's offset is thus the whole text's length less what is left.
use Rattle.std.specs.Prelude.{ℕ, ◌-◌, List, length, Result, Ok, Err}
use Rattle.lexeme.specs.declared.SyntaxError.{SyntaxError}

pub data Read (A : Type 0) : Type 0 where
  done : A → List ℕ → Read A
  bad : ℕ → List ℕ → Read A

-- one reader after another: the second gets what the first found, and the text after it
unfoldable pub then : {A B : Type 0} → Read A → (A → List ℕ → Read B) → Read B
then (done x r) next = next x r
then (bad k r) next = bad k r

-- the same reading, its value changed by f
unfoldable pub made : {A B : Type 0} → (A → B) → Read A → Read B
made f (done x r) = done (f x) r
made f (bad k r) = bad k r

abbrev pub wrong_at : {A : Type 0} → (kind offset : ℕ) → Result A SyntaxError
wrong_at kind offset = Err (record { kind = kind; offset = offset })

-- where reading ended in the whole text s
unfoldable pub placed : {A : Type 0} → List ℕ → Read A → Result ℕ SyntaxError
placed s (done x r) = Ok (length s - length r)
placed s (bad k r) = wrong_at k (length s - length r)
