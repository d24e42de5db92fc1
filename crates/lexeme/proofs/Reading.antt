-- What is shown of every reader of stage A: it leaves a shorter text, what it read stands by itself,
-- a fault of kind 2 is where no JSON text goes on, and a laxer rule reads at least as far.
use mathlib.Core.Bool.{Bool, true, false}
use mathlib.Core.List.{List, [], ◌∷◌, ◌++◌}
use mathlib.Core.Path.{◌≡◌}
use Prim.Native.Nat.{ℕ, ◌≤◌, ◌<◌}
use lib.ListN.{length}
use lib.Dec.{eqb}
use Rattle.word.specs.Kinds.{not_json}
use Rattle.lexeme.specs.Read.{Read}
use Rattle.lexeme.specs.Read.Read.{done, bad}
use Rattle.notation.specs.Choice.{◌⇒◌else◌}
use Rattle.lexeme.specs.Numbers.{digit, either}

-- the text that reading left, or the fault's
abbrev pub rest : {A : Type 0} → Read A → List ℕ
rest (done x r) = r
rest (bad k r) = r

-- reading leaves no more text than there was
abbrev pub Shrinks : {A : Type 0} → (List ℕ → Read A) → Type 0
Shrinks f = (l : List ℕ) → length (rest (f l)) ≤ length l

-- what is read takes a byte at least
abbrev pub Consumes : {A : Type 0} → (List ℕ → Read A) → Type 0
Consumes {A} f = (l r : List ℕ) (x : A) → f l ≡ done x r → length r < length l

-- What may stand in place of the text r that reading left, so that the same is read: anything, where the lexeme has an end of its own;
-- after a number, what begins as r does or does not go on with a number.
abbrev pub Any : List ℕ → List ℕ → Type 0
Any r q = Unit {0}

-- a byte that may go on with a number
unfoldable pub numeric : ℕ → Bool
numeric b =
    digit b ⇒ true else
    either 0x65 0x45 b ⇒ true else eqb b 0x2e

abbrev pub Stops : List ℕ → Type 0
Stops [] = Unit {0}
Stops (b ∷ q) = numeric b ≡ false

pub data Settled : List ℕ → List ℕ → Type 0 where
  alike : {b : ℕ} {v w : List ℕ} → Settled (b ∷ v) (b ∷ w)
  same_end : {r : List ℕ} → Settled r r
  stops : {r q : List ℕ} → Stops q → Settled r q

-- f read x off the front of l and left r: what it took, and that it takes this the same before any q that C lets follow
pub record Consumed {A : Type 0} (C : List ℕ → List ℕ → Type 0) (f : List ℕ → Read A) (l : List ℕ) (x : A) (r : List ℕ) : Type 0 where
  pub part : List ℕ
  pub splits : l ≡ part ++ r
  pub frame : (q : List ℕ) → C r q → f (part ++ q) ≡ done x q

abbrev pub StrongPrefix : {A : Type 0} → (List ℕ → List ℕ → Type 0) → (List ℕ → Read A) → Type 0
StrongPrefix {A} C f = (l r : List ℕ) (x : A) → f l ≡ done x r → Consumed C f l x r

-- f met a fault of kind 2 in l, r being the text from it on: what stands before the fault begins a text that f reads whole,
-- and with the byte at the fault it begins none
pub record Faulted {A : Type 0} (f : List ℕ → Read A) (l r : List ℕ) : Type 0 where
  pub part : List ℕ
  pub splits : l ≡ part ++ r
  pub dead : (b : ℕ) (w : List ℕ) → r ≡ b ∷ w → (v : List ℕ) → f (part ++ (b ∷ v)) ≡ bad not_json (b ∷ v)
  pub ending : List ℕ
  pub what : A
  pub alive : f (part ++ ending) ≡ done what []

abbrev pub Faults : {A : Type 0} → (List ℕ → Read A) → Type 0
Faults f = (l r : List ℕ) → f l ≡ bad not_json r → Faulted f l r

-- A reading by stricter rules against one by laxer rules: the same, or the stricter one met a fault that the laxer rules drop,
-- and the laxer reading went past it. D tells the kinds that are dropped.
pub data Relaxed {A : Type 0} (D : ℕ → Type 0) : Read A → Read A → Type 0 where
  same : {o : Read A} → Relaxed D o o
  further : {k : ℕ} {r : List ℕ} {o : Read A} → D k → length (rest o) < length r → Relaxed D (bad k r) o
