-- What document 02's request W4 lets a reader count on, beyond the definition of `values`: one rule alone, a first rule that gives all four values, and
-- rules that give nothing new. `proofs/Combined` shows it.
use Rattle.std.specs.Prelude.{true, List, [], ◌∷◌, ◌++◌, ◌≡◌, ℕ, Option}
use Rattle.schema.specs.Shape.{Table}
use Rattle.schema.specs.Pick.{Picked}
use Rattle.geometry.specs.Ring.{Point}
use Rattle.document.specs.Document.{spelling, truth, given}
use Rattle.clean.specs.Clean.{clean_of}
use Rattle.zone.specs.declared.Rule.{Rule}
use Rattle.zone.specs.Zone.{rules_at, first_given}
use Rattle.zone.specs.Answer.{rule_of, found, on_map, of_rules, ruling_of}
use Rattle.fault.specs.Outcome.{unbroken}

-- the values of one rule, as they were answered before W4
unfoldable pub own : Picked → Rule
own x = rule_of (truth 79 x) (truth 80 x) (spelling 81 x) (truth 82 x)

pub record GivesAll (x : Picked) : Type 0 where
  pub ride : given (truth 79 x) ≡ true
  pub through : given (truth 80 x) ≡ true
  pub speed : given (spelling 81 x) ≡ true
  pub parking : given (truth 82 x) ≡ true

-- a value that the rules k give is given by the rules l
abbrev pub Known : {A : Type 0} → (Picked → Option A) → (l k : List Picked) → Type 0
Known value l k = given (first_given value k) ≡ true → given (first_given value l) ≡ true

pub record NothingNew (l k : List Picked) : Type 0 where
  pub ride : Known (truth 79) l k
  pub through : Known (truth 80) l k
  pub speed : Known (spelling 81) l k
  pub parking : Known (truth 82) l k

pub record Combining (t : Table) : Type 0 where
  -- a clean file answers with what the rules that apply give
  pub answered : (s : List ℕ) (q : Point) (type : List ℕ) (moment : ℕ) → on_map q ≡ true → clean_of t 6 s ≡ unbroken
      → ruling_of t s q type moment ≡ of_rules (rules_at t s q type moment)
  -- of one rule alone the values are its own
  pub one_rule : (x : Picked) → of_rules (x ∷ []) ≡ found (own x)
  -- where the first rule gives all four values, the answer is document 01's, whatever follows
  pub whole_first : (x : Picked) (l : List Picked) → GivesAll x → of_rules (x ∷ l) ≡ found (own x)
  -- rules that give nothing new may be left out, and so may stand before or behind any that follow
  pub left_out : (x : Picked) (l k m : List Picked) → NothingNew (x ∷ l) k → of_rules (x ∷ l ++ k ++ m) ≡ of_rules (x ∷ l ++ m)
  pub any_order : (x : Picked) (l k n m : List Picked) → NothingNew (x ∷ l) k → of_rules (x ∷ l ++ k ++ n ++ m) ≡ of_rules (x ∷ l ++ n ++ k ++ m)
