-- A choice by tests, of which the first that holds decides: `t ⇒ x else y` is x where t holds, and y where it does not.
use Rattle.std.specs.Prelude.{Bool, true, false}

infixr 10 ◌⇒◌else◌
abbrev pub ◌⇒◌else◌ : {A : Type 0} → Bool → A → A → A
◌⇒◌else◌ true x y = x
◌⇒◌else◌ false x y = y

-- both tests hold
infixr 30 ◌and◌
abbrev pub ◌and◌ : Bool → Bool → Bool
◌and◌ true b = b
◌and◌ false b = false
