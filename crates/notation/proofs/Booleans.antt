-- Laws of tests: each holds by the values that its first test can have.
use mathlib.Core.Bool.{Bool, true, false, true≢false, ◌&&◌, ◌||◌}
use mathlib.Core.Path.{◌≡◌, refl, sym, ◌∙◌}
use Rattle.notation.specs.Choice.{◌⇒◌else◌, ◌and◌}

-- what follows either way follows
pub by_test : {A : Type 0} (t : Bool) → (t ≡ true → A) → (t ≡ false → A) → A
by_test true f g = f refl
by_test false f g = g refl

-- no test has both values
pub true-false : {A : Type 0} {t : Bool} → t ≡ true → t ≡ false → A
true-false e f = absurd (true≢false (sym e ∙ f))

-- where both of two tests hold, each does
pub and_both : (a b : Bool) → a and b ≡ true → (a ≡ true) × (b ≡ true)
and_both true b e = (refl, e)
and_both false b e = true-false e refl

pub and_left : (a b : Bool) → a and b ≡ true → a ≡ true
and_left a b e = (and_both a b e).0

pub and_right : (a b : Bool) → a and b ≡ true → b ≡ true
and_right a b e = (and_both a b e).1

pub and-true : (a : Bool) → (a and true) ≡ a
and-true true = refl
and-true false = refl

pub and-false : (a : Bool) → (a and false) ≡ false
and-false true = refl
and-false false = refl

pub and_assoc : (a b c : Bool) → ((a and b) and c) ≡ (a and (b and c))
and_assoc true b c = refl
and_assoc false b c = refl

-- a choice between the test's own values is the test
pub or_false : (a : Bool) → (a ⇒ true else false) ≡ a
or_false true = refl
or_false false = refl

-- the code's `&&` and `||` are the definitions' choices
pub both-is : (a b : Bool) → a && b ≡ (a ⇒ b else false)
both-is true b = refl
both-is false b = refl

pub either-is : (a b : Bool) → a || b ≡ (a ⇒ true else b)
either-is true b = refl
either-is false b = refl

pub and-is : (a b : Bool) → a && b ≡ (a and b)
and-is true b = refl
and-is false b = refl
