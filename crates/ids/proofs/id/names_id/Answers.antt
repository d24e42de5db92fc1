-- `names_id` compares with the name of the file's number.
use borrow.Author.Rules.{rules}
use mathlib.Core.List.{[]}
use mathlib.Core.Path.{◌≡◌, sym, ap, ◌∙◌}
use Prim.Native.Nat.{ℕ, ◌≤◌}
use native.Mathlib.Omega.{arith}
use Rattle.text.specs.Text.{text_of, same}
use Rattle.schema.specs.Records.{identified}
use Rattle.schema.proofs.Recorded.{no_key, other-ids}
use Rattle.ids.specs.inner.Ids.{id_name}
use Rattle.ids.proofs.id.names_id.Goals as goal

-- another number than these
none-to_five : (n : ℕ) → (n ≡ 1 → ⊥) → (n ≡ 2 → ⊥) → (n ≡ 3 → ⊥) → (n ≡ 4 → ⊥) → (n ≡ 5 → ⊥) → 1 ≤ n → n ≤ 5 → ⊥
none-to_five n a b c d e h i = omega arith

other : (n : ℕ) → (n ≡ 1 → ⊥) → (n ≡ 2 → ⊥) → (n ≡ 3 → ⊥) → (n ≡ 4 → ⊥) → (n ≡ 5 → ⊥) → (n ≡ 8 → ⊥) → id_name n ≡ []
unfolding id_name
other n a b c d e f = let none = no_key n (other-ids n (none-to_five n a b c d e) f) in rw (id_name, none)

pub returns-in-1 : goal.returns-in-1
unfolding identified id_name
returns-in-1 c = rw c.in-1.is c.text_is.ensures

pub returns-in-2 : goal.returns-in-2
unfolding identified id_name
returns-in-2 c = rw c.in-2.is c.text_is-in-2.ensures

pub returns-in-3 : goal.returns-in-3
unfolding identified id_name
returns-in-3 c = rw c.in-3.is c.text_is-in-3.ensures

pub returns-in-4 : goal.returns-in-4
unfolding identified id_name
returns-in-4 c = rw c.in-4.is c.text_is-in-4.ensures

pub returns-in-5 : goal.returns-in-5
unfolding identified id_name
returns-in-5 c = rw c.in-5.is c.text_is-in-5.ensures

pub returns-in-8 : goal.returns-in-8
unfolding identified id_name
returns-in-8 c = rw c.in-8.is c.text_is-in-8.ensures

pub returns-in_default : goal.returns-in_default
returns-in_default c =
    c.text_is-in_default.ensures
    ∙ ap (same (text_of c.args.spelled.now))
    (sym (other c.args.sheet (search rules) (search rules) (search rules) (search rules) (search rules) (search rules)))
