-- `is_missing` asks of each file that is called for.
use borrow.Author.Rules.{rules}
use mathlib.Core.Bool.{Bool, not}
use mathlib.Core.Path.{◌≡◌, ap, ap₂, ◌∙◌}
use Rattle.notation.specs.Choice.{◌and◌}
use Rattle.cross.specs.Cross.{missing_file}
use Rattle.feedset.proofs.Staging.{called_else}
use Rattle.feedset.proofs.stage.is_missing.Goals as goal

-- what is needed and what is there, by the files
asked : {r needed there a b : Bool} → r ≡ needed and not there → needed ≡ a → there ≡ b → r ≡ a and not b
asked e f g = e ∙ ap₂ (λ x y. x and not y) f g

pub returns-in-2 : goal.returns-in-2
unfolding missing_file
returns-in-2 c table =
    rw c.in-2.is (asked c.is_lacking.ensures c.is_here.ensures c.is_here-in-2.ensures)

pub returns-in-3 : goal.returns-in-3
unfolding missing_file
returns-in-3 c table =
    rw c.in-3.is (asked c.is_lacking-in-3.ensures c.is_here-in-3.ensures c.is_here-in-3-2.ensures)

pub returns-in-4 : goal.returns-in-4
unfolding missing_file
returns-in-4 c table =
    rw c.in-4.is (asked c.is_lacking-in-4.ensures (ap not c.is_here-in-4.ensures) c.is_here-in-4-2.ensures)

pub returns-in-7 : goal.returns-in-7
unfolding missing_file
returns-in-7 c table = rw c.in-7.is (ap not (search rules))

pub returns-in_default : goal.returns-in_default
returns-in_default c table = called_else _ c.args.file (search rules) (search rules) (search rules) (search rules)
