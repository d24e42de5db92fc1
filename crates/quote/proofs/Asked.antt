-- What a quote asks, in order: whether the ride is short, the file clean and the plan there. What all three refusals fail is a test for an answer that has passed
-- them, as that the number is 0, or that there is a mark.
use mathlib.Core.Bool.{Bool, true, false, true≢false}
use mathlib.Core.Path.{◌≡◌, refl, sym, ◌∙◌}
use Prim.Native.Nat.{ℕ}
use Rattle.notation.specs.Choice.{◌⇒◌else◌}
use Rattle.word.specs.declared.Parts.{Parts}
use Rattle.schema.specs.Pick.{Picked}
use Rattle.quote.specs.Quote.{Answer, refused, unclean, plan_quote, of_clean}
use Rattle.fault.specs.Outcome.{Outcome, unbroken}
use Rattle.std.specs.Prelude.{Err, Ok, Option, None, Some}

abbrev pub asked : Bool → Outcome → Option Picked → (seconds metres : ℕ) → Answer
asked t c m seconds metres = t ⇒ of_clean c (plan_quote seconds metres m) else refused 4

pub record Passed (t : Bool) (c : Outcome) (m : Option Picked) : Type 0 where
  pub brief : t ≡ true
  pub clean : c ≡ unbroken
  pub plan : Picked
  pub found : m ≡ Some plan

module _ (test : Answer → Bool) (long : test (refused 4) ≡ false) (broken : (p : Parts) → test (unclean p) ≡ false) (absent : test (refused 6) ≡ false) where
  pub passed : (t : Bool) (c : Outcome) (m : Option Picked) (seconds metres : ℕ) → test (asked t c m seconds metres) ≡ true → Passed t c m
  passed false c m seconds metres e = absurd (true≢false (sym e ∙ long))
  passed true (Err p) m seconds metres e = absurd (true≢false (sym e ∙ broken p))
  passed true (Ok _) None seconds metres e = absurd (true≢false (sym e ∙ absent))
  passed true (Ok _) (Some plan) seconds metres e = record { brief = refl; clean = refl; plan = plan; found = refl }
