-- The fields of a plan and of a segment, by the bytes of the object: each is a row of the table, and its member's bytes hold it.
use mathlib.Core.Bool.{Bool, false}
use mathlib.Core.List.{List, []}
use mathlib.Core.Logic.{◌⊎◌}
use mathlib.Core.Path.{◌≡◌, refl, ap, ap₂}
use Prim.Native.Nat.{ℕ, ◌+◌, ◌<◌}
use native.Mathlib.Omega.{arith}
use lib.Dec.{eqb}
use borrow.Author.Tests.{ne_eqb}
use Rattle.std.specs.Prelude.{None, Some}
use Rattle.notation.specs.Ascii.{bytes}
use Rattle.notation.specs.Choice.{◌⇒◌else◌}
use Rattle.json_text.specs.Tree.{Json}
use Rattle.walk.specs.Part.{Whole}
use Rattle.schema.specs.Shape as shape
use Rattle.schema.specs.Table23 as table
use Rattle.schema.specs.Pick.{pick}
use Rattle.decimal.specs.declared.Amount.{Amount}
use Rattle.fare.specs.declared.Segment.{Segment}
use Rattle.document.specs.Document.{field_items}
use Rattle.document.proofs.Rows.{here, below}
use Rattle.document.proofs.Ways as required
use Rattle.document.specs.inner.Items.{picked_items}
use Rattle.document.specs.Values.{integer_in}
use Rattle.document.specs.inner.Values.{member_of, array_by}
use Rattle.document.proofs.Arrays.{member-along}
use Rattle.document.proofs.FieldBytes.{field-spelled, field-text, field-given, field-items, row_of, listed}
use Rattle.quote.specs.Plan.{money_in, price_in, price_at, plan_segment}
use Rattle.quote.specs.inner.Values.{price_by, segment_by}
use Rattle.quote.specs.inner.Clear.{Clear, ClearValue, ClearPlan, ClearSegments}
use Rattle.quote.proofs.Cleared.{member-clear, required_clear, items-most, items-clear}

-- a plan
module _ {p : List ℕ} {x : Json} (w : Whole p x) where
  pub plan-price : price_by (member_of p (bytes "price")) ≡ price_at (pick table.plan x)
  unfolding table.plan row_of price_by price_at
  plan-price = ap₂ price_in (field-spelled (listed refl) w) (field-text (listed refl) w)

  pub plan-kilometres : picked_items (table.segment 57) (array_by (member_of p (bytes "per_km_pricing"))) ≡ field_items 56 (pick table.plan x)
  unfolding table.plan row_of
  plan-kilometres = field-items (listed refl) w

  pub plan-minutes : picked_items (table.segment 62) (array_by (member_of p (bytes "per_min_pricing"))) ≡ field_items 61 (pick table.plan x)
  unfolding table.plan row_of
  plan-minutes = field-items (listed refl) w

-- what is clear in a clear plan
module _ {p : List ℕ} (c : ClearPlan p) where
  pub price-clear : ClearValue shape.price (member_of p (bytes "price"))
  unfolding table.plan
  price-clear = required_clear {f = 53} c (required.below refl (required.below refl (required.below refl required.here)))

  pub kilometres-clear : ClearSegments (array_by (member_of p (bytes "per_km_pricing")))
  unfolding table.plan row_of
  kilometres-clear =
      let l = listed {f = 56} refl in record { along = member-along p (bytes "per_km_pricing"); few = items-most c l; each = λ m i. (57, items-clear c l m i) }

  pub minutes-clear : ClearSegments (array_by (member_of p (bytes "per_min_pricing")))
  unfolding table.plan row_of
  minutes-clear =
      let l = listed {f = 61} refl in record { along = member-along p (bytes "per_min_pricing"); few = items-most c l; each = λ m i. (62, items-clear c l m i) }

-- a segment, whatever its fields' numbers
abbrev made : ℕ → Amount → ℕ → Bool → ℕ → Segment
made start rate interval ended end = record { start = start; rate = rate; interval = interval; end = ended ⇒ Some end else None }

same-segment : {a b c d e f : ℕ} {r s : Amount} {t u : Bool} → a ≡ b → r ≡ s → c ≡ d → t ≡ u → e ≡ f → made a r c t e ≡ made b s d u f
same-segment h i j k l = rw (h, i, j, k, l)

module _ (f : ℕ) where
  -- its rows lie one below the other
  off : (i j : ℕ) → j < i → eqb (f + i) (f + j) ≡ false
  off i j h = ne_eqb (f + i) (f + j) (λ e. omega arith)

  off_first : (i : ℕ) → 0 < i → eqb (f + i) f ≡ false
  off_first i h = ne_eqb (f + i) f (λ e. omega arith)

  module _ {p : List ℕ} {x : Json} (w : Whole p x) where
    pub segment-is : segment_by p ≡ plan_segment f (pick (table.segment f) x)
    unfolding table.segment plan_segment segment_by
    segment-is =
        let a = off_first 1 (omega arith) in
        let b = off_first 2 (omega arith) in
        let c = off 2 1 (omega arith) in
        let d = off_first 3 (omega arith) in
        let e = off 3 1 (omega arith) in
        let g = off 3 2 (omega arith) in
        same-segment (ap integer_in (field-spelled here w)) (ap money_in (field-spelled (below a here) w)) (ap integer_in (field-spelled (below b (below c here)) w))
        (field-given (below d (below e (below g here))) w) (ap integer_in (field-spelled (below d (below e (below g here))) w))

  -- what is clear in a clear one
  module _ {p : List ℕ} (c : Clear (table.segment f) p) where
    pub start-clear : ClearValue shape.integer (member_of p (bytes "start"))
    unfolding table.segment
    start-clear = required_clear c required.here

    pub rate_clear : ClearValue shape.money (member_of p (bytes "rate"))
    unfolding table.segment
    rate_clear = required_clear c (required.below (off_first 1 (omega arith)) required.here)

    pub interval_clear : ClearValue shape.integer (member_of p (bytes "interval"))
    unfolding table.segment
    interval_clear = required_clear c (required.below (off_first 2 (omega arith)) (required.below (off 2 1 (omega arith)) required.here))

    pub end-clear : (member_of p (bytes "end") ≡ []) ⊎ ClearValue shape.integer (member_of p (bytes "end"))
    unfolding table.segment
    end-clear = member-clear c (below (off_first 3 (omega arith)) (below (off 3 1 (omega arith)) (below (off 3 2 (omega arith)) here)))
