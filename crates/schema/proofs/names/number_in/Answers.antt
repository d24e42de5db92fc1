-- What is at the place of these bytes is their number where its name is these bytes; else they are no name, and so where they are none or more than 31.
use mathlib.Core.List.{List}
use mathlib.Core.Path.{sym, ap, ◌∙◌}
use Prim.Native.Nat.{ℕ}
use native.Mathlib.Omega.{arith}
use lib.ListN.{get_or}
use Rattle.text.specs.Text.{same}
use Rattle.schema.specs.Tables.{sheets}
use Rattle.schema.specs.inner.Names.{places_of}
use Rattle.schema.specs.inner.Line.{each_name}
use Rattle.schema.proofs.Numbers.{number-odd, found_here, found_none}
use Rattle.schema.proofs.Found.{names_stand, names-alone, names-sized}
use borrow.Author.Tests.{eqb-true}
use Rattle.schema.proofs.names.number_in.Goals.{then-is_empty-via-then-is_empty, then-is_empty-via-else-is_empty+then-x-ge32}
use Rattle.schema.proofs.names.number_in.Goals as goal

pub returns-then-is_empty : goal.returns-then-is_empty
returns-then-is_empty c =
    number-odd (each_name sheets) names-sized _ (λ g h.
    elim c.then-is_empty.branch [
      | then-is_empty-via-then-is_empty w ↦ let e = sym c.is_empty.ensures ∙ w.if-is_empty.true in omega (arith, eqb-true _ _ e)
      | then-is_empty-via-else-is_empty+then-x-ge32 w ↦ omega (arith, w.if-x-ge32.true)
    ])

-- what stands at the place, and what is compared
pub returns-then-not-same_bytes : goal.returns-then-not-same_bytes
returns-then-not-same_bytes c =
    let x = c.args.x.now in
    found_none (each_name sheets) (places_of (each_name sheets)) names_stand names-alone x
    (c.placed_at-number.ensures ∙ ap (λ k. get_or (places_of (each_name sheets)) k 0) c.place_of.ensures.0)
    (ap (λ (l : List ℕ). same l x) (sym c.name_by-name.ensures) ∙ sym c.same_bytes.ensures ∙ c.if-not-same_bytes.true)

pub returns : goal.returns
returns c =
    let x = c.args.x.now in
    found_here (each_name sheets) (places_of (each_name sheets)) names_stand names-alone x
    (c.placed_at-number.ensures ∙ ap (λ k. get_or (places_of (each_name sheets)) k 0) c.place_of.ensures.0)
    (ap (λ (l : List ℕ). same l x) (sym c.name_by-name.ensures) ∙ sym c.same_bytes.ensures ∙ c.if-not-same_bytes.false)
