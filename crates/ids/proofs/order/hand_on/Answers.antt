-- By whether the one record is marked and the other is not, and both have the same id.
use mathlib.Core.Bool.{false}
use mathlib.Core.Path.{◌≡◌, sym, ap, ◌∙◌}
use Prim.Native.Nat.{ℕ, ◌+◌, ◌*◌, ◌%◌}
use native.Mathlib.Omega.{arith}
use lib.Dec.{eqb}
use lib.ListN.{set}
use borrow.Author.Tests.{eq-eqb}
use Rattle.limits.specs.Ceilings.{records}
use Rattle.notation.proofs.Booleans.{true-false}
use Rattle.sorting.specs.Ids.{id_at}
use Rattle.ids.proofs.Spreads.{handed-yes, handed-apart, handed-marked, handed-unmarked}
use Rattle.ids.proofs.order.hand_on.Goals.{else-is_passed-via-then-is_passed+then-not-is_passed+else-is_same, else-is_passed-via-then-is_passed+else-not-is_passed, else-is_passed-via-else-is_passed}
use Rattle.ids.proofs.order.hand_on.Goals as goal

unmarked : (x : ℕ) → eqb (x % 2) 1 ≡ false → x % 2 ≡ 0
unmarked x e = let n : x % 2 ≡ 1 → ⊥ = λ z. true-false (eq-eqb (x % 2) 1 z) e in omega (arith, n)

pub marked-requires : goal.marked-requires
marked-requires c = unmarked _ (sym c.is_passed-then-is_passed.ensures ∙ c.if-not-is_passed.true)

pub returns-then-is_same : goal.returns-then-is_same
returns-then-is_same c =
    let a = c.args in
    ap (set a.notes.now (2 * records + a.to)) c.marked.ensures
    ∙ handed-yes (id_at a.p.now a.notes.now) a.notes.now a.from a.to (sym c.is_passed.ensures ∙ c.if-is_passed.true)
    (sym c.is_passed-then-is_passed.ensures ∙ c.if-not-is_passed.true) (sym c.is_same.ensures ∙ c.if-is_same.true)

pub returns-else-is_passed : goal.returns-else-is_passed
returns-else-is_passed c =
    let a = c.args in let id = id_at a.p.now a.notes.now in
    elim c.else-is_passed.branch [
      | else-is_passed-via-then-is_passed+then-not-is_passed+else-is_same w ↦
          handed-apart id a.notes.now a.from a.to (sym c.is_passed.ensures ∙ w.if-is_passed.true)
          (sym w.is_passed-then-is_passed.ensures ∙ w.if-not-is_passed.true) (sym w.is_same.ensures ∙ w.if-is_same.false)
      | else-is_passed-via-then-is_passed+else-not-is_passed w ↦
          handed-marked id a.notes.now a.from a.to (sym c.is_passed.ensures ∙ w.if-is_passed.true) (sym w.is_passed-then-is_passed.ensures ∙ w.if-not-is_passed.false)
      | else-is_passed-via-else-is_passed w ↦ handed-unmarked id a.notes.now a.from a.to (sym c.is_passed.ensures ∙ w.if-is_passed.false)
    ]
