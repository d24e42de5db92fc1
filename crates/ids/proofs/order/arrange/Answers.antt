-- The keys tell of the order, the sorted list is an order of all records, and the neighbours in it tell the first repeat.
use borrow.Author.Rules.{rules}
use mathlib.Core.Path.{◌≡◌, sym, ap, subst, ◌∙◌}
use Prim.Native.Nat.{ℕ}
use native.Mathlib.Omega.{arith}
use lib.ListN.{length}
use Rattle.sorting.specs.Ids.{id_at}
use Rattle.sorting.specs.Repeats.{first_repeat}
use Rattle.sorting.specs.inner.Keys.{SameFront, Keyed, Telling}
use Rattle.sorting.proofs.Keying.{keyed_telling}
use Rattle.ids.proofs.Indexes.{sorts}
use Rattle.ids.proofs.order.arrange.Goals as goal

pub fill_keys-requires : goal.fill_keys-requires
fill_keys-requires c =
    let a = c.args in
    subst (λ (k : ℕ). SameFront (id_at a.p.now a.notes.now) k a.front) (sym c.requires.0) c.requires.3

-- once the keys are there
pub sort-requires : goal.sort-requires
sort-requires c =
    let a = c.args in let x = c.requires in
    let long : length c.fill_keys.new.keys ≡ length a.keys.now = search rules in
    (x.1, omega (arith, x.2), subst (λ (n : ℕ). Telling (id_at a.p.now a.notes.now) n c.fill_keys.new.keys) (sym long) (keyed_telling c.fill_keys.ensures))

-- and the order
pub first_repeat-requires : goal.first_repeat-requires
first_repeat-requires c =
    let a = c.args in
    let long : length c.fill_keys.new.keys ≡ length a.keys.now = search rules in (
      (sorts (id_at a.p.now a.notes.now) (length a.order.now) c.sort.ensures).1,
      subst (λ (n : ℕ). Telling (id_at a.p.now a.notes.now) n c.fill_keys.new.keys) (sym long) (keyed_telling c.fill_keys.ensures),
    )

pub returns : goal.returns
returns c =
    let a = c.args in let order_is = sorts (id_at a.p.now a.notes.now) (length a.order.now) c.sort.ensures in
    let long : length c.fill_keys.new.keys ≡ length a.keys.now = search rules in
    record {
      long = order_is.0;
      ordered = order_is.1;
      keyed = subst (λ (n : ℕ). Keyed (id_at a.p.now a.notes.now) n a.front c.fill_keys.new.keys) c.requires.0 c.fill_keys.ensures;
      all = long ∙ c.requires.0;
      first = c.first_repeat.ensures ∙ ap (first_repeat (id_at a.p.now a.notes.now)) order_is.0;
    }
