-- A record is entered by the place of its id's text; without one it is entered where nothing is left.
use mathlib.Core.List.{List}
use mathlib.Core.Path.{◌≡◌, sym, ap, subst, ◌∙◌}
use Prim.Native.Nat.{ℕ, ◌+◌}
use native.Mathlib.Omega.{arith}
use lib.ListN.{length}
use Rattle.walk.specs.Part.{Whole, part_tree}
use Rattle.walk.proofs.Cuts.{part_length}
use Rattle.walk.proofs.Parts.{item_of}
use Rattle.document.proofs.Sizes.{part-short}
use Rattle.ids.specs.inner.Ids.{id_of, passing, NoIdBefore, TextPlace, IdTold}
use Rattle.ids.specs.inner.Notes.{Noted}
use Rattle.ids.proofs.Entering.{enter_none, enter_some}
use Rattle.ids.proofs.note.note_record.Goals as goal

pub passes-passed-requires : goal.passes-passed-requires
passes-passed-requires c = subst (λ (q : List ℕ). Whole q (part_tree q)) (sym c.item_bytes-q.ensures) c.requires.0.whole

pub id_text-id-requires : goal.id_text-id-requires
id_text-id-requires c =
    let a = c.args in
    omega (arith, c.requires.0.short, ap length c.item_bytes-q.ensures, part-short a.p.now a.m.value a.m.value_end)

pub enter-requires : goal.enter-requires
enter-requires c = let x = c.requires.0 in (x.room, x.short, x.short, omega arith)

pub returns-in-None : goal.returns-in-None
returns-in-None c =
    let a = c.args in let x = c.requires.0 in let o = x.single.object in let q = item_of a.p.now a.m in
    let passed : c.passes-passed.result ≡ passing a.sheet q = c.passes-passed.ensures ∙ ap (passing a.sheet) c.item_bytes-q.ensures in
    -- where the id of the record is
    let told : NoIdBefore a.sheet q c.id_text-id.result.member × TextPlace q (id_of a.sheet q) c.id_text-id.result.text =
    (subst (λ (q : List ℕ). IdTold a.sheet q c.id_text-id.result) c.item_bytes-q.ensures c.id_text-id.ensures).told o.0 (subst (Whole q) o.1 x.whole) x.single.once in
    subst (λ (x : List ℕ). Noted a.sheet a.p.now (a.n + 1) x) (sym c.enter.ensures) (enter_none c.requires.1 c.requires.0 passed (told.1.none c.in-None.is))

pub overflow_add-m : goal.overflow_add-m
overflow_add-m c =
    let a = c.args in let x = c.requires.0 in let e = c.id_text-id.ensures in
    omega (arith, e.inside _ c.in-Some.is, ap length c.item_bytes-q.ensures, part_length a.p.now a.m.value a.m.value_end, x.starts, x.ends, x.short)

pub enter-requires-in-Some : goal.enter-requires-in-Some
enter-requires-in-Some c =
    let a = c.args in let x = c.requires.0 in let e = c.id_text-id.ensures in (
      x.room,
      omega (arith, e.inside _ c.in-Some.is, ap length c.item_bytes-q.ensures, part_length a.p.now a.m.value a.m.value_end, x.starts, x.ends, x.short),
      omega (arith, x.starts, x.ends, x.short),
      e.least,
    )

pub returns-in-Some : goal.returns-in-Some
returns-in-Some c =
    let a = c.args in let x = c.requires.0 in let o = x.single.object in let q = item_of a.p.now a.m in
    let passed : c.passes-passed.result ≡ passing a.sheet q = c.passes-passed.ensures ∙ ap (passing a.sheet) c.item_bytes-q.ensures in
    let told : NoIdBefore a.sheet q c.id_text-id.result.member × TextPlace q (id_of a.sheet q) c.id_text-id.result.text =
    (subst (λ (q : List ℕ). IdTold a.sheet q c.id_text-id.result) c.item_bytes-q.ensures c.id_text-id.ensures).told o.0 (subst (Whole q) o.1 x.whole) x.single.once in
    let there = told.1.some c.in-Some.text c.in-Some.is in
    subst (λ (x : List ℕ). Noted a.sheet a.p.now (a.n + 1) x) (sym c.enter-in-Some.ensures)
    (enter_some c.requires.1 c.requires.0 passed c.in-Some.text c.id_text-id.result.member there.2 there.3 told.0)
