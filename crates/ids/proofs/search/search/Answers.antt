-- What is left of the order decides the whole, and each turn takes off half of it and one read. Where the keys differ they tell where to go on. The inner
-- loop's invariant: no member of the id's name is met yet, nor before the place where it begins; the first one that is decides where to go on.
use mathlib.Core.List.{List}
use mathlib.Core.Bool.{true}
use mathlib.Core.Path.{◌≡◌, refl, sym, ap, subst, ◌∙◌}
use Prim.Native.Nat.{ℕ, ◌+◌, ◌-◌}
use native.Mathlib.Omega.{arith}
use lib.ListN.{length, drop}
use Rattle.text.specs.Text.{text_of, same, meant}
use Rattle.text.specs.Ordering.{order_of}
use Rattle.text.specs.inner.Key.{key_of}
use Rattle.sorting.specs.inner.Halves.{middle}
use Rattle.sorting.proofs.Halving.{Halving, halving_start, halving_end, reads-left, halving_less, halving_greater, halving_met}
use Rattle.walk.specs.Walk.{items_of, part}
use Rattle.walk.specs.Part.{inside}
use Rattle.walk.specs.declared.Member.{Member}
use Rattle.walk.specs.inner.Along.{MemberPassed}
use Rattle.ids.specs.inner.Ids.{id_text, id_name}
use Rattle.ids.specs.inner.Notes.{skip_in}
use Rattle.ids.specs.inner.Known.{probe}
use Rattle.ids.proofs.Reading.{Reading, reading-start, reading-end, reading-more, reading-text}
use Rattle.ids.proofs.Searches.{none_less, probe_less, probe_greater, probe-same}
use Rattle.ids.proofs.search.search.Goals as goal
use Rattle.std.specs.declared.cmp.Ordering.{Ordering}
use Rattle.std.specs.Prelude.{Option, Some}

-- the key that is wanted
wanted_is : (notes id : List ℕ) {wanted skip : ℕ} → wanted ≡ key_of (drop skip id) → skip ≡ skip_in notes → wanted ≡ key_of (drop (skip_in notes) id)
wanted_is notes id e f = e ∙ ap (λ (x : ℕ). key_of (drop x id)) f

pub search-init : goal.search-init
search-init c =
    let a = c.args in let w = c.requires.0 in let f = w.few in (
      refl,
      subst (Halving (probe a.sheet a.p.now a.notes.now (meant a.raw a.id.now)) (length (items_of a.p.now)) 14 0) (sym w.count ∙ sym c.count-hi.ensures)
          (halving_start (probe a.sheet a.p.now a.notes.now (meant a.raw a.id.now)) (length (items_of a.p.now)) (omega arith)),
    )

-- the place in the middle is one of the order
pub overflow_sub-middle : goal.overflow_sub-middle
overflow_sub-middle c = omega arith

pub overflow_add-middle : goal.overflow_add-middle
overflow_add-middle c = omega (arith, c.search-test.true, c.search.invariant.1.inside, c.requires.0.few)

pub key_at-key-requires : goal.key_at-key-requires
key_at-key-requires c = omega (arith, c.search-test.true, c.search.invariant.1.inside, c.requires.0.few)

pub overflow_sub-left : goal.overflow_sub-left
overflow_sub-left c =
    let a = c.args in let s = c.search in
    omega
    (arith, reads-left (probe a.sheet a.p.now a.notes.now (meant a.raw a.id.now)) (length (items_of a.p.now)) s.left s.lo s.hi s.invariant.1 c.search-test.true)

pub overflow_add-lo : goal.overflow_add-lo
overflow_add-lo c = omega (arith, c.search-test.true, c.search.invariant.1.inside, c.requires.0.few)

pub search-smaller-then-key-wanted : goal.search-smaller-then-key-wanted
search-smaller-then-key-wanted c = omega (arith, c.search-test.true)

-- the keys differ
pub search-preserved-then-key-wanted : goal.search-preserved-then-key-wanted
search-preserved-then-key-wanted c =
    let a = c.args in let s = c.search in let id = meant a.raw a.id.now in let half = middle s.lo s.hi in (
      s.invariant.0,
      halving_less (probe a.sheet a.p.now a.notes.now id) (length (items_of a.p.now)) s.left s.lo s.hi s.invariant.1 c.search-test.true
          (probe_less a.sheet a.p.now a.notes.now id half c.key_at-key.ensures (wanted_is a.notes.now id c.key_of-wanted.ensures c.skip.ensures) c.if-key-wanted.true),
    )

pub search-smaller-then-wanted-key : goal.search-smaller-then-wanted-key
search-smaller-then-wanted-key c = omega (arith, c.search-test.true)

pub search-preserved-then-wanted-key : goal.search-preserved-then-wanted-key
search-preserved-then-wanted-key c =
    let a = c.args in let s = c.search in let id = meant a.raw a.id.now in let half = middle s.lo s.hi in (
      s.invariant.0,
      halving_greater (probe a.sheet a.p.now a.notes.now id) (length (items_of a.p.now)) s.left s.lo s.hi s.invariant.1 c.search-test.true
          (probe_greater a.sheet a.p.now a.notes.now id half c.key_at-key.ensures (wanted_is a.notes.now id c.key_of-wanted.ensures c.skip.ensures) c.if-wanted-key.true),
    )

pub record_from-record-requires : goal.record_from-record-requires
record_from-record-requires c = omega (arith, c.search-test.true, c.search.invariant.1.inside, c.requires.0.few)

pub member_at-at-requires : goal.member_at-at-requires
member_at-at-requires c = omega (arith, c.search-test.true, c.search.invariant.1.inside, c.requires.0.few)

pub loop-m-init : goal.loop-m-init
loop-m-init c =
    let s = c.search in (
      s.invariant.0,
      refl,
      refl,
      reading-start (c.requires.0.entries (middle s.lo s.hi) (omega (arith, c.search-test.true, s.invariant.1.inside))) c.record_from-record.ensures c.member_at-at.ensures,
    )

-- or are the same, and the record has no id
pub overflow_add-lo-in-search : goal.overflow_add-lo-in-search
overflow_add-lo-in-search c = omega (arith, c.search-test.true, c.search.invariant.1.inside, c.requires.0.few)

pub search-smaller : goal.search-smaller
search-smaller c = omega (arith, c.loop-m.invariant.2, c.search-test.true)

pub search-preserved : goal.search-preserved
search-preserved c =
    let a = c.args in let s = c.search in let w = c.loop-m.invariant in let id = meant a.raw a.id.now in let half = middle s.lo s.hi in
    let stands = probe a.sheet a.p.now a.notes.now id in (
      w.0,
      subst (Halving stands (length (items_of a.p.now)) (s.left - 1) (half + 1)) (sym w.2)
          (halving_less stands (length (items_of a.p.now)) s.left s.lo s.hi s.invariant.1 c.search-test.true
          (probe-same a.sheet a.p.now a.notes.now id half c.key_at-key.ensures (wanted_is a.notes.now id c.key_of-wanted.ensures c.skip.ensures) c.if-key-wanted.false c.if-wanted-key.false
          (none_less _ (reading-end c.pass_member.ensures w.3 c.in_default.is) c.requires.1))),
    )

-- the texts are compared
told : (wanted : List ℕ) {sheet at : ℕ} {q r : List ℕ} {step : Option Member} {compared o : Ordering} {name value text : List ℕ} → MemberPassed r at step → (m : Member)
    → step ≡ Some m → name ≡ part r m.name m.name_end → same (text_of name) (id_name sheet) ≡ true → Reading sheet q r at
    → value ≡ part r m.value m.value_end → text ≡ inside value → compared ≡ order_of (text_of text) wanted → compared ≡ o → order_of (id_text sheet q) wanted ≡ o
told wanted {name = name} passed m found named met w valued inner e is =
    sym (ap (λ (y : List ℕ). order_of y wanted) (ap text_of (inner ∙ ap inside valued) ∙ reading-text passed m found name named met w)) ∙ sym e ∙ is

pub overflow_add-lo-in-Less : goal.overflow_add-lo-in-Less
overflow_add-lo-in-Less c = omega (arith, c.search-test.true, c.search.invariant.1.inside, c.requires.0.few)

pub search-smaller-in-Less : goal.search-smaller-in-Less
search-smaller-in-Less c = omega (arith, c.loop-m.invariant.2, c.search-test.true)

pub search-preserved-in-Less : goal.search-preserved-in-Less
search-preserved-in-Less c =
    let a = c.args in let s = c.search in let w = c.loop-m.invariant in let id = meant a.raw a.id.now in let half = middle s.lo s.hi in
    let stands = probe a.sheet a.p.now a.notes.now id in (
      w.0,
      subst (Halving stands (length (items_of a.p.now)) (s.left - 1) (half + 1)) (sym w.2)
          (halving_less stands (length (items_of a.p.now)) s.left s.lo s.hi s.invariant.1 c.search-test.true
          (probe-same a.sheet a.p.now a.notes.now id half c.key_at-key.ensures (wanted_is a.notes.now id c.key_of-wanted.ensures c.skip.ensures) c.if-key-wanted.false c.if-wanted-key.false
          (told id c.pass_member.ensures c.in-Some.m c.in-Some.is c.cut-name.ensures (sym c.names_id.ensures ∙ c.if-names_id.true) w.3 c.cut-value.ensures c.unquoted.ensures c.order_of.ensures c.in-Less.is))),
    )

pub search-smaller-in-Greater : goal.search-smaller-in-Greater
search-smaller-in-Greater c = omega (arith, c.loop-m.invariant.1, c.search-test.true)

pub search-preserved-in-Greater : goal.search-preserved-in-Greater
search-preserved-in-Greater c =
    let a = c.args in let s = c.search in let w = c.loop-m.invariant in let id = meant a.raw a.id.now in let half = middle s.lo s.hi in
    let stands = probe a.sheet a.p.now a.notes.now id in (
      w.0,
      subst (λ (x : ℕ). Halving stands (length (items_of a.p.now)) (s.left - 1) x half) (sym w.1)
          (halving_greater stands (length (items_of a.p.now)) s.left s.lo s.hi s.invariant.1 c.search-test.true
          (probe-same a.sheet a.p.now a.notes.now id half c.key_at-key.ensures (wanted_is a.notes.now id c.key_of-wanted.ensures c.skip.ensures) c.if-key-wanted.false c.if-wanted-key.false
          (told id c.pass_member.ensures c.in-Some.m c.in-Some.is c.cut-name.ensures (sym c.names_id.ensures ∙ c.if-names_id.true) w.3 c.cut-value.ensures c.unquoted.ensures c.order_of.ensures c.in-Greater.is))),
    )

pub overflow_add-met : goal.overflow_add-met
overflow_add-met c = omega (arith, c.search-test.true, c.search.invariant.1.inside, c.requires.0.few)

pub loop-m-smaller : goal.loop-m-smaller
loop-m-smaller c = let m = c.pass_member.ensures.placed _ c.in-Some.is in omega arith

pub loop-m-preserved : goal.loop-m-preserved
loop-m-preserved c =
    let v = c.loop-m.invariant in
    (v.0, v.1, v.2, reading-more c.pass_member.ensures _ c.in-Some.is _ c.cut-name.ensures (sym c.names_id.ensures ∙ c.if-names_id.false) v.3)

pub returns-after-search : goal.returns-after-search
returns-after-search c =
    let s = c.search in let a = c.args in
    halving_end (probe a.sheet a.p.now a.notes.now (meant a.raw a.id.now)) (length (items_of a.p.now)) s.left s.lo s.hi s.invariant.1 s.met s.invariant.0 c.search-test.false

-- met
pub returns-in-Equal : goal.returns-in-Equal
returns-in-Equal c =
    let a = c.args in let s = c.search in let w = c.loop-m.invariant in let id = meant a.raw a.id.now in let half = middle s.lo s.hi in
    let stands = probe a.sheet a.p.now a.notes.now id in
    halving_met stands (length (items_of a.p.now)) s.left s.lo s.hi s.invariant.1 c.search-test.true (half + 1) refl
    (probe-same a.sheet a.p.now a.notes.now id half c.key_at-key.ensures (wanted_is a.notes.now id c.key_of-wanted.ensures c.skip.ensures) c.if-key-wanted.false c.if-wanted-key.false
    (told id c.pass_member.ensures c.in-Some.m c.in-Some.is c.cut-name.ensures (sym c.names_id.ensures ∙ c.if-names_id.true) w.3 c.cut-value.ensures c.unquoted.ensures c.order_of.ensures c.in-Equal.is))
