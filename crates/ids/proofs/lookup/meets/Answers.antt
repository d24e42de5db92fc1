-- An id of no bytes is none, and no record has it; of any other the search finds a record just where there is one, and that is noted to pass where one
-- with its id does.
use mathlib.Core.Bool.{Bool, not}
use mathlib.Core.List.{[]}
use mathlib.Core.Path.{sym, ap, ◌∙◌}
use Prim.Native.Nat.{◌<◌}
use lib.ListN.{length}
use borrow.Author.Tests.{ltb-true}
use Rattle.text.specs.Text.{text_of}
use Rattle.text.proofs.Laws.{same_true}
use Rattle.sorting.specs.declared.Lookup.{Lookup}
use Rattle.sorting.proofs.Neighbours.{some-given}
use Rattle.walk.specs.Walk.{items_of}
use Rattle.ids.specs.inner.Ids.{record_bytes, any_meets}
use Rattle.ids.proofs.Meets.{meets_picked}
use Rattle.ids.proofs.Indexes.{none_met, found-no, found-room, found-yes, found_passes}
use Rattle.ids.proofs.lookup.meets.Goals as goal

-- some record is met in bytes just where one is among what is picked
pub returns-then-text_is : goal.returns-then-text_is
returns-then-text_is c =
    let a = c.args in
    none_met a.sheet a.tested (text_of a.id.now) (record_bytes a.p.now) (length (items_of a.p.now)) (same_true _ [] (sym c.text_is.ensures ∙ c.if-text_is.true))
    ∙ meets_picked a.sheet c.requires.ids a.tested (text_of a.id.now) a.p.now

pub search-found-requires : goal.search-found-requires
search-found-requires c = (c.requires.noted, ltb-true 0 _ (some-given _ (sym c.text_is.ensures ∙ c.if-text_is.false)))

pub returns-then-found-eq0 : goal.returns-then-found-eq0
returns-then-found-eq0 c =
    let a = c.args in
    found-no c.requires.noted _ _ (ap (λ (f : Lookup). f.met) c.search-found.ensures) a.tested c.if-found-eq0.true
    ∙ meets_picked a.sheet c.requires.ids a.tested (text_of a.id.now) a.p.now

pub is_passed-requires : goal.is_passed-requires
is_passed-requires c =
    let given : 0 < length (text_of c.args.id.now) = ltb-true 0 _ (some-given _ (sym c.text_is.ensures ∙ c.if-text_is.false)) in
    found-room c.requires.noted _ _ (ap (λ (f : Lookup). f.met) c.search-found.ensures) given c.if-found-eq0.false

-- and that is tested or not
pub returns-else-not-tested : goal.returns-else-not-tested
returns-else-not-tested c =
    let a = c.args in
    let given : 0 < length (text_of c.args.id.now) = ltb-true 0 _ (some-given _ (sym c.text_is.ensures ∙ c.if-text_is.false)) in
    c.is_passed.ensures ∙ found_passes c.requires.noted _ _ (ap (λ (f : Lookup). f.met) c.search-found.ensures) given c.if-found-eq0.false
    ∙ ap (λ (t : Bool). any_meets a.sheet t (text_of a.id.now) (record_bytes a.p.now) (length (items_of a.p.now))) (sym c.if-not-tested.false)
    ∙ meets_picked a.sheet c.requires.ids a.tested (text_of a.id.now) a.p.now

pub returns-then-not-tested : goal.returns-then-not-tested
returns-then-not-tested c =
    let a = c.args in
    let given : 0 < length (text_of c.args.id.now) = ltb-true 0 _ (some-given _ (sym c.text_is.ensures ∙ c.if-text_is.false)) in
    ap not c.if-not-tested.true ∙ found-yes c.requires.noted _ _ (ap (λ (f : Lookup). f.met) c.search-found.ensures) given c.if-found-eq0.false
    ∙ ap (λ (t : Bool). any_meets a.sheet t (text_of a.id.now) (record_bytes a.p.now) (length (items_of a.p.now))) (sym c.if-not-tested.true)
    ∙ meets_picked a.sheet c.requires.ids a.tested (text_of a.id.now) a.p.now
