-- The search finds a record just where one has the id, and the record starts where it is noted to.
use mathlib.Core.List.{List, [], ◌∷◌}
use mathlib.Core.Path.{◌≡◌, refl, sym, ap, ◌∙◌}
use borrow.Author.Tests.{eqb-true, eqb-false}
use Prim.Native.Nat.{ℕ, ◌<◌}
use native.Mathlib.Omega.{arith}
use lib.ListN.{length}
use Rattle.sorting.specs.declared.Lookup.{Lookup}
use Rattle.ids.proofs.Indexes.{found_nowhere, found-room, found-start, none-nowhere}
use Rattle.ids.proofs.search.find_record.Goals as goal

no_bytes : (l : List ℕ) → length l ≡ 0 → l ≡ []
no_bytes [] e = refl
no_bytes (b ∷ l) e = absurd (omega arith)

pub returns-then-is_empty : goal.returns-then-is_empty
returns-then-is_empty c = let a = c.args in none-nowhere a.sheet a.p.now (no_bytes a.id.now (eqb-true _ 0 (sym c.is_empty.ensures ∙ c.if-is_empty.true)))

pub search-found-requires : goal.search-found-requires
search-found-requires c = (c.requires.noted, omega (arith, eqb-false _ 0 (sym c.is_empty.ensures ∙ c.if-is_empty.false)))

pub returns-then-found-eq0 : goal.returns-then-found-eq0
returns-then-found-eq0 c = found_nowhere c.requires.noted _ _ (ap (λ (f : Lookup). f.met) c.search-found.ensures) c.if-found-eq0.true

pub start_at-requires : goal.start_at-requires
start_at-requires c =
    let given : 0 < length c.args.id.now = omega (arith, eqb-false _ 0 (sym c.is_empty.ensures ∙ c.if-is_empty.false)) in
    found-room c.requires.noted _ _ (ap (λ (f : Lookup). f.met) c.search-found.ensures) given c.if-found-eq0.false

pub returns : goal.returns
returns c =
    let given : 0 < length c.args.id.now = omega (arith, eqb-false _ 0 (sym c.is_empty.ensures ∙ c.if-is_empty.false)) in
    found-start c.requires.noted _ _ (ap (λ (f : Lookup). f.met) c.search-found.ensures) given c.if-found-eq0.false c.start_at.ensures
