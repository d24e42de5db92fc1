-- The records in a file's bytes are those of its tree: a member that the walk finds in the bytes of a value is the one that its tree has under the name, and so
-- along any path of names; and an array's tree has for its items the trees of its parts.
use mathlib.Core.List.{List, [], ◌∷◌, ◌++◌, map, foldl, append-nil}
use mathlib.Core.Path.{◌≡◌, refl, sym, ap, subst, ◌∙◌}
use Prim.Native.Nat.{ℕ, ◌+◌}
use native.Mathlib.Omega.{arith}
use lib.Dec.{eqb}
use borrow.Author.Tests.{eqb-true, eqb-false}
use Rattle.notation.specs.Ascii.{bytes}
use Rattle.limits.specs.Ceilings.{depth}
use Rattle.notation.proofs.Booleans.{by_test}
use Rattle.lexeme.specs.Character.{byte}
use Rattle.json_text.specs.Tree as tree
use Rattle.json_text.specs.Tree.{Json, Members}
use Rattle.json_text.specs.Spelling.{Plain, Nested}
use Rattle.json_text.proofs.Spellings.{value-spells}
use Rattle.walk.specs.declared.Member.{Member}
use Rattle.walk.specs.declared.ValueKind.TheVariants as kind
use Rattle.walk.specs.Walk.{part}
use Rattle.walk.specs.Part.{Whole, part_tree, kind_of}
use Rattle.walk.proofs.Wholes.{whole-tree}
use Rattle.walk.proofs.Trees.{array_parts}
use Rattle.walk.proofs.Memberless.{first-object, no-members}
use Rattle.walk.proofs.Files.{value_start, Passed}
use Rattle.schema.specs.Shape.{Shape}
use Rattle.schema.specs.Records.{Way, way_to}
use Rattle.schema.specs.Pick.{Picked}
use Rattle.schema.specs.Tables.{sheet_shape}
use Rattle.slots.specs.declared.Found.{Found}
use Rattle.slots.specs.declared.Found.TheVariants.{Missing, Once, Twice}
use Rattle.slots.specs.Found.{noted, found_in}
use Rattle.slots.specs.inner.Found.{tree_in}
use Rattle.slots.proofs.Finds.{find-found}
use Rattle.document.proofs.Along.{ends-same}
use Rattle.document.specs.Document.{once_only}
use Rattle.document.specs.Spans.{moved, members_along, top_span, records_span, spanning}
use Rattle.document.specs.Trees.{member, value_along, listed, items_in, record_trees}
use Rattle.document.proofs.Rows.{Stands, stands-found}
use Rattle.document.proofs.Records.{top-is, top-stands, item_trees, Records}
use Rattle.document.proofs.Rests.{none-along}
use Rattle.std.specs.Prelude.{Some, None, Option}

-- an object stands between its brackets
abbrev Braces : List ℕ → Type 0
Braces p = (between : List ℕ) × (p ≡ bytes "{" ++ between ++ bytes "}")

nested_braces : {S : Json → List ℕ → Type 0} {x : Json} {s : List ℕ} → Nested S x s → kind_of x ≡ kind.Object → Braces s
nested_braces (Nested.plain Plain.null) e = absurd (let z : ◌≡◌ {A = ℕ} 0 1 = cc in omega arith)
nested_braces (Nested.plain Plain.yes) e = absurd (let z : ◌≡◌ {A = ℕ} 0 1 = cc in omega arith)
nested_braces (Nested.plain Plain.no) e = absurd (let z : ◌≡◌ {A = ℕ} 0 1 = cc in omega arith)
nested_braces (Nested.plain (Plain.number k)) e = absurd (let z : ◌≡◌ {A = ℕ} 0 1 = cc in omega arith)
nested_braces (Nested.plain (Plain.string k)) e = absurd (let z : ◌≡◌ {A = ℕ} 0 1 = cc in omega arith)
nested_braces (Nested.array k) e = absurd (let z : ◌≡◌ {A = ℕ} 0 1 = cc in omega arith)
nested_braces (Nested.object {s = u} k) e = (u, refl)

pub object_braces : {p : List ℕ} {ms : Members} → Whole p (tree.object ms) → Braces p
object_braces {p} {ms} w =
    let (v, e, k) = value-spells depth (tree.object ms) p [] w.reads in
    subst Braces (sym (e ∙ append-nil v)) (nested_braces k refl)

-- a value that has no members found has none in its tree
other-member : (p name : List ℕ) (x : Json) → Whole p x → (byte p 0 ≡ 0x7b → ⊥) → member name x ≡ once_only (tree_in p (found_in p name))
unfolding found_in
other-member p name x w n = bare x w ∙ sym (ap (λ (ms : List Member). once_only (tree_in p (foldl (noted p name) Missing ms))) (no-members w n))
  where
    bare : (y : Json) → Whole p y → member name y ≡ None
    bare (tree.object ms) v = absurd (n (ap (λ (q : List ℕ). byte q 0) (object_braces v).1))
    bare (tree.array is) v = refl
    bare (tree.string s) v = refl
    bare (tree.number s) v = refl
    bare (tree.boolean b) v = refl
    bare tree.null v = refl

member-found : (p name : List ℕ) (x : Json) → Whole p x → member name x ≡ once_only (tree_in p (found_in p name))
member-found p name x w =
    by_test (eqb (byte p 0) 0x7b)
    (λ t. let (ms, e) = first-object w (eqb-true (byte p 0) 0x7b t) in ap (member name) e ∙ ap once_only (find-found p name (subst (Whole p) e w)))
    (λ t. other-member p name x w (eqb-false (byte p 0) 0x7b t))

-- a span that is one
none_is : {A : Type 0} {a b : ℕ} → None ≡ Some (spanning a b) → A
none_is e = let z : ◌≡◌ {A = ℕ} 0 1 = cc in absurd (omega arith)

-- the value along names of the tree x stands there
abbrev Along : List ℕ → List (List ℕ) → Json → ℕ → ℕ → Type 0
Along s names x from upto = (z : Json) × (value_along names x ≡ Some z) × Stands s from upto z

pub along-tree : (s : List ℕ) (names : List (List ℕ)) (from upto : ℕ) (x : Json) → Stands s from upto x → (a e : ℕ) → members_along s names (Some (spanning from upto)) ≡ Some (spanning a e)
    → Along s names x a e
unfolding members_along value_along
along-tree s [] from upto x w a e h =
    let (i, j) = ends-same h in (x, refl, subst (λ (n : ℕ). Stands s n e x) i (subst (λ (n : ℕ). Stands s from n x) j w))
along-tree s (name ∷ names) from upto x w a e h = go (along-tree s names) (found_in (part s from upto) name) refl h
  where
    p : List ℕ
    p = part s from upto

    go : ((b c : ℕ) (y : Json) → Stands s b c y → (a e : ℕ) → members_along s names (Some (spanning b c)) ≡ Some (spanning a e) → Along s names y a e)
        → (o : Found) → found_in p name ≡ o → members_along s names (moved from o) ≡ Some (spanning a e) → Along s (name ∷ names) x a e
    go ih Missing f k = none_is (sym (none-along s names) ∙ k)
    go ih Twice f k = none_is (sym (none-along s names) ∙ k)
    go ih (Once c d) f k =
        let y = part_tree (part p c d) in
        let m : member name x ≡ Some y = member-found p name x w.whole ∙ ap (λ (o : Found). once_only (tree_in p o)) f in
        let (z, g, v) = ih (from + c) (from + d) y (stands-found s name from upto w c d f) a e k in
        (z, rw (value_along, m) g, v)

listed_of : (l : List Json) → listed (tree.as_items l) ≡ l
unfolding listed tree.as_items
listed_of [] = refl
listed_of (x ∷ l) = ap (λ (z : List Json). x ∷ z) (listed_of l)

-- of a file that stage A passes, in which an array stands where its records do
pub records-trees : (file : ℕ) {s : List ℕ} {σ : Shape} {l : List Picked} (t : Passed s) (r : Records s (records_span (sheet_shape file) s) σ l)
    → record_trees (sheet_shape file) t.tree ≡ item_trees (part s r.start r.end)
unfolding record_trees records_span
records-trees file {s} t r = go (way_to file) r.is
  where
    go : (o : Option Way) → elim o [ None ↦ None | Some w ↦ members_along s (map (λ k. k.name) w.keys) (top_span s) ] ≡ Some (spanning r.start r.end)
        → elim o [ None ↦ [] | Some w ↦ items_in (value_along (map (λ k. k.name) w.keys) t.tree) ] ≡ item_trees (part s r.start r.end)
    go None i = none_is i
    go (Some way) i =
        let p = part s r.start r.end in let names = map (λ k. k.name) way.keys in
        let (z, e, w) = along-tree s names (value_start s) t.end t.tree (top-stands s t) r.start r.end (ap (members_along s names) (sym (top-is s t)) ∙ i) in
        let same : z ≡ tree.array r.trees = sym (whole-tree w.whole) ∙ whole-tree r.there.whole in
        ap items_in (e ∙ ap Some same) ∙ ap listed (array_parts p r.there.whole) ∙ listed_of (item_trees p)
