-- The rest of a file from its records on, name by name: where the span of a value is one, the rest that the code has come to begins with that value.
use mathlib.Core.Bool.{true, false}
use mathlib.Core.List.{List, [], ◌∷◌, map}
use mathlib.Core.Path.{◌≡◌, refl, sym, ap, subst, ◌∙◌}
use Prim.Native.Nat.{ℕ, ◌+◌, ◌-◌, ◌≤◌}
use native.Mathlib.Omega.{arith}
use lib.ListN.{length, take, drop, length-take, length-drop}
use lib.Seq.{drop-drop}
use Rattle.limits.specs.Ceilings.{depth}
use Rattle.notation.proofs.Booleans.{true-false}
use Rattle.json_text.specs.Tree.{Json}
use Rattle.json_text.specs.Text.{syntax_of}
use Rattle.json_text.proofs.Values.{value-empty}
use Rattle.lexeme.specs.Tokens.{blanks}
use Rattle.walk.specs.Walk.{offset_of, part, items_of}
use Rattle.walk.specs.Part.{Whole, part_tree}
use Rattle.walk.specs.inner.Along.{AlongItems}
use Rattle.walk.proofs.Files.{passed}
use Rattle.walk.proofs.Wholes.{whole-some}
use Rattle.walk.proofs.Open.{front_items}
use Rattle.schema.specs.Shape.{Shape}
use Rattle.schema.specs.Records.{Way, way_to, has_records}
use Rattle.schema.specs.Pick.{Picked}
use Rattle.slots.specs.declared.Found.{Found}
use Rattle.slots.specs.declared.Found.TheVariants.{Missing, Once, Twice}
use Rattle.slots.specs.Found.{found_in}
use Rattle.document.specs.declared.Span.{Span}
use Rattle.document.specs.Spans.{moved, member_span, members_along, top_span, records_span, nth, nth_in, record_span, spanning}
use Rattle.document.specs.inner.Spans.{Listed, ValueFrom, RecordsFrom}
use Rattle.walk.proofs.Cuts.{part-rest}
use Rattle.schema.specs.Tables.{sheet_shape}
use Rattle.document.proofs.Along.{along-none, ends-same}
use Rattle.document.proofs.Rows.{Stands, stands-found}
use Rattle.document.proofs.Records.{top-is, top-stands, open_items, Records}
use Rattle.document.specs.inner.Items.{picked_items}
use Rattle.std.specs.Prelude.{Option, Some, None, Ok}

pub record Begins (s : List ℕ) (span : Option Span) (p : List ℕ) : Type 0 where
  pub inside : length p ≤ length s
  pub starts : syntax_of s ≡ Ok tt → (from upto : ℕ) → span ≡ Some (spanning from upto) → (x : Json) × Stands s from upto x × (p ≡ drop from s)

pub begins-top : (s : List ℕ) (at : ℕ) → at ≡ offset_of s (blanks s) → Begins s (top_span s) (part s at (length s))
begins-top s at e =
    record {
      inside = omega (arith, ap length (part-rest s at), length-drop at s);
      starts = λ h from upto i.
          let t = passed s h in
          let k : Some (spanning (offset_of s (blanks s)) t.end) ≡ Some (spanning from upto) = sym (top-is s t) ∙ i in
          let (a, b) = ends-same k in (
            t.tree,
            subst (λ (z : ℕ). Stands s z upto t.tree) a (subst (λ (z : ℕ). Stands s (offset_of s (blanks s)) z t.tree) b (top-stands s t)),
            part-rest s at ∙ ap (λ (z : ℕ). drop z s) (e ∙ a),
          );
    }

-- a member that is found once
moved-is : (at : ℕ) (o : Found) (from upto : ℕ) → moved at o ≡ Some (spanning from upto) → (a : ℕ) × (e : ℕ) × (o ≡ Once a e) × (at + a ≡ from) × (at + e ≡ upto)
moved-is at Missing from upto h = let z : ◌≡◌ {A = ℕ} 0 1 = cc in absurd (omega arith)
moved-is at (Once a e) from upto h = let i = ends-same h in (a, e, refl, i.0, i.1)
moved-is at Twice from upto h = let z : ◌≡◌ {A = ℕ} 0 1 = cc in absurd (omega arith)

pub begins-member : (s name : List ℕ) (span : Option Span) (p r : List ℕ) → Begins s span p → ValueFrom p name r → Begins s (member_span s name span) r
begins-member s name span p r b v =
    record { inside = let i = b.inside in let j = v.inside in omega arith; starts = λ h. go span (b.starts h) }
  where
    go : (span : Option Span) → ((from upto : ℕ) → span ≡ Some (spanning from upto) → (x : Json) × Stands s from upto x × (p ≡ drop from s))
        → (from upto : ℕ) → member_span s name span ≡ Some (spanning from upto) → (x : Json) × Stands s from upto x × (r ≡ drop from s)
    go None k from upto i = let z : ◌≡◌ {A = ℕ} 0 1 = cc in absurd (omega arith)
    go (Some z) k from upto i =
        let at = z.from in let end = z.upto in
        let (x, w, e) = k at end refl in
        let (a, c, f, g, j) = moved-is at (found_in (part s at end) name) from upto i in
        let same : part s at end ≡ take (end - at) p = ap (take (end - at)) (sym e) in
        let y = part_tree (part (part s at end) a c) in (
          y,
          subst (λ (z : ℕ). Stands s z upto y) g (subst (λ (z : ℕ). Stands s (at + a) z y) j (stands-found s name at end w a c f)),
          v.starts (end - at) x (subst (λ (q : List ℕ). Whole q x) same w.whole) a c (ap (λ (q : List ℕ). found_in q name) (sym same) ∙ f)
              ∙ ap (drop a) e ∙ drop-drop a at s ∙ ap (λ (z : ℕ). drop z s) g,
        )

-- a number without records has none to begin
pub no-records : (file : ℕ) (s r : List ℕ) → has_records file ≡ false → r ≡ [] → RecordsFrom file s r
no-records file s r h e =
    record {
      inside = omega (arith, ap length e);
      none = λ i. e;
      starts = λ i from upto j. let k : None ≡ Some (spanning from upto) = sym (along-none file s h) ∙ j in let z : ◌≡◌ {A = ℕ} 0 1 = cc in absurd (omega arith);
    }

pub records_begin : (file : ℕ) (s : List ℕ) (span : Option Span) (r : List ℕ) → has_records file ≡ true → span ≡ records_span (sheet_shape file) s → Begins s span r → RecordsFrom file s r
records_begin file s span r h e b =
    record { inside = b.inside; none = λ i. true-false h i; starts = λ i from upto j. (b.starts i from upto (e ∙ j)).2 }

-- Of no file there is none.
pub none_from : {file : ℕ} {s r : List ℕ} → RecordsFrom file s r → s ≡ [] → r ≡ []
none_from {r = r} f e = go r (omega (arith, f.inside, ap length e))
  where
    go : (l : List ℕ) → length l ≤ 0 → l ≡ []
    go [] h = refl
    go (b ∷ l) h = absurd (omega arith)

-- Of a file whose records are picked, the rest from its records on has them for its items, and a walk goes along them.
module _ {file : ℕ} {s p : List ℕ} {σ : Shape} {l : List Picked} (f : RecordsFrom file s p) (sound : syntax_of s ≡ Ok tt) (r : Records s (records_span (sheet_shape file) s) σ l) where
  pub rest-is : p ≡ drop r.start s
  rest-is = f.starts sound r.start r.end r.is

  front : Whole (take (r.end - r.start) p) (Json.array r.trees)
  front = subst (λ (q : List ℕ). Whole (take (r.end - r.start) q) (Json.array r.trees)) (sym rest-is) r.there.whole

  pub rest-along : AlongItems p 1
  rest-along = AlongItems.front (r.end - r.start) front

  pub rest-picked : l ≡ picked_items σ p
  rest-picked = r.picked ∙ sym (ap (picked_items σ) rest-is ∙ open_items σ s r.start r.end r.there.whole)

pub records-listed : {file : ℕ} {s : List ℕ} {σ : Shape} {l : List Picked} → syntax_of s ≡ Ok tt → Records s (records_span (sheet_shape file) s) σ l → Listed file s
records-listed sound r = Listed.listed r.start r.end sound r.is r.there.whole

pub none-along : (s : List ℕ) (names : List (List ℕ)) → members_along s names None ≡ None
unfolding members_along
none-along s [] = refl
none-along s (name ∷ names) = none-along s names

pub no_record : (file n : ℕ) → record_span (sheet_shape file) [] n ≡ None
unfolding record_span records_span top_span blanks
no_record file n = go (way_to file)
  where
    empty : top_span [] ≡ None
    empty = rw (top_span, value-empty depth)

    go : (o : Option Way) → nth_in [] (elim o [ None ↦ None | Some w ↦ members_along [] (map (λ k. k.name) w.keys) (top_span []) ]) n ≡ None
    go None = refl
    go (Some w) = ap (λ (z : Option Span). nth_in [] z n) (ap (members_along [] (map (λ k. k.name) w.keys)) empty ∙ none-along [] _)

-- the n-th record, in the rest p
module _ (file : ℕ) (s p : List ℕ) (n : ℕ) (f : RecordsFrom file s p) where
  pub record_absent : length p ≡ 0 → Listed file s → None ≡ record_span (sheet_shape file) s n
  unfolding record_span
  record_absent h (Listed.absent e) = sym (ap (λ (l : List ℕ). record_span (sheet_shape file) l n) e ∙ no_record file n)
  record_absent h (Listed.recordless e) = sym (ap (λ (z : Option Span). nth_in s z n) (along-none file s e))
  record_absent h (Listed.listed from upto sound is w) =
      absurd (omega (arith, ap length (f.starts sound from upto is), whole-some w, length-take (upto - from) (drop from s)))

  pub record_there : (length p ≡ 0 → ⊥) → Listed file s → AlongItems p 1 × (nth (length s - length p) (items_of p) n ≡ record_span (sheet_shape file) s n)
  unfolding record_span
  record_there h (Listed.absent e) = absurd (h (ap length (none_from f e)))
  record_there h (Listed.recordless e) = absurd (h (ap length (f.none e)))
  record_there h (Listed.listed from upto sound is w) =
      let e = f.starts sound from upto is in
      let a : length s - length p ≡ from = omega (arith, ap length e, length-drop from s) in (
        subst (λ (l : List ℕ). AlongItems l 1) (sym e) (AlongItems.front (upto - from) w),
        ap (λ (l : List ℕ). nth (length s - length p) (items_of l) n) e ∙ ap (λ l. nth (length s - length p) l n) (front_items (drop from s) (upto - from) w)
            ∙ ap (λ (z : ℕ). nth z (items_of (part s from upto)) n) a ∙ sym (ap (λ (z : Option Span). nth_in s z n) is),
      )
