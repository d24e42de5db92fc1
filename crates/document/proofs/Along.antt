-- The code's steps along the names that lead to a file's records: the top value, a member in a span, an item by its number.
use mathlib.Core.Bool.{true, false}
use mathlib.Core.List.{List, [], ◌∷◌, map}
use mathlib.Core.Path.{◌≡◌, refl, sym, ap, ◌∙◌}
use Prim.Native.Nat.{ℕ, zero, suc, ◌+◌, ◌-◌, ◌≤◌, ◌<◌}
use native.Mathlib.Omega.{arith}
use lib.ListN.{length, drop}
use Rattle.notation.specs.Given.{given}
use Rattle.notation.proofs.Booleans.{true-false}
use Rattle.limits.specs.Ceilings.{depth}
use Rattle.lexeme.specs.Read.{Read, placed, wrong_at}
use Rattle.lexeme.specs.Read.Read.{done, bad}
use Rattle.lexeme.specs.Character.{paired}
use Rattle.lexeme.specs.Tokens.{blanks}
use Rattle.lexeme.proofs.Rests.{place_at}
use Rattle.json_text.specs.Tree.{Json}
use Rattle.json_text.specs.Text.{value, value_by}
use Rattle.walk.specs.declared.Item.{Item}
use Rattle.walk.specs.Walk.{offset_of}
use Rattle.walk.proofs.Rests.{rest-drop, rest-blanks, rest-there}
use Rattle.walk.proofs.Finding.{valued_at}
use Rattle.walk.proofs.Files.{passed}
use Rattle.schema.specs.Records.{Way, way_to, has_records}
use Rattle.schema.specs.inner.Ways.{way_names}
use Rattle.schema.proofs.Recorded.{no_way}
use Rattle.schema.specs.Tables.{sheet_shape}
use Rattle.document.specs.declared.Span.{Span}
use Rattle.document.specs.Spans.{members_along, top_span, records_span, nth, spanning}
use Rattle.document.specs.inner.Spans.{Readable}
use Rattle.std.specs.Prelude.{Ok, Some, None, Option}

-- two spans that are the same have the same ends
pub ends-same : {a b c d : ℕ} → Some (spanning a b) ≡ Some (spanning c d) → (a ≡ c) × (b ≡ d)
ends-same {a} {b} {c} {d} e = let i : spanning a b ≡ spanning c d = cc in (ap (λ (z : Span). z.from) i, ap (λ (z : Span). z.upto) i)

-- the top value, where it was read
module _ (s : List ℕ) where
  pub top-found : (upto : ℕ) → Ok upto ≡ placed s (value paired depth (drop (offset_of s (blanks s)) s)) → top_span s ≡ Some (spanning (offset_of s (blanks s)) upto)
  unfolding top_span placed
  top-found upto h = go (value paired depth (blanks s)) refl
    where
      begins : value paired depth (drop (offset_of s (blanks s)) s) ≡ value paired depth (blanks s)
      begins = ap (value paired depth) (rest-there (rest-blanks s (rest-drop 0)))

      go : (o : Read Json) → value paired depth (blanks s) ≡ o → top_span s ≡ Some (spanning (offset_of s (blanks s)) upto)
      go (done x r) i = let w : Ok upto ≡ Ok (offset_of s r) = rw (begins, i) at h in rw (top_span, i) (cc)
      go (bad k r) i = let w : Ok upto ≡ wrong_at k (offset_of s r) = rw (begins, i) at h in let z : ◌≡◌ {A = ℕ} 0 1 = cc in absurd (omega arith)

-- where it begins, and ends with nothing but blanks behind it
module _ (s : List ℕ) (from : ℕ) (e : from ≡ offset_of s (blanks s)) where
  pub top-absent : Readable s → length s ≤ from → None ≡ top_span s
  unfolding top_span value value_by blanks
  top-absent (Readable.absent i) h = rw i
  top-absent (Readable.sound i) h = let t = passed s i in absurd (omega (arith, t.some, t.inside))

  pub top-there : (upto : ℕ) → Readable s → from < length s
      → ((x : Json) (r : List ℕ) → value paired depth (drop from s) ≡ done x r → blanks r ≡ [] → upto ≡ offset_of s r) → Some (spanning from upto) ≡ top_span s
  top-there upto (Readable.absent i) h v = absurd (omega (arith, ap length i))
  top-there upto (Readable.sound i) h v =
      let t = passed s i in
      let l = valued_at s (offset_of s (blanks s)) t.end t.found in
      let u : upto ≡ t.end =
      v l.what (drop t.end s) (ap (λ (n : ℕ). value paired depth (drop n s)) e ∙ l.reads) t.after ∙ sym (place_at s t.end l.upto) in
      rw (e, u) (sym (top-found s t.end t.found))

-- along the names that lead to the records of a sheet; none where it has no records
pub along-names : (n : ℕ) (s : List ℕ) → has_records n ≡ true → members_along s (way_names (sheet_shape n)) (top_span s) ≡ records_span (sheet_shape n) s
unfolding records_span way_names
along-names n s h = go (way_to n) h
  where
    go : (o : Option Way) → given o ≡ true
        → members_along s (elim o [ None ↦ [] | Some w ↦ map (λ k. k.name) w.keys ]) (top_span s)
        ≡ elim o [ None ↦ None | Some w ↦ members_along s (map (λ k. k.name) w.keys) (top_span s) ]
    go None e = true-false e refl
    go (Some w) e = refl

-- a way has names just where there are records
pub names-given : (n : ℕ) (name : List ℕ) (names : List (List ℕ)) → way_names (sheet_shape n) ≡ name ∷ names → has_records n ≡ true
unfolding way_names
names-given n name names e = go (way_to n) e
  where
    go : (o : Option Way) → (elim o [ None ↦ [] | Some w ↦ map (λ k. k.name) w.keys ]) ≡ name ∷ names → given o ≡ true
    go None i = let z : ◌≡◌ {A = ℕ} 0 1 = cc in absurd (omega arith)
    go (Some w) i = refl

pub along-none : (file : ℕ) (s : List ℕ) → has_records file ≡ false → records_span (sheet_shape file) s ≡ None
unfolding records_span
along-none file s h = rw (records_span, no_way file h)

-- items by number, counted down
module _ (from : ℕ) (m : Item) (l : List Item) where
  pub nth_here : nth from (m ∷ l) 1 ≡ Some (spanning (from + m.value) (from + m.value_end))
  unfolding nth
  nth_here = refl

  nth-suc : (n : ℕ) → nth from (m ∷ l) (suc (suc n)) ≡ nth from l (suc n)
  unfolding nth
  nth-suc n = refl

  pub nth-later : (n : ℕ) → 1 ≤ n → (n ≡ 1 → ⊥) → nth from (m ∷ l) n ≡ nth from l (n - 1)
  nth-later zero h i = absurd (omega arith)
  nth-later (suc zero) h i = absurd (i refl)
  nth-later (suc (suc n)) h i = let z : suc n ≡ suc (suc n) - 1 = omega arith in nth-suc n ∙ ap (nth from l) z

pub nth-none : (from n : ℕ) → nth from [] n ≡ None
unfolding nth
nth-none from n = refl

pub nth-zero : (from : ℕ) (l : List Item) → nth from l 0 ≡ None
unfolding nth
nth-zero from [] = refl
nth-zero from (m ∷ l) = refl
