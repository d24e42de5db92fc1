-- The loops that put columns in order: what is written so far stands there, and the rest stays.
use mathlib.Core.List.{List}
use mathlib.Core.Path.{◌≡◌, refl, sym, ap, subst, ◌∙◌}
use Prim.Native.Nat.{ℕ, ◌+◌, ◌*◌, ◌<◌}
use native.Mathlib.Decide.{ℕ_discrete}
use native.Mathlib.Omega.{arith}
use lib.ListN.{length, get_or, set, length-set}
use lib.Seq.{get_or-set_same, get_or-set_other}
use Rattle.limits.specs.Ceilings.{records}
use Rattle.ids.specs.inner.Notes.{size}
use Rattle.ids.specs.inner.Gather.{Listing, Column, Written, Gathered, Settled}

pub written_start : {at : ℕ} {f : ℕ → ℕ} {before : List ℕ} → length before ≡ size → Written at 0 f before before
written_start long = record { long = long; is = λ i h. absurd (omega arith); below = λ k h. refl; above = λ k h. refl }

-- one number more, x, at the place k
pub written_next : {at n k : ℕ} {f : ℕ → ℕ} {before notes : List ℕ} {x : ℕ} → Written at n f before notes → k ≡ at + n → k < size → x ≡ f n → Written at (n + 1) f before (set notes k x)
written_next {at} {n} {k} {f} {before} {notes} {x} w z h e =
    let l = w.long in
    record {
      long = length-set notes k x ∙ w.long;
      is = λ i g.
          elim (ℕ_discrete i n) [
            | yes y ↦
                let v : at + i ≡ k = omega arith in
                ap (λ (j : ℕ). get_or (set notes k x) j 0) v ∙ get_or-set_same notes k x 0 (omega arith) ∙ e ∙ ap f (sym y)
            | no y ↦ get_or-set_other notes k (at + i) x 0 (λ v. omega arith) ∙ w.is i (omega arith)
          ];
      below = λ j g. get_or-set_other notes k j x 0 (λ y. omega arith) ∙ w.below j g;
      above = λ j g. get_or-set_other notes k j x 0 (λ y. omega arith) ∙ w.above j (omega arith);
    }

-- by how many are written
pub written_all : {at n m : ℕ} {f : ℕ → ℕ} {before notes : List ℕ} → n ≡ m → Written at n f before notes → Written at m f before notes
written_all {at} {f = f} {before} {notes} e = subst (λ (k : ℕ). Written at k f before notes) e

-- a column that is written over the first one, and back
pub gathered : {order : List ℕ} {column : ℕ} {before between notes : List ℕ} → Listing order → Column column
    → Written 0 (length order) (λ i. get_or before (column + get_or order i 0) 0) before between → Written column (length order) (λ i. get_or between i 0) between notes
    → Gathered order column before notes
gathered {order} {column} {between = between} o c a b =
    let f = o.few in let g = c.0 in
    record {
      long = b.long;
      is = λ i h. let z : 0 + i ≡ i = omega arith in b.is i h ∙ ap (λ (k : ℕ). get_or between k 0) (sym z) ∙ a.is i h;
      below = λ k h i. b.below k i ∙ a.above k (omega arith);
      above = λ k h. b.above k (omega arith) ∙ a.above k (omega arith);
    }

-- both columns, then the keys, and both numbers behind them
pub settled : {order keys : List ℕ} {front : ℕ} {before one two three : List ℕ} → Listing order → Gathered order records before one → Gathered order (2 * records) one two
    → Written 0 (length order) (λ i. get_or keys (get_or order i 0) 0) two three
    → Settled order keys front before (set (set three (3 * records) (length order)) (3 * records + 1) front)
settled {order} {keys} {front} {before} {one} {two} {three} o a b c =
    let f = o.few in let l = c.long in let four = set three (3 * records) (length order) in
    record {
      long = length-set four (3 * records + 1) front ∙ length-set three (3 * records) (length order) ∙ c.long;
      first = λ i h. let z : 0 + i ≡ i = omega arith in other i (omega arith) ∙ ap (λ (k : ℕ). get_or three k 0) (sym z) ∙ c.is i h;
      starts = λ i h. other (records + i) (omega arith) ∙ c.above (records + i) (omega arith) ∙ b.below (records + i) (omega arith) (omega arith) ∙ a.is i h;
      marks = λ i h.
          let k = o.each i h in
          other (2 * records + i) (omega arith) ∙ c.above (2 * records + i) (omega arith) ∙ b.is i h ∙ a.above (2 * records + get_or order i 0) (omega arith);
      count =
          get_or-set_other four (3 * records + 1) (3 * records) front 0 (λ y. omega arith) ∙ get_or-set_same three (3 * records) (length order) 0 (omega arith);
      skip = get_or-set_same four (3 * records + 1) front 0 (omega (arith, length-set three (3 * records) (length order)));
    }
  where
    other : (i : ℕ) → i < 3 * records → get_or (set (set three (3 * records) (length order)) (3 * records + 1) front) i 0 ≡ get_or three i 0
    other i h =
        get_or-set_other (set three (3 * records) (length order)) (3 * records + 1) i front 0 (λ y. omega arith)
        ∙ get_or-set_other three (3 * records) i (length order) 0 (λ y. omega arith)
