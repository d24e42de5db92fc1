-- Signed tests, and a number that is moved up: with half its range added it is a natural, less half it is itself again. So a point on the map is
-- one for geometry.
use mathlib.Core.Bool.{Bool, true, false, not}
use mathlib.Core.Path.{◌≡◌, sym, ap, ◌∙◌}
use Prim.Native.Nat.{ℕ, ◌+◌, ◌-◌, ◌≤◌}
use native.Mathlib.Omega.{arith}
use lib.Dec.{leb, ltb}
use lib.IntN.{ℤ, pos, neg_ℤ, ◌+ℤ◌}
use lib.Signed.{le_z, lt_z}
use borrow.Author.Tests.{leb-true, le-leb, lt-leb, ltb-true, ltb-false}
use Rattle.notation.proofs.Booleans.{and_left, and_right}
use Rattle.signed.specs.inner.Difference.{difference}
use Rattle.signed.proofs.Gap.{gap, gap_pos, gap_neg, gap_same, gap_add, gap_le, gap_lt}
use Rattle.signed.proofs.Parts.{up, down, parts}
use Rattle.geometry.specs.Ring.{Point}
use Rattle.geometry.specs.inner.Shifted.{half_lon, half_lat, OnMap, point}
use Rattle.zone.specs.Answer.{on_map}

-- not below is at least
not_less : (m n : ℕ) (t : Bool) → ltb m n ≡ t → leb n m ≡ not t
not_less m n true e = lt-leb n m (ltb-true m n e)
not_less m n false e = le-leb n m (ltb-false m n e)

pub not-below : (a b : ℤ) {t : Bool} → lt_z a b ≡ t → le_z b a ≡ not t
not-below a b {t} e =
    gap_le (parts b) (parts a) ∙ not_less (up a + down b) (up b + down a) t (sym (gap_lt (parts a) (parts b)) ∙ e)

module _ (v : ℤ) (half : ℕ) (low : le_z (neg_ℤ (pos half)) v ≡ true) (high : le_z v (pos half) ≡ true) where
  pub record Raised : Type 0 where
    pub to : ℕ
    pub added : v +ℤ pos half ≡ pos to
    pub back : difference to half ≡ v
    pub most : to ≤ half + half

  pub raise : Raised
  raise =
      let l : 0 + down v ≤ up v + half = leb-true (0 + down v) (up v + half) (sym (gap_le (gap_neg half) (parts v)) ∙ low) in
      let h : up v + 0 ≤ half + down v = leb-true (up v + 0) (half + down v) (sym (gap_le (parts v) (gap_pos half)) ∙ high) in
      record {
        to = up v + half - down v;
        added = gap_same (gap_add (parts v) (gap_pos half)) (gap_pos (up v + half - down v)) (omega arith);
        back = gap_same (gap (up v + half - down v) half) (parts v) (omega arith);
        most = omega arith;
      }

raised_most : {v : ℤ} (half r : ℕ) → le_z v (pos half) ≡ true → difference r half ≡ v → r ≤ half + half
raised_most half r h e =
    let l : r + 0 ≤ half + half = leb-true (r + 0) (half + half) (sym (gap_le (gap r half) (gap_pos half)) ∙ ap (λ z. le_z z (pos half)) e ∙ h) in
    omega arith

-- the four tests of a point on the map
pub record Ranged (q : Point) : Type 0 where
  pub west : le_z (neg_ℤ (pos 180_000_000)) q.lon ≡ true
  pub east : le_z q.lon (pos 180_000_000) ≡ true
  pub south : le_z (neg_ℤ (pos 90_000_000)) q.lat ≡ true
  pub north : le_z q.lat (pos 90_000_000) ≡ true

pub ranged : (q : Point) → on_map q ≡ true → Ranged q
unfolding on_map
ranged q e =
    let b = and_right (le_z (neg_ℤ (pos 180_000_000)) q.lon) _ e in
    let d = and_right (le_z q.lon (pos 180_000_000)) _ b in
    record {
      west = and_left (le_z (neg_ℤ (pos 180_000_000)) q.lon) _ e;
      east = and_left (le_z q.lon (pos 180_000_000)) _ b;
      south = and_left (le_z (neg_ℤ (pos 90_000_000)) q.lat) _ d;
      north = and_right (le_z (neg_ℤ (pos 90_000_000)) q.lat) _ d;
    }

module _ {q : Point} (h : Ranged q) (x y : ℕ) (e : difference x half_lon ≡ q.lon) (f : difference y half_lat ≡ q.lat) where
  pub raised_map : OnMap (record { lon = x; lat = y })
  raised_map = record { east = raised_most 180_000_000 x h.east e; north = raised_most 90_000_000 y h.north f }

  pub raised_point : point (record { lon = x; lat = y }) ≡ q
  raised_point = rw (e, f)
