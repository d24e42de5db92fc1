-- A ring point by point: a question that is asked of what is kept with the points that are left is the same once the next of these is taken. So it is the
-- question of the whole ring while no point is taken, and with none left what is kept answers it. Edges that meet the origin add nothing to the area sum.
use mathlib.Core.Bool.{Bool, beq, true, false, not, ◌&&◌}
use mathlib.Core.List.{List, [], ◌∷◌}
use mathlib.Core.Path.{◌≡◌, refl, sym, ap, ap₂, subst, ◌∙◌}
use Prim.Native.Nat.{ℕ, ◌+◌, ◌≤◌, ◌<◌}
use Rattle.std.specs.Prelude.{Option, None, Some, unwrap_or}
use Rattle.std.specs.Option.{option_eq, option_map_or}
use native.Mathlib.Decide.{dec_lt}
use native.Mathlib.Omega.{arith}
use lib.Dec.{eqb}
use lib.IntN.{ℤ, pos, ◌+ℤ◌, +ℤ_idl, +ℤ_idr, +ℤ_assoc}
use lib.Signed.{lt_z}
use borrow.Author.Tests.{lt-ltb, le-ltb}
use Rattle.limits.specs.Ceilings.{positions}
use Rattle.notation.proofs.Options.{none-some}
use Rattle.notation.specs.Choice.{◌⇒◌else◌, ◌and◌}
use Rattle.signed.specs.inner.Difference.{difference}
use Rattle.signed.proofs.Gap.{gap, gap_pos, gap_same, gap_minus, gap_mul, difference_le}
use Rattle.signed.proofs.Parts.{parts}
use Rattle.geometry.specs.Ring.{Point, equal, same_point, turn, area_sum, clockwise, ends_at, sound}
use Rattle.geometry.specs.Held.{on_edge, crosses, on_ring, odd}
use Rattle.geometry.specs.inner.Shifted.{OnMap, added, half_lat, half_lon, origin, point, stands, value}
use Rattle.geometry.specs.inner.Outline.{no_outline, is_empty, joined, Summed, Sized, area_from, clockwise_from, closes, closes_from, sound_from, edge_meets, edge_crosses, on_from, odd_from, held_by, stands_from}
use Rattle.geometry.specs.declared.Outline.{Outline}
use Rattle.geometry.specs.declared.Position.{Position}
use Rattle.geometry.specs.contracts.PositionPartialEq.TheImpl as position
use Rattle.geometry.specs.declared.Standing.TheVariants.{Edge, Is}
use Rattle.geometry.proofs.Added.{room-none, room-added, on-map-origin, area_none, area_added}
use Rattle.geometry.proofs.Edges.{flip, flip_law}
use Rattle.geometry.proofs.Tests.{equal_nat}

-- what is kept has room
pub summed-none : Summed no_outline
summed-none = record { edges = 0; taken = omega arith; few = omega arith; room = room-none refl; last = on-map-origin }

module _ {o : Outline} {p : Position} (s : Summed o) (m : OnMap p) where
  pub summed-next : Summed (joined o p)
  summed-next = go (dec_lt o.count positions)
    where
      go : Dec (o.count < positions) → Summed (joined o p)
      go (yes l) =
          rw (lt-ltb o.count positions l)
          record {
            edges = s.edges + 1;
            taken = omega (arith, s.taken);
            few = omega (arith, s.taken, l);
            room = room-added s.last m s.room;
            last = m;
          }
      go (no n) =
          let h : positions ≤ o.count = omega (arith, n) in
          rw (le-ltb o.count positions h)
          record {
            edges = s.edges;
            taken = omega (arith, s.taken);
            few = s.few;
            room = s.room;
            last = m;
          }

-- and its points are on the map
pub sized-none : Sized no_outline
sized-none = record { summed = summed-none; first = λ a e. none-some e }

module _ {o : Outline} {p : Position} (s : Sized o) (m : OnMap p) where
  first-on-map : (first : Option Position) → ((a : Position) → first ≡ Some a → OnMap a) → (a : Position) → Some (unwrap_or first p) ≡ Some a → OnMap a
  first-on-map None on a e = let z : p ≡ a = cc in subst OnMap z m
  first-on-map (Some b) on a e = on a e

  pub sized-next : Sized (joined o p)
  sized-next = record { summed = summed-next s.summed m; first = first-on-map o.first s.first }

-- while no point is taken
origin-turn : (b : Point) → turn (point origin) b ≡ pos 0
unfolding turn
origin-turn b =
    gap_same (gap_minus (gap_mul (gap half_lon half_lon) (parts b.lat)) (gap_mul (parts b.lon) (gap half_lat half_lat))) (gap_pos 0) (omega arith)

area_start : (l : List Point) → area_from no_outline l ≡ area_sum l
unfolding area_from area_sum
area_start [] = +ℤ_idr _ ∙ area_none
area_start (b ∷ l) =
    ap₂ (λ (x y : ℤ). x +ℤ (y +ℤ area_sum (b ∷ l))) area_none (origin-turn b) ∙ +ℤ_idl _ ∙ +ℤ_idl _

pub sound-start : (l : List Point) → sound_from no_outline l ≡ sound l
unfolding sound_from sound closes_from closes
sound-start [] = refl
sound-start (a ∷ l) = ap (λ z. ends_at a a l and not (equal z (pos 0))) (area_start (a ∷ l))

pub stands-start : (first held : Bool) (l : List Point) (q : Point) → stands_from no_outline false first held l q ≡ stands first held l q
unfolding stands_from stands on_from odd_from clockwise
stands-start first held l q =
    ap (λ z. on_ring l q ⇒ Edge else Is (held_by (lt_z z (pos 0)) (odd l q) first held)) (area_start l)

-- with none left
pub area_end : (o : Outline) → value (added o.area o.last origin) ≡ area_from o []
unfolding area_from area_sum
area_end o = sym (+ℤ_idr _)

flip_none : (t : Bool) → flip t false ≡ t
flip_none true = refl
flip_none false = refl

-- one point more
module _ (o : Outline) (q : Point) where
  on-end : (t : Bool) → (t ⇒ on_ring [] q else on_ring (point o.last ∷ []) q) ≡ false
  unfolding on_ring
  on-end true = refl
  on-end false = refl

  odd-end : (t : Bool) → (t ⇒ odd [] q else odd (point o.last ∷ []) q) ≡ false
  unfolding odd
  odd-end true = refl
  odd-end false = refl

  pub stands-end : (t first held : Bool) → Is (held_by (clockwise_from o []) t first held) ≡ stands_from o t first held [] q
  unfolding stands_from on_from odd_from
  stands-end t first held =
      sym (ap₂ (λ (on inside : Bool). on ⇒ Edge else Is (held_by (clockwise_from o []) inside first held)) (on-end (is_empty o))
      (ap (flip t) (odd-end (is_empty o)) ∙ flip_none t))

  module _ (p : Position) (l : List Point) where
    on_edge_lem : (t : Bool) → (t ⇒ on_ring (point p ∷ l) q else on_ring (point o.last ∷ point p ∷ l) q)
        ≡ ((t ⇒ false else on_edge (point o.last) (point p) q) ⇒ true else on_ring (point p ∷ l) q)
    unfolding on_ring
    on_edge_lem true = refl
    on_edge_lem false = refl

    on-next : on_from o (point p ∷ l) q ≡ (edge_meets o (point p) q ⇒ true else on_from (joined o p) l q)
    unfolding on_from
    on-next = on_edge_lem (is_empty o)

    odd-edge : (t : Bool) → (t ⇒ odd (point p ∷ l) q else odd (point o.last ∷ point p ∷ l) q)
        ≡ flip (t ⇒ false else crosses (point o.last) (point p) q) (odd (point p ∷ l) q)
    unfolding odd
    odd-edge true = refl
    odd-edge false = refl

    odd-next : odd_from o (point p ∷ l) q ≡ flip (edge_crosses o (point p) q) (odd_from (joined o p) l q)
    unfolding odd_from
    odd-next = odd-edge (is_empty o)

module _ (o : Outline) (p : Position) (l : List Point) where
  closes-edge : (first : Option Position) → ends_at (point (unwrap_or first p)) (point p) l
      ≡ option_map_or (λ a. ends_at (point a) (point o.last) (point p ∷ l)) first (closes (point p ∷ l))
  unfolding closes ends_at
  closes-edge None = refl
  closes-edge (Some a) = refl

  closes-next : closes_from (joined o p) l ≡ closes_from o (point p ∷ l)
  unfolding closes_from
  closes-next = closes-edge o.first

  module _ (few : o.count < positions) where
    area_next : area_from (joined o p) l ≡ area_from o (point p ∷ l)
    unfolding area_from area_sum
    area_next =
        rw (lt-ltb o.count positions few)
        (ap (λ (z : ℤ). z +ℤ area_sum (point p ∷ l)) (sym (area_added o.area o.last p))
        ∙ +ℤ_assoc (value (added o.area o.last origin)) (turn (point o.last) (point p)) (area_sum (point p ∷ l)))

    pub sound-next : sound_from o (point p ∷ l) ≡ sound_from (joined o p) l
    unfolding sound_from
    sound-next = sym (ap₂ (λ (c : Bool) (z : ℤ). c and not (equal z (pos 0))) closes-next area_next)

flip_differs : (s t : Bool) → not (beq s t) ≡ flip s t
flip_differs true true = refl
flip_differs true false = refl
flip_differs false true = refl
flip_differs false false = refl

-- the next edge and a point that is asked about
module _ (o : Outline) (t first held : Bool) (p : Position) (l : List Point) (q : Point) where
  pub stands-edge : edge_meets o (point p) q ≡ true → stands_from o t first held (point p ∷ l) q ≡ Edge
  unfolding stands_from
  stands-edge e =
      let on : on_from o (point p ∷ l) q ≡ true = on-next o q p l ∙ ap (λ (m : Bool). m ⇒ true else on_from (joined o p) l q) e in
      ap (λ (m : Bool). m ⇒ Edge else Is (held_by (clockwise_from o (point p ∷ l)) (flip t (odd_from o (point p ∷ l) q)) first held)) on

  pub stands-next : o.count < positions → edge_meets o (point p) q ≡ false → {c : Bool} → c ≡ edge_crosses o (point p) q
      → stands_from o t first held (point p ∷ l) q ≡ stands_from (joined o p) (not (beq t c)) first held l q
  unfolding stands_from
  stands-next few e {c} k =
      let on : on_from o (point p ∷ l) q ≡ on_from (joined o p) l q = on-next o q p l ∙ ap (λ (m : Bool). m ⇒ true else on_from (joined o p) l q) e in
      let rest = odd_from (joined o p) l q in
      let parity : flip t (odd_from o (point p ∷ l) q) ≡ flip (not (beq t c)) rest =
      ap (flip t) (odd-next o q p l) ∙ sym (flip_law.assoc t (edge_crosses o (point p) q) rest)
      ∙ ap (λ (m : Bool). flip m rest) (sym (flip_differs t c ∙ ap (flip t) k)) in
      let way = ap (λ (z : ℤ). lt_z z (pos 0)) (sym (area_next o p l few)) in
      λ i. on i ⇒ Edge else Is (held_by (way i) (parity i) first held)

-- a ring closes where its first and last coordinates are equal, moved as they are
equal-moved : (a b s : ℕ) → equal (difference a s) (difference b s) ≡ eqb a b
equal-moved a b s = ap₂ ◌and◌ (difference_le a b s) (difference_le b a s) ∙ equal_nat a b

both : (s t : Bool) → (s and t) ≡ (s && t)
both true t = refl
both false t = refl

ends-where-equal : (first : Option Position) (last : Position)
    → option_map_or (λ a. ends_at (point a) (point last) []) first false ≡ option_eq position.eq-value.it first (Some last)
unfolding ends_at same_point
ends-where-equal None last = refl
ends-where-equal (Some a) last = ap₂ ◌and◌ (equal-moved a.lon last.lon half_lon) (equal-moved a.lat last.lat half_lat) ∙ both (eqb a.lon last.lon) (eqb a.lat last.lat)

pub sound-end : (o : Outline) {t : Bool} → t ≡ option_eq position.eq-value.it o.first (Some o.last)
    → (t and not (equal (area_from o []) (pos 0))) ≡ sound_from o []
unfolding sound_from closes_from closes
sound-end o e = ap (λ t. t and not (equal (area_from o []) (pos 0))) (e ∙ sym (ends-where-equal o.first o.last))
