-- A position by its items: lon, lat and what follows them each find their own kinds, and the first of all is the lesser of these.
use mathlib.Core.Bool.{Bool, true, false}
use mathlib.Core.List.{List, [], ◌∷◌, ◌++◌, append-nil, map}
use mathlib.Core.Path.{◌≡◌, refl, sym, ap, ap₂, ◌∙◌}
use Prim.Native.Nat.{ℕ, ◌≤◌, ◌<◌}
use native.Mathlib.Omega.{arith}
use lib.Dec.{leb}
use lib.IntN.{ℤ}
use lib.ListN.{length}
use borrow.Author.Tests.{le-leb, lt-leb}
use Rattle.notation.specs.Choice.{◌and◌}
use Rattle.word.specs.Kinds.{wrong_type, bad_ring}
use Rattle.json_text.specs.Tree.{Json}
use Rattle.walk.specs.declared.Item.{Item}
use Rattle.walk.specs.Part.{Whole}
use Rattle.walk.specs.inner.Kind.{kind_at}
use Rattle.walk.specs.inner.Along.{ItemPassed}
use Rattle.walk.proofs.Left.{Left, left_end, left-whole, left-more}
use Rattle.walk.proofs.Parts.{item_of}
use Rattle.geometry.specs.Ring.{Point}
use Rattle.geometry.specs.inner.Shifted.{OnMap, origin}
use Rattle.geometry.specs.declared.Position.{Position}
use Rattle.schema.specs.Shape as shape
use Rattle.schema.specs.Pick.{Picked, pick}
use Rattle.fault.specs.Fault.{lesser}
use Rattle.fault.proofs.Leasts.{none_is, lesser_comm, lesser_assoc, both-none}
use Rattle.scalar.specs.Scalars.{unless}
use Rattle.rings.specs.Rings.{found_at, count, coordinate_kinds, number_kinds_in, position_kinds, point_of, position}
use Rattle.rings.specs.inner.Parts.{fault_at, least_found, number_shape, position_shape, Listing, is_array, is_number, range_kinds, FindsCoordinate, list_kinds, rest_kinds, FindsPosition, FindsNumbers}
use Rattle.document.specs.inner.Items.{picked, picked_items}
use Rattle.rings.specs.declared.Field.{Field}
use Rattle.rings.specs.declared.CoordinateFound.{CoordinateFound}
use Rattle.rings.specs.declared.PositionFound.{PositionFound}
use Rattle.rings.proofs.Found.{least-one, least-empty, least_at}
use Rattle.rings.proofs.Picked.{array-picked, other-picked}
use Rattle.rings.proofs.Numbers.{longitude_kinds, latitude_kinds, third-kinds}
use Rattle.std.specs.Prelude.{Option, Some, None}
use Rattle.fault.specs.declared.Fault.{Fault}

abbrev first : Field → ℕ → List ℕ → Option Fault
first q n ks = least_found q (found_at n ks)

-- the numbers at items of p
abbrev pub numbers : List ℕ → List Item → List Picked
numbers p ms = map (picked number_shape p) ms

-- what follows lon and lat, at a place of p
module _ (q : Field) {p : List ℕ} {at₀ : ℕ} (n : ℕ) {ms : List Item} (h : Left p at₀ ms) {o : Option Item} (f : ItemPassed p at₀ o) where
  pub rest-none : o ≡ None → None ≡ first q n (rest_kinds (numbers p ms))
  unfolding rest_kinds
  rest-none e = sym (ap (λ k. first q n (rest_kinds (numbers p k))) (left_end h f e) ∙ least-empty q n)

  module _ {m : Item} (e : o ≡ Some m) (t : Bool) (told : t ≡ is_number (kind_at (item_of p m))) {u : Option Item} (g : ItemPassed p m.next u) where
    third : unless t wrong_type ≡ coordinate_kinds shape.any_number (picked number_shape p m)
    third = ap (λ s. unless s wrong_type) told ∙ third-kinds (left-whole h f e)

    pub rest-one : u ≡ None → first q n (unless t wrong_type) ≡ first q n (rest_kinds (numbers p ms))
    unfolding rest_kinds
    rest-one i =
        let o = left-more h f e in
        let z : ms ≡ m ∷ [] = o.is ∙ ap (λ k. m ∷ k) (left_end o.left g i) in
        ap (first q n) third ∙ sym (ap (λ k. first q n (rest_kinds (numbers p k))) z)

    pub rest-two : {w : Item} → u ≡ Some w → lesser (fault_at q n bad_ring) (first q n (unless t wrong_type)) ≡ first q n (rest_kinds (numbers p ms))
    unfolding rest_kinds
    rest-two {w} i =
        let o = left-more h f e in
        let v = left-more o.left g i in
        let z : ms ≡ m ∷ w ∷ v.rest = o.is ∙ ap (λ k. m ∷ k) v.is in
        ap (lesser (fault_at q n bad_ring)) (ap (first q n) third)
        ∙ ap (λ k. lesser k (first q n (coordinate_kinds shape.any_number (picked number_shape p m)))) (sym (least-one q n bad_ring))
        ∙ sym (ap (λ k. first q n (rest_kinds (numbers p k))) z ∙ least_at q n (bad_ring ∷ []) _)

-- all items
none-kinds : list_kinds [] ≡ bad_ring ∷ []
unfolding list_kinds number_kinds_in
none-kinds = refl

one-kinds : (x : Picked) → list_kinds (x ∷ []) ≡ bad_ring ∷ range_kinds 180 x
unfolding list_kinds number_kinds_in
one-kinds x = ap (λ ks. bad_ring ∷ ks) (longitude_kinds x)

-- a fault in the third place comes to the front
swap : (a b c : Option Fault) → lesser a (lesser b c) ≡ lesser b (lesser a c)
swap a b c = sym (lesser_assoc a b c) ∙ ap (λ z. lesser z c) (lesser_comm a b) ∙ lesser_assoc b a c

module _ (q : Field) (n : ℕ) (x y : Picked) where
  abbrev three : List ℕ → Option Fault
  three ks = lesser (first q n (range_kinds 180 x)) (lesser (first q n (range_kinds 90 y)) (first q n ks))

  three-kinds : (ks : List ℕ) → three ks ≡ first q n (coordinate_kinds shape.longitude x ++ coordinate_kinds shape.latitude y ++ ks)
  three-kinds ks =
      let xs = coordinate_kinds shape.longitude x in let ys = coordinate_kinds shape.latitude y in
      sym (least_at q n (xs ++ ys) ks ∙ ap (λ z. lesser z (first q n ks)) (least_at q n xs ys) ∙ lesser_assoc (first q n xs) (first q n ys) (first q n ks)
      ∙ ap (λ cs. lesser (first q n cs) (lesser (first q n ys) (first q n ks))) (longitude_kinds x)
      ∙ ap (λ cs. lesser (first q n (range_kinds 180 x)) (lesser (first q n cs) (first q n ks))) (latitude_kinds y))

  more-kinds : (l : List Picked) → three (rest_kinds l) ≡ first q n (list_kinds (x ∷ y ∷ l))
  unfolding list_kinds number_kinds_in rest_kinds
  more-kinds [] =
      three-kinds [] ∙ ap (first q n) (append-nil (coordinate_kinds shape.longitude x ++ coordinate_kinds shape.latitude y))
  more-kinds (z ∷ []) = three-kinds (coordinate_kinds shape.any_number z)
  more-kinds (z ∷ w ∷ l) =
      let cs = coordinate_kinds shape.any_number z in
      let m = length (x ∷ y ∷ z ∷ w ∷ l) in
      let a : 2 ≤ m = omega arith in let b : 3 < m = omega arith in
      let bad = first q n (bad_ring ∷ []) in
      let all = coordinate_kinds shape.longitude x ++ coordinate_kinds shape.latitude y ++ cs in
      let t : (leb 2 m and leb m 3) ≡ false = ap (λ s. s and leb m 3) (le-leb 2 m a) ∙ lt-leb m 3 b in
      ap (λ k. lesser (first q n (range_kinds 180 x)) (lesser (first q n (range_kinds 90 y)) k)) (least_at q n (bad_ring ∷ []) cs)
      ∙ ap (lesser (first q n (range_kinds 180 x))) (swap (first q n (range_kinds 90 y)) bad (first q n cs))
      ∙ swap (first q n (range_kinds 180 x)) bad (lesser (first q n (range_kinds 90 y)) (first q n cs))
      ∙ ap (lesser bad) (three-kinds cs) ∙ sym (ap (λ s. first q n (unless s bad_ring ++ all)) t ∙ least_at q n (bad_ring ∷ []) all)

-- a position with an equal fault
pub finds_position_as : (q : Field) (n : ℕ) (kinds : List ℕ) (here : Point) (found first : Option Fault) {p : Position} → found ≡ first
    → FindsPosition q n kinds here (record { least = first; point = p }) → FindsPosition q n kinds here (record { least = found; point = p })
finds_position_as q n kinds here found first {p} e s = rw e s

-- a position that is not sound
pub finds_position-broken : (q : Field) (n : ℕ) (kinds : List ℕ) (here : Point) (s : PositionFound) (found : Option Fault)
    → s ≡ record { least = found; point = origin } → found ≡ first q n kinds → (found ≡ None → ⊥) → FindsPosition q n kinds here s
finds_position-broken q n kinds here s found e f never =
    rw e record { least = f; point = λ z. absurd (never z) }

pub broken-map : (s : PositionFound) (found : Option Fault) → s ≡ record { least = found; point = origin } → OnMap s.point
broken-map s found e = rw e record { east = omega arith; north = omega arith }

pub finds_position-empty : (q : Field) (n : ℕ) (l : List Picked) (here : Point) (s : PositionFound) (found : Option Fault) → l ≡ []
    → found ≡ fault_at q n bad_ring → s ≡ record { least = found; point = origin } → FindsPosition q n (list_kinds l) here s
finds_position-empty q n l here s found h f e =
    finds_position-broken q n (list_kinds l) here s found e
    (f ∙ sym (ap (λ k. first q n (list_kinds k)) h ∙ ap (first q n) none-kinds ∙ least-one q n bad_ring)) (λ z. none_is (sym z ∙ f))

abbrev point_at : ℤ → ℤ → Point
point_at x y = record { lon = x; lat = y }

-- lon, and what follows it
module _ (q : Field) (n : ℕ) (x : Picked) (lon : CoordinateFound) (east : FindsCoordinate q 180 n x lon) where
  pub finds_position-one : (l : List Picked) (here : Point) (s : PositionFound) (bad found : Option Fault) → l ≡ [] → bad ≡ fault_at q n bad_ring
      → found ≡ lesser bad lon.least → s ≡ record { least = found; point = origin } → FindsPosition q n (list_kinds (x ∷ l)) here s
  finds_position-one l here s bad found h b f e =
      finds_position-broken q n (list_kinds (x ∷ l)) here s found e
      (f ∙ ap₂ lesser (b ∙ sym (least-one q n bad_ring)) east.least
      ∙ sym (ap (λ k. first q n (list_kinds (x ∷ k))) h ∙ ap (first q n) (one-kinds x) ∙ least_at q n (bad_ring ∷ []) (range_kinds 180 x)))
      (λ z. none_is (sym (both-none bad lon.least (sym f ∙ z)).0 ∙ b))

  pub finds_position-more : (l : List Picked) (y : Picked) (r : List Picked) (lat : CoordinateFound) (rest : Option Fault) → l ≡ y ∷ r → FindsCoordinate q 90 n y lat
      → rest ≡ first q n (rest_kinds r)
      → FindsPosition q n (list_kinds (x ∷ l)) (point_of (x ∷ l))
      (record { least = lesser lon.least (lesser lat.least rest); point = record { lon = lon.value; lat = lat.value } })
  unfolding point_of
  finds_position-more l y r lat rest h north g =
      let all = lesser lon.least (lesser lat.least rest) in
      let sound = both-none lon.least (lesser lat.least rest) in
      rw h
      record {
        least =
            ap (λ k. lesser k (lesser lat.least rest)) east.least ∙ ap (λ k. lesser (first q n (range_kinds 180 x)) (lesser k rest)) north.least
            ∙ ap (λ k. lesser (first q n (range_kinds 180 x)) (lesser (first q n (range_kinds 90 y)) k)) g ∙ more-kinds q n x y r;
        point = λ z.
            let a = east.value (sound z).0 in let b = north.value (both-none lat.least rest (sound z).1).0 in
            ap₂ point_at a b;
      }

-- an item of a ring
module _ {p : List ℕ} {x : Json} (w : Whole p x) (q : Field) (n : ℕ) (s : PositionFound) where
  pub finds_position-array : is_array (kind_at p) ≡ true → (Listing p → FindsNumbers q n (picked_items number_shape p) s)
      → FindsPosition q n (position_kinds (pick position_shape x)) (position (pick position_shape x)) s
  unfolding position_kinds position count list_kinds
  finds_position-array e h =
      let k = array-picked shape.positions 3 number_shape x w e in
      rw k.picks (rw k.listed.parts (h k.listed.listing))

  pub finds_position-other : (found : Option Fault) → is_array (kind_at p) ≡ false → found ≡ fault_at q n wrong_type → s ≡ record { least = found; point = origin }
      → FindsPosition q n (position_kinds (pick position_shape x)) (position (pick position_shape x)) s
  unfolding position_kinds
  finds_position-other found e f h =
      let k = other-picked shape.positions 3 number_shape x w e in
      finds_position-broken q n _ _ s found h (f ∙ sym (ap (λ z. first q n (position_kinds z)) k.1 ∙ least-one q n wrong_type)) (λ z. none_is (sym z ∙ f))
