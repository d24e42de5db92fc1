-- A number of a position, by its bytes: lon and lat against their ranges, the third of any size.
use mathlib.Core.Bool.{true, false}
use mathlib.Core.List.{List, [], ◌∷◌}
use mathlib.Core.Path.{◌≡◌, refl, sym, ap, subst, ◌∙◌}
use Prim.Native.Nat.{ℕ, ◌+◌, ◌-◌, ◌*◌, ◌≤◌}
use native.Mathlib.Decide.{dec_le}
use native.Mathlib.Omega.{arith}
use lib.IntN.{nat_abs}
use Rattle.word.specs.Kinds.{wrong_type, number_form, out_of_range}
use Rattle.signed.specs.inner.Difference.{difference}
use Rattle.signed.proofs.Gap.{difference_up}
use Rattle.json_text.specs.Tree as tree
use Rattle.json_text.specs.Tree.{Json}
use Rattle.walk.specs.Part.{Whole, kind_of}
use Rattle.walk.specs.inner.Kind.{kind_at}
use Rattle.walk.proofs.Wholes.{whole-kind, whole-number}
use Rattle.decimal.specs.declared.Decimal.{Decimal}
use Rattle.decimal.specs.Decimals.{number_of}
use Rattle.decimal.specs.Exact.{in_range, millionths}
use Rattle.decimal.proofs.Millionths.{millionths-within}
use Rattle.schema.specs.Shape as shape
use Rattle.schema.specs.Pick.{Picked, bare, items, slots, pick}
use Rattle.fault.proofs.Leasts.{none_is}
use Rattle.scalar.specs.Scalars as scalar
use Rattle.scalar.specs.Scalars.{unless, formed_kinds, kinds_of}
use Rattle.rings.specs.Rings.{found_at, in_millionths, coordinate_kinds}
use Rattle.rings.specs.inner.Parts.{fault_at, least_found, number_shape, is_number, range_kinds, FindsCoordinate}
use Rattle.rings.specs.declared.Field.{Field}
use Rattle.rings.specs.declared.CoordinateFound.{CoordinateFound}
use Rattle.rings.proofs.Found.{least-one, least-empty}
use Rattle.std.specs.Prelude.{Option, Some, None}
use Rattle.fault.specs.declared.Fault.{Fault}

-- the sorts
pub longitude_kinds : (x : Picked) → coordinate_kinds shape.longitude x ≡ range_kinds 180 x
unfolding coordinate_kinds kinds_of scalar.sort_kinds
longitude_kinds (bare tree.null) = refl
longitude_kinds (bare (tree.boolean b)) = refl
longitude_kinds (bare (tree.number s)) = refl
longitude_kinds (bare (tree.string s)) = refl
longitude_kinds (bare (tree.array is)) = refl
longitude_kinds (bare (tree.object ms)) = refl
longitude_kinds (items is) = refl
longitude_kinds (slots ss) = refl

pub latitude_kinds : (x : Picked) → coordinate_kinds shape.latitude x ≡ range_kinds 90 x
unfolding coordinate_kinds kinds_of scalar.sort_kinds
latitude_kinds (bare tree.null) = refl
latitude_kinds (bare (tree.boolean b)) = refl
latitude_kinds (bare (tree.number s)) = refl
latitude_kinds (bare (tree.string s)) = refl
latitude_kinds (bare (tree.array is)) = refl
latitude_kinds (bare (tree.object ms)) = refl
latitude_kinds (items is) = refl
latitude_kinds (slots ss) = refl

third-tree : (x : Json) → unless (is_number (kind_of x)) wrong_type ≡ coordinate_kinds shape.any_number (pick number_shape x)
unfolding coordinate_kinds kinds_of scalar.sort_kinds pick
third-tree tree.null = refl
third-tree (tree.boolean b) = refl
third-tree (tree.number s) = refl
third-tree (tree.string s) = refl
third-tree (tree.array is) = refl
third-tree (tree.object ms) = refl

-- the third number
pub third-kinds : {p : List ℕ} {x : Json} → Whole p x → unless (is_number (kind_at p)) wrong_type ≡ coordinate_kinds shape.any_number (pick number_shape x)
third-kinds {p} {x} w = ap (λ k. unless (is_number k) wrong_type) (whole-kind w) ∙ third-tree x

-- one fault
pub measured_broken : (q : Field) (most n kind : ℕ) (x : Picked) (found : Option Fault) (o : CoordinateFound) → range_kinds most x ≡ kind ∷ []
    → found ≡ fault_at q n kind → o ≡ record { least = found; value = 0 } → FindsCoordinate q most n x o
measured_broken q most n kind x found o h f e =
    rw e
    record { least = f ∙ sym (ap (λ ks. least_found q (found_at n ks)) h ∙ least-one q n kind); value = λ z. none_is (sym z ∙ f) }

-- what is no number
other-kinds : (most : ℕ) (x : Json) → is_number (kind_of x) ≡ false → range_kinds most (pick number_shape x) ≡ wrong_type ∷ []
unfolding pick
other-kinds most tree.null e = refl
other-kinds most (tree.boolean b) e = refl
other-kinds most (tree.number s) e = let z : ◌≡◌ {A = ℕ} 0 1 = cc in absurd (omega arith)
other-kinds most (tree.string s) e = refl
other-kinds most (tree.array is) e = refl
other-kinds most (tree.object ms) e = refl

pub no_number : (most : ℕ) {p : List ℕ} {x : Json} → Whole p x → is_number (kind_at p) ≡ false → range_kinds most (pick number_shape x) ≡ wrong_type ∷ []
no_number most {p} {x} w e = other-kinds most x (ap is_number (sym (whole-kind w)) ∙ e)

-- a number is picked with its spelling
pub number-picked : {p : List ℕ} {x : Json} → Whole p x → is_number (kind_at p) ≡ true → pick number_shape x ≡ bare (tree.number p)
unfolding pick
number-picked {p} {x} w e = go x w (ap is_number (sym (whole-kind w)) ∙ e)
  where
    other : {A : Type 0} → false ≡ true → A
    other f = let z : ◌≡◌ {A = ℕ} 0 1 = cc in absurd (omega arith)

    go : (y : Json) → Whole p y → is_number (kind_of y) ≡ true → pick number_shape y ≡ bare (tree.number p)
    go tree.null v f = other f
    go (tree.boolean b) v f = other f
    go (tree.number s) v f = ap (λ (t : List ℕ). bare (tree.number t)) (whole-number v)
    go (tree.string s) v f = other f
    go (tree.array is) v f = other f
    go (tree.object ms) v f = other f

-- a number that was moved up by h is at most h above it
up_to : (a h b : ℕ) → nat_abs (difference a h) ≤ b → a ≤ h + b
up_to a h b e = go (dec_le h a)
  where
    go : Dec (h ≤ a) → a ≤ h + b
    go (yes l) = let k : nat_abs (difference a h) ≡ a - h = ap nat_abs (difference_up a h l) in omega arith
    go (no n) = omega (arith, n)

-- so a coordinate in the range is at most twice its half
pub inside-upto : (most v : ℕ) (d : Decimal) → in_range most d ≡ true → difference v (most * 1_000_000) ≡ millionths d → v ≤ most * 2_000_000
inside-upto most v d f g =
    let k : nat_abs (difference v (most * 1_000_000)) ≤ most * 1_000_000 = rw g (millionths-within most d f) in
    let q = up_to v (most * 1_000_000) (most * 1_000_000) k in
    omega arith

module _ (most : ℕ) {p : List ℕ} {x : Json} (w : Whole p x) (e : is_number (kind_at p) ≡ true) where
  pub unformed-kinds : number_of p ≡ None → range_kinds most (pick number_shape x) ≡ number_form ∷ []
  unfolding formed_kinds
  unformed-kinds h = ap (range_kinds most) (number-picked w e) ∙ ap (formed_kinds (in_range most)) h

  module _ (d : Decimal) (h : number_of p ≡ Some d) where
    pub outside-kinds : in_range most d ≡ false → range_kinds most (pick number_shape x) ≡ out_of_range ∷ []
    unfolding formed_kinds
    outside-kinds f = ap (range_kinds most) (number-picked w e) ∙ ap (formed_kinds (in_range most)) h ∙ ap (λ t. unless t out_of_range) f

    pub measured_inside : (q : Field) (n v : ℕ) → in_range most d ≡ true → difference v (most * 1_000_000) ≡ millionths d
        → FindsCoordinate q most n (pick number_shape x) (record { least = None; value = v })
    unfolding formed_kinds
    measured_inside q n v f g =
        subst (λ (y : Picked). FindsCoordinate q most n y (record { least = None; value = v })) (sym (number-picked w e)) (
        record {
          least = sym (ap (λ ks. least_found q (found_at n ks)) (ap (formed_kinds (in_range most)) h ∙ ap (λ t. unless t out_of_range) f) ∙ least-empty q n);
          value = λ z. g ∙ sym (ap in_millionths h);
        }
        )
