-- Demand 2 on zones. The definition takes the rules of the zones that count and hold the point, and of these the ones for the type: these are, of all rules in
-- file order, the ones that apply, since a polygon is found to hold a point exactly where one does. So a value that is first among them is first
-- among all that apply.
use mathlib.Core.Bool.{Bool, true, false}
use mathlib.Core.List.Memᴰ
use mathlib.Core.List.{List, [], ◌∷◌, ◌++◌, map, Memᴰ}
use mathlib.Core.Logic.{⊎_elim}
use mathlib.Core.Path.{◌≡◌, refl, sym, ap, subst, ◌∙◌}
use Prim.Native.Nat.{ℕ}
use native.Mathlib.Omega.{arith}
use Rattle.notation.specs.Choice.{◌⇒◌else◌, ◌and◌}
use Rattle.notation.proofs.Booleans.{by_test, true-false, and_left, and_right}
use Rattle.word.specs.Word.{no_parts}
use Rattle.schema.specs.Shape.{Table}
use Rattle.schema.specs.Pick.{Picked, elements}
use Rattle.document.specs.Document.{field, field_items, spelling, truth, given}
use Rattle.geometry.specs.Ring.{Point}
use Rattle.geometry.specs.Held.{on_ring, odd, side_of, holds, on_any, in_any, polygon_holds}
use Rattle.geometry.proofs.Any.{any-one, one-any}
use Rattle.geometry.proofs.Polygon.{edge-held}
use Rattle.clean.specs.Clean.{clean_of}
use Rattle.std.specs.Option.{option_or}
use Rattle.zone.specs.Zone.{outline, counts, rings_hold, polygons_hold_by, polygons_hold, polygons_of, applies, zone_rules_by, zone_rules, rules_by, rules, applicable, zones_of, rules_at, first_given}
use Rattle.zone.specs.Answer.{Answer, refused, found, rule_of, values, on_map, of_rules, of_clean, ruling_of}
use Rattle.verdict.specs.Demand2.{ZoneRule, every_rule, rules_in, HeldBy, on_edge, by_first, Holding, Applies, FirstWith, here, later, NoneWith, Giving, FirstValue, by, by_none, Together}
use Rattle.fault.specs.Outcome.{Outcome, unbroken}
use Rattle.std.specs.Prelude.{Err, Ok, Option, None, Some}

-- a polygon's tests, in their order: on the first ring, on more of them, inside a further one, on the first one's side
choose_first : (on more cut side : Bool) → (on ⇒ true else side) ≡ true → cut ≡ false → ((on ⇒ true else more) ⇒ true else cut ⇒ false else side) ≡ true
choose_first true more cut side e f = refl
choose_first false true cut side e f = refl
choose_first false false cut side e f = ap (λ (b : Bool). b ⇒ false else side) f ∙ e

first_chosen : (on more cut side : Bool) → (on ⇒ true else more) ≡ false → ((on ⇒ true else more) ⇒ true else cut ⇒ false else side) ≡ true
    → ((on ⇒ true else side) ≡ true) × (cut ≡ false)
first_chosen true more cut side f e = true-false refl f
first_chosen false true cut side f e = true-false refl f
first_chosen false false true side f e = true-false e refl
first_chosen false false false side f e = (e, refl)

module _ (q : Point) where
  -- of the rings of a polygon: one has the point on an edge, or has it inside, exactly where that is found
  abbrev on_one : List Picked → Bool
  on_one l = on_any (map outline l) q

  abbrev in_one : List Picked → Bool
  in_one l = in_any (map outline l) q

  on_one_lem : (l : List Picked) → on_one l ≡ true → (r : Picked) × Memᴰ r l × (on_ring (outline r) q ≡ true)
  unfolding on_any
  on_one_lem = any-one (λ r. on_ring (outline r) q) on_one refl (λ r l. refl)

  one_on : (l : List Picked) (r : Picked) → Memᴰ r l → on_ring (outline r) q ≡ true → on_one l ≡ true
  unfolding on_any
  one_on = one-any (λ r. on_ring (outline r) q) on_one refl (λ r l. refl)

  in_one_lem : (l : List Picked) → in_one l ≡ true → (r : Picked) × Memᴰ r l × (odd (outline r) q ≡ true)
  unfolding in_any
  in_one_lem = any-one (λ r. odd (outline r) q) in_one refl (λ r l. refl)

  one_in : (l : List Picked) (r : Picked) → Memᴰ r l → odd (outline r) q ≡ true → in_one l ≡ true
  unfolding in_any
  one_in = one-any (λ r. odd (outline r) q) in_one refl (λ r l. refl)

  rings-by : (l : List Picked) → rings_hold l q ≡ true → HeldBy q l
  unfolding rings_hold polygon_holds on_any holds
  rings-by [] e = true-false e refl
  rings-by (r ∷ rs) e =
      by_test (on_one (r ∷ rs))
      (λ t. let o = on_one_lem (r ∷ rs) t in on_edge o.0 o.1 o.2)
      (λ f.
      let c = first_chosen (on_ring (outline r) q) (on_one rs) (in_one rs) (side_of (outline r) q) f e in
      by_first c.0 (λ h m. by_test (odd (outline h) q) (λ t. true-false (one_in rs h m t) c.1) (λ n. n)))

  by-rings : {l : List Picked} → HeldBy q l → rings_hold l q ≡ true
  unfolding rings_hold polygon_holds on_any holds
  by-rings {l} (on_edge r m e) = edge-held side_of q (map outline l) (one_on l r m e)
  by-rings (by_first {r} {holes} e n) =
      choose_first (on_ring (outline r) q) (on_one holes) (in_one holes) (side_of (outline r) q) e
      (by_test (in_one holes) (λ t. let o = in_one_lem holes t in true-false o.2 (n o.0 o.1)) (λ f. f))

  abbrev in_polygon : Picked → Bool
  in_polygon p = rings_hold (elements p) q

  held-holding : (z : Picked) → polygons_hold (polygons_of z) q ≡ true → Holding z q
  unfolding polygons_hold_by
  held-holding z e =
      let p = any-one in_polygon (λ l. polygons_hold l q) refl (λ x l. refl) (polygons_of z) e in
      record { polygon = p.0; of_zone = p.1; held = rings-by (elements p.0) p.2 }

  holding-held : (z : Picked) → Holding z q → polygons_hold (polygons_of z) q ≡ true
  unfolding polygons_hold_by
  holding-held z h =
      one-any in_polygon (λ l. polygons_hold l q) refl (λ x l. refl) (polygons_of z) h.polygon h.of_zone (by-rings h.held)

-- what is first has the property, and stands in the list
module _ {A : Type 0} {P : A → Type 0} where
  first-has : {x : A} {l : List A} → FirstWith P x l → P x
  first-has (here h) = h
  first-has (later n f) = first-has f

  first-stands : {x : A} {l : List A} → FirstWith P x l → Memᴰ x l
  first-stands (here h) = Memᴰ.head refl
  first-stands (later n f) = Memᴰ.tail (first-stands f)

  -- and there is but one
  first-only : {x y : A} {l : List A} → FirstWith P x l → FirstWith P y l → x ≡ y
  first-only (here h) (here k) = refl
  first-only (here h) (later n g) = absurd (n h)
  first-only (later n f) (here k) = absurd (n k)
  first-only (later n f) (later k g) = first-only f g

  -- one that has it not may stand before
  none_behind : {y : A} {l : List A} → (P y → ⊥) → NoneWith P l → NoneWith P (y ∷ l)
  none_behind {y} {l} n h x m p = ⊎_elim (λ (e : x ≡ y). n (subst P e p)) (λ (k : Memᴰ x l). h x k p) (Memᴰ.cases_cons m)

-- a value by the first rule that gives it
module _ {A : Type 0} {value : Picked → Option A} {P : ZoneRule → Type 0} where
  -- is one value
  value-only : {l : List ZoneRule} {a b : Option A} → FirstValue value P l a → FirstValue value P l b → a ≡ b
  value-only (by r f) (by x g) = ap (λ (z : ZoneRule). value z.rule) (first-only f g)
  value-only (by r f) (by_none n) = absurd (n r (first-stands f) (first-has f))
  value-only (by_none n) (by x g) = absurd (n x (first-stands g) (first-has g))
  value-only (by_none n) (by_none k) = refl

  value_behind : {y : ZoneRule} {l : List ZoneRule} {a : Option A} → (Giving value P y → ⊥) → FirstValue value P l a → FirstValue value P (y ∷ l) a
  value_behind n (by r f) = by r (later n f)
  value_behind n (by_none h) = by_none (none_behind n h)

  -- of a rule that has the property, and the values behind it
  value-here : (y : ZoneRule) {l : List ZoneRule} {a : Option A} → P y → FirstValue value P l a
      → FirstValue value P (y ∷ l) (option_or (value y.rule) a)
  value-here y {l} {a} p v = go (value y.rule) refl
    where
      go : (m : Option A) → value y.rule ≡ m → FirstValue value P (y ∷ l) (option_or m a)
      go None e = value_behind (λ g. true-false g.1 (ap given e)) v
      go (Some x) e = subst (FirstValue value P (y ∷ l)) e (by y (here (p, ap given e)))

module _ (q : Point) (type : List ℕ) (moment : ℕ) where
  abbrev Apply : ZoneRule → Type 0
  Apply r = Applies q type moment r

  -- the rules of a list that apply, and no others
  data Applying : List ZoneRule → List Picked → Type 0 where
    end : Applying [] []
    taken : {y : ZoneRule} {l : List ZoneRule} {k : List Picked} → Apply y → Applying l k → Applying (y ∷ l) (y.rule ∷ k)
    passed : {y : ZoneRule} {l : List ZoneRule} {k : List Picked} → (Apply y → ⊥) → Applying l k → Applying (y ∷ l) k

  -- where there are none, none applies; where there are some, one does
  none-applies : {l : List ZoneRule} → Applying l [] → NoneWith Apply l
  none-applies end = λ x m p. Memᴰ.not-nil m
  none-applies (passed n o) = none_behind n (none-applies o)

  one-applies : {l : List ZoneRule} {x : Picked} {k : List Picked} → Applying l (x ∷ k) → (r : ZoneRule) × Memᴰ r l × Apply r
  one-applies (taken {y} p o) = (y, Memᴰ.head refl, p)
  one-applies (passed n o) = let r = one-applies o in (r.0, Memᴰ.tail r.1, r.2)

  -- a value that is first among them is first among all that apply
  first-value : {A : Type 0} (value : Picked → Option A) {l : List ZoneRule} {k : List Picked} → Applying l k → FirstValue value Apply l (first_given value k)
  unfolding first_given
  first-value value end = by_none (λ x m p. Memᴰ.not-nil m)
  first-value value (taken {y} p o) = value-here y p (first-value value o)
  first-value value (passed n o) = value_behind (λ g. n g.0) (first-value value o)

  applicable-here : (r : Picked) (rs : List Picked) → applies r type ≡ true → applicable (r ∷ rs) type ≡ r ∷ applicable rs type
  unfolding applicable
  applicable-here r rs t = rw t

  applicable-next : (r : Picked) (rs : List Picked) → applies r type ≡ false → applicable (r ∷ rs) type ≡ applicable rs type
  unfolding applicable
  applicable-next r rs f = rw f

  -- the rules of one zone, before those of the others
  module _ (z p : Picked) where
    abbrev in_zone : Picked → ZoneRule
    in_zone r = record { zone = z; properties = p; rule = r }

    none_of : (rs : List Picked) {l : List ZoneRule} {k : List Picked} → ((r : Picked) → Apply (in_zone r) → ⊥) → Applying l k → Applying (map in_zone rs ++ l) k
    none_of [] n o = o
    none_of (r ∷ rs) n o = passed (n r) (none_of rs n o)

    some_of : Holding z q → counts p moment ≡ true → (rs : List Picked) {l : List ZoneRule} (others : List Picked) → Applying l (applicable others type)
        → Applying (map in_zone rs ++ l) (applicable (rs ++ others) type)
    some_of h c [] others o = o
    some_of h c (r ∷ rs) {l} others o =
        let ih = some_of h c rs others o in
        by_test (applies r type)
        (λ t. subst (Applying (in_zone r ∷ (map in_zone rs ++ l))) (sym (applicable-here r (rs ++ others) t)) (taken {y = in_zone r} (record { holding = h; counting = c; naming = t }) ih))
        (λ f. subst (Applying (in_zone r ∷ (map in_zone rs ++ l))) (sym (applicable-next r (rs ++ others) f)) (passed {y = in_zone r} (λ a. true-false a.naming f) ih))

  -- one zone and the others
  module _ (z : Picked) (zs : List Picked) where
    every_none : field 74 z ≡ None → every_rule (z ∷ zs) ≡ every_rule zs
    unfolding every_rule
    every_none e = rw (e, every_rule)

    every_some : (p : Picked) → field 74 z ≡ Some p → every_rule (z ∷ zs) ≡ map (in_zone z p) (field_items 77 p) ++ every_rule zs
    unfolding every_rule
    every_some p e = rw (e, every_rule)

    rules-none : field 74 z ≡ None → rules (z ∷ zs) q moment ≡ rules zs q moment
    unfolding rules_by zone_rules_by
    rules-none e = let k : zone_rules z q moment ≡ [] = rw (e, zone_rules_by) in ap (λ (l : List Picked). l ++ rules zs q moment) k

    module _ (p : Picked) (e : field 74 z ≡ Some p) where
      abbrev holding : Bool
      holding = counts p moment and polygons_hold (polygons_of z) q

      rules-some : zone_rules z q moment ≡ (holding ⇒ field_items 77 p else [])
      unfolding zone_rules_by
      rules-some = rw (e, zone_rules_by)

      rules-held : holding ≡ true → rules (z ∷ zs) q moment ≡ field_items 77 p ++ rules zs q moment
      unfolding rules_by
      rules-held t = ap (λ (l : List Picked). l ++ rules zs q moment) (rules-some ∙ ap (λ (b : Bool). b ⇒ field_items 77 p else []) t)

      rules-other : holding ≡ false → rules (z ∷ zs) q moment ≡ rules zs q moment
      unfolding rules_by
      rules-other f = ap (λ (l : List Picked). l ++ rules zs q moment) (rules-some ∙ ap (λ (b : Bool). b ⇒ field_items 77 p else []) f)

    applying_as : {l : List ZoneRule} {rs : List Picked} → every_rule (z ∷ zs) ≡ l → rules (z ∷ zs) q moment ≡ rs → Applying l (applicable rs type)
        → Applying (every_rule (z ∷ zs)) (applicable (rules (z ∷ zs) q moment) type)
    applying_as {l} e f o =
        subst (λ k. Applying k (applicable (rules (z ∷ zs) q moment) type)) (sym e) (subst (λ k. Applying l (applicable k type)) (sym f) o)

  both : (a b : Bool) → a ≡ true → b ≡ true → (a and b) ≡ true
  both true b e f = f
  both false b e f = true-false e refl

  applying : (zs : List Picked) → Applying (every_rule zs) (applicable (rules zs q moment) type)
  unfolding every_rule rules_by applicable
  applying [] = end
  applying (z ∷ zs) = go (field 74 z) refl (applying zs)
    where
      go : (f : Option Picked) → field 74 z ≡ f → Applying (every_rule zs) (applicable (rules zs q moment) type)
          → Applying (every_rule (z ∷ zs)) (applicable (rules (z ∷ zs) q moment) type)
      go None e ih = applying_as z zs (every_none z zs e) (rules-none z zs e) ih
      go (Some p) e ih =
          let held = polygons_hold (polygons_of z) q in
          by_test (counts p moment and held)
          (λ t.
          applying_as z zs (every_some z zs p e) (rules-held z zs p e t)
          (some_of z p (held-holding q z (and_right (counts p moment) held t)) (and_left (counts p moment) held t) (field_items 77 p) (rules zs q moment) ih))
          (λ f.
          applying_as z zs (every_some z zs p e) (rules-other z zs p e f)
          (none_of z p (field_items 77 p) (λ r a. true-false (both (counts p moment) held a.counting (holding-held q z a.holding)) f) ih))

  -- what a zone question asks, in order
  abbrev asked : Bool → Outcome → List Picked → Answer
  asked t c k = t ⇒ of_clean c (of_rules k) else refused 8 no_parts

  -- the values of the rules that apply
  together : {l : List ZoneRule} {x : Picked} {k : List Picked} → Applying l (x ∷ k) → Together Apply l
  together {x} {k} o =
      let r = one-applies o in
      record {
        one = r.0;
        stands = r.1;
        has = r.2;
        ride = first_given (truth 79) (x ∷ k);
        through = first_given (truth 80) (x ∷ k);
        speed = first_given (spelling 81) (x ∷ k);
        parking = first_given (truth 82) (x ∷ k);
        ride_by = first-value (truth 79) o;
        through_by = first-value (truth 80) o;
        speed_by = first-value (spelling 81) o;
        parking_by = first-value (truth 82) o;
      }

  -- are the only ones that are given together
  together-only : {l : List ZoneRule} {k : List Picked} → Applying l k → (g : Together Apply l) → values k ≡ rule_of g.ride g.through g.speed g.parking
  unfolding values
  together-only o g =
      rw (
        value-only (first-value (truth 79) o) g.ride_by,
        value-only (first-value (truth 80) o) g.through_by,
        value-only (first-value (spelling 81) o) g.speed_by,
        value-only (first-value (truth 82) o) g.parking_by,
      )
      refl

  module _ (t : Table) (s : List ℕ) where
    abbrev those : List Picked
    those = rules_at t s q type moment

    listed : Applying (rules_in t s) those
    unfolding rules_at
    listed = applying (zones_of t s)

    in_order_lem : ruling_of t s q type moment ≡ asked (on_map q) (clean_of t 6 s) those
    unfolding ruling_of
    in_order_lem = refl

    pub together-there : (r : ZoneRule) → Memᴰ r (rules_in t s) → Apply r → Together Apply (rules_in t s)
    together-there r m a = go those listed
      where
        go : (k : List Picked) → Applying (rules_in t s) k → Together Apply (rules_in t s)
        go [] o = absurd (none-applies o r m a)
        go (x ∷ k) o = together o

    answered : on_map q ≡ true → clean_of t 6 s ≡ unbroken → ruling_of t s q type moment ≡ of_rules those
    answered h c = in_order_lem ∙ rw (h, c)

    pub rule : on_map q ≡ true → clean_of t 6 s ≡ unbroken → (g : Together Apply (rules_in t s))
        → ruling_of t s q type moment ≡ found (rule_of g.ride g.through g.speed g.parking)
    rule h c g = answered h c ∙ go those listed
      where
        go : (k : List Picked) → Applying (rules_in t s) k → of_rules k ≡ found (rule_of g.ride g.through g.speed g.parking)
        go [] o = absurd (none-applies o g.one g.stands g.has)
        go (x ∷ k) o = ap found (together-only o g)

    pub no-rule : on_map q ≡ true → clean_of t 6 s ≡ unbroken → NoneWith Apply (rules_in t s) → ruling_of t s q type moment ≡ refused 9 no_parts
    no-rule h c n = answered h c ∙ go those listed
      where
        go : (k : List Picked) → Applying (rules_in t s) k → of_rules k ≡ refused 9 no_parts
        go [] o = refl
        go (x ∷ k) o = let r = one-applies o in absurd (n r.0 r.1 r.2)

    -- the number by what was asked
    numbered : {n : ℕ} → (ruling_of t s q type moment).number ≡ n → (asked (on_map q) (clean_of t 6 s) those).number ≡ n
    numbered e = ap (λ (a : Answer). a.number) (sym in_order_lem) ∙ e

    pub ruled : (ruling_of t s q type moment).number ≡ 0 → (on_map q ≡ true) × (clean_of t 6 s ≡ unbroken) × Together Apply (rules_in t s)
    ruled e = go (on_map q) (clean_of t 6 s) those listed (numbered e)
      where
        go : (on : Bool) (c : Outcome) (k : List Picked) → Applying (rules_in t s) k → (asked on c k).number ≡ 0
            → (on ≡ true) × (c ≡ unbroken) × Together Apply (rules_in t s)
        go false c k o i = absurd (omega arith)
        go true (Err p) k o i = absurd (omega arith)
        go true (Ok _) [] o i = absurd (omega arith)
        go true (Ok _) (x ∷ k) o i = (refl, refl, together o)

    pub unruled : (ruling_of t s q type moment).number ≡ 9 → (on_map q ≡ true) × (clean_of t 6 s ≡ unbroken) × NoneWith Apply (rules_in t s)
    unruled e = go (on_map q) (clean_of t 6 s) those listed (numbered e)
      where
        go : (on : Bool) (c : Outcome) (k : List Picked) → Applying (rules_in t s) k → (asked on c k).number ≡ 9
            → (on ≡ true) × (c ≡ unbroken) × NoneWith Apply (rules_in t s)
        go false c k o i = absurd (omega arith)
        go true (Err p) k o i = absurd (omega arith)
        go true (Ok _) [] o i = (refl, refl, none-applies o)
        go true (Ok _) (x ∷ k) o i = absurd (omega arith)
