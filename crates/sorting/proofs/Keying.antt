-- Keys behind a front that all ids have in common tell the order of two ids where they differ. That holds of the ids in any order, so the keys may be moved
-- with them.
use mathlib.Core.List.{List}
use mathlib.Core.Path.{◌≡◌, refl, sym, ap, subst, ◌∙◌}
use Prim.Native.Nat.{ℕ, ◌≤◌, ◌<◌}
use native.Mathlib.Omega.{arith}
use lib.Dec.{leb, ltb}
use lib.ListN.{length, take, drop, get_or}
use borrow.Author.Tests.{lt-ltb, le-ltb, le-leb, lt-leb, leb-true, leb-false, ltb-true, ltb-false}
use Rattle.notation.proofs.Booleans.{by_test}
use Rattle.text.specs.Ordering.{order_of}
use Rattle.text.specs.inner.Key.{key_of, Bytes}
use Rattle.text.proofs.Keys.{key_less}
use Rattle.text.proofs.Ordered.{turned, equal_less, greater_less, less_greater, equal_greater, order-turned}
use Rattle.sorting.specs.inner.Keys.{Keyed, Telling, key_order, by_keys}
use Rattle.std.specs.Cmp.{nat_cmp_is}
use Rattle.std.specs.Ordering.{nat_cmp}
use Rattle.std.specs.declared.cmp.Ordering.{Ordering}
use Rattle.std.specs.declared.cmp.Ordering.TheVariants.{Less, Equal, Greater}

module _ {ids : ℕ → List ℕ} {n skip : ℕ} {keys : List ℕ} (w : Keyed ids n skip keys) where
  pub keyed_telling : Telling ids n keys
  keyed_telling i j g h l =
      key_less (ids i) (ids j) skip (w.bytes i g) (w.bytes j h) (w.front i j g h)
      (subst (λ x. x < key_of (drop skip (ids j))) (w.key i g) (subst (λ x. get_or keys i 0 < x) (w.key j h) l))

  -- other ids that are the same
  pub keyed-alike : {others : ℕ → List ℕ} → ((k : ℕ) → k < n → ids k ≡ others k) → Keyed others n skip keys
  keyed-alike {others} f =
      record {
        front = λ i j g h. ap (take skip) (sym (f i g)) ∙ w.front i j g h ∙ ap (take skip) (f j h);
        bytes = λ k h. subst Bytes (f k h) (w.bytes k h);
        key = λ k h. w.key k h ∙ ap (λ x. key_of (drop skip x)) (f k h);
      }

  -- the ids in another order
  pub keyed-moved : {moved : List ℕ} (order : ℕ → ℕ) → ((i : ℕ) → i < n → order i < n) → ((i : ℕ) → i < n → get_or moved i 0 ≡ get_or keys (order i) 0)
      → Keyed (λ i. ids (order i)) n skip moved
  keyed-moved order f e =
      record {
        front = λ i j g h. w.front (order i) (order j) (f i g) (f j h);
        bytes = λ k h. w.bytes (order k) (f k h);
        key = λ k h. e k h ∙ w.key (order k) (f k h);
      }

-- what the keys of two records say
module _ (keys : List ℕ) (i j : ℕ) where
  pub say_first : length keys ≤ i → Equal ≡ key_order keys i j
  unfolding key_order
  say_first h = rw (key_order, le-leb (length keys) i h)

  module _ (g : i < length keys) where
    pub say_second : length keys ≤ j → Equal ≡ key_order keys i j
    unfolding key_order
    say_second h = rw (key_order, lt-leb (length keys) i g, le-leb (length keys) j h)

    module _ (h : j < length keys) where
      pub say_less : get_or keys i 0 < get_or keys j 0 → Less ≡ key_order keys i j
      unfolding key_order
      say_less l = rw (key_order, lt-leb (length keys) i g, lt-leb (length keys) j h, lt-ltb (get_or keys i 0) (get_or keys j 0) l)

      pub say_greater : get_or keys j 0 < get_or keys i 0 → Greater ≡ key_order keys i j
      unfolding key_order
      say_greater l =
          let m : get_or keys j 0 ≤ get_or keys i 0 = omega arith in
          rw (key_order, lt-leb (length keys) i g, lt-leb (length keys) j h, le-ltb (get_or keys i 0) (get_or keys j 0) m, lt-ltb (get_or keys j 0) (get_or keys i 0) l)

      pub say_nothing : get_or keys j 0 ≤ get_or keys i 0 → get_or keys i 0 ≤ get_or keys j 0 → Equal ≡ key_order keys i j
      unfolding key_order
      say_nothing l m =
          rw (key_order, lt-leb (length keys) i g, lt-leb (length keys) j h, le-ltb (get_or keys i 0) (get_or keys j 0) l, le-ltb (get_or keys j 0) (get_or keys i 0) m)

  -- so they say it
  said : {A : Type 0} → (key_order keys i j ≡ Equal → A) → (i < length keys → j < length keys → get_or keys i 0 < get_or keys j 0 → A) → (i < length keys → j < length keys → get_or keys j 0 < get_or keys i 0 → A) → A
  said none less more =
      by_test (leb (length keys) i) (λ t. none (sym (say_first (leb-true (length keys) i t)))) λ t.
      let g = leb-false (length keys) i t in
      by_test (leb (length keys) j) (λ s. none (sym (say_second g (leb-true (length keys) j s)))) λ s.
      let h = leb-false (length keys) j s in
      by_test (ltb (get_or keys i 0) (get_or keys j 0)) (λ l. less g h (ltb-true (get_or keys i 0) (get_or keys j 0) l)) λ l.
      by_test (ltb (get_or keys j 0) (get_or keys i 0)) (λ m. more g h (ltb-true (get_or keys j 0) (get_or keys i 0) m)) λ m.
      none (sym (say_nothing g h (ltb-false (get_or keys i 0) (get_or keys j 0) l) (ltb-false (get_or keys j 0) (get_or keys i 0) m)))

  module _ (ids : ℕ → List ℕ) (w : Telling ids (length keys) keys) where
    pub told_less : key_order keys i j ≡ Less → order_of (ids i) (ids j) ≡ Less
    told_less e =
        said (λ f. equal_less (sym f ∙ e)) (λ g h l. w i j g h l) λ g h l. greater_less (say_greater g h l ∙ e)

    pub told_greater : key_order keys i j ≡ Greater → order_of (ids i) (ids j) ≡ Greater
    told_greater e =
        said (λ f. equal_greater (sym f ∙ e)) (λ g h l. less_greater (say_less g h l ∙ e))
        λ g h l. order-turned (ids j) (ids i) ∙ ap turned (w j i h g l)

-- how an id stands to one that is wanted
module _ (ids : ℕ → List ℕ) (keys id : List ℕ) (wanted i : ℕ) where
  pub by-key_less : get_or keys i 0 < wanted → by_keys ids keys id wanted i ≡ Less
  unfolding by_keys
  by-key_less h = rw (by_keys, lt-ltb (get_or keys i 0) wanted h)

  pub by-key_greater : wanted < get_or keys i 0 → by_keys ids keys id wanted i ≡ Greater
  unfolding by_keys
  by-key_greater h = let l : wanted ≤ get_or keys i 0 = omega arith in rw (by_keys, le-ltb (get_or keys i 0) wanted l, lt-ltb wanted (get_or keys i 0) h)

  pub by-key-same : get_or keys i 0 ≡ wanted → by_keys ids keys id wanted i ≡ order_of (ids i) id
  unfolding by_keys
  by-key-same e =
      let l : wanted ≤ get_or keys i 0 = omega arith in let m : get_or keys i 0 ≤ wanted = omega arith in
      rw (by_keys, le-ltb (get_or keys i 0) wanted l, le-ltb wanted (get_or keys i 0) m)

  pub by_key : {A : Type 0} → (get_or keys i 0 < wanted → A) → (get_or keys i 0 ≡ wanted → A) → (wanted < get_or keys i 0 → A) → A
  by_key f g h =
      by_test (ltb (get_or keys i 0) wanted) (λ t. f (ltb-true (get_or keys i 0) wanted t)) λ t.
      by_test (ltb wanted (get_or keys i 0)) (λ s. h (ltb-true wanted (get_or keys i 0) s)) λ s. g (same (ltb-false (get_or keys i 0) wanted t) (ltb-false wanted (get_or keys i 0) s))
    where
      same : wanted ≤ get_or keys i 0 → get_or keys i 0 ≤ wanted → get_or keys i 0 ≡ wanted
      same l m = omega arith

-- the code's comparison of two keys says so
pub say_both : (keys : List ℕ) (i j : ℕ) → i < length keys → j < length keys → nat_cmp (get_or keys i 0) (get_or keys j 0) ≡ key_order keys i j
say_both keys i j g h =
    let x = get_or keys i 0 in let y = get_or keys j 0 in
    by_test (ltb x y) (λ t. let l = ltb-true x y t in sym (nat_cmp_is x y Less l) ∙ say_less keys i j g h l) λ t.
    by_test (ltb y x) (λ u. let l = ltb-true y x u in sym (nat_cmp_is x y Greater l) ∙ say_greater keys i j g h l) λ u.
    let a = ltb-false x y t in let b = ltb-false y x u in
    sym (nat_cmp_is x y Equal (omega arith)) ∙ say_nothing keys i j g h a b

pub ruleset say_rules = (say_first, say_second, say_both)

-- where the keys tell, they tell the order of the ids
pub told : (keys : List ℕ) (i j : ℕ) (ids : ℕ → List ℕ) → Telling ids (length keys) keys → (o : Ordering) → o ≡ key_order keys i j → (o ≡ Equal → ⊥)
    → o ≡ order_of (ids i) (ids j)
told keys i j ids t Less e n = sym (told_less keys i j ids t (sym e))
told keys i j ids t Equal e n = absurd (n refl)
told keys i j ids t Greater e n = sym (told_greater keys i j ids t (sym e))
