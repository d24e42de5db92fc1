-- The search by keys finds an id among ids that are in order. An id that is met is compared in full. Where some position has the wanted id, that begins as all
-- ids do, so every key tells the order to it; and where none has it, nothing can be met, wherever the keys lead.
use mathlib.Core.List.{List}
use mathlib.Core.Path.{◌≡◌, sym, ap, subst, ◌∙◌}
use Prim.Native.Nat.{ℕ, ◌^◌, ◌<◌}
use native.Mathlib.Omega.{arith}
use lib.Dec.{ltb}
use lib.ListN.{drop, get_or}
use borrow.Author.Tests.{ltb-true, ltb-false}
use Rattle.notation.proofs.Booleans.{by_test}
use Rattle.text.specs.Ordering.{order_of}
use Rattle.text.specs.inner.Key.{key_of}
use Rattle.text.proofs.Ordered.{turned, less_equal, greater_equal, order-equal, order-turned}
use Rattle.sorting.specs.Search.{Finds}
use Rattle.sorting.specs.inner.Keys.{Keyed, by_keys}
use Rattle.sorting.specs.inner.Halves.{found_by, Ascending}
use Rattle.sorting.proofs.Halving.{found_here, found_some}
use Rattle.sorting.proofs.Keying.{keyed_telling, by_key, by-key_less, by-key_greater, by-key-same}
use Rattle.std.specs.declared.cmp.Ordering.TheVariants.{Less, Equal, Greater}

module _ {ids : ℕ → List ℕ} {n skip : ℕ} {keys : List ℕ} (up : Ascending ids n) (w : Keyed ids n skip keys) (id : List ℕ) (wanted : ℕ) where
  -- an id that is met
  met_same : (k : ℕ) → by_keys ids keys id wanted k ≡ Equal → ids k ≡ id
  met_same k e =
      by_key ids keys id wanted k (λ h. less_equal (sym (by-key_less ids keys id wanted k h) ∙ e))
      (λ h. order-equal (ids k) id (sym (by-key-same ids keys id wanted k h) ∙ e))
      λ h. greater_equal (sym (by-key_greater ids keys id wanted k h) ∙ e)

  module _ (is : wanted ≡ key_of (drop skip id)) (k : ℕ) (h : k < n) (e : ids k ≡ id) where
    wanted_key : get_or keys k 0 ≡ wanted
    wanted_key = w.key k h ∙ ap (λ x. key_of (drop skip x)) e ∙ sym is

    -- each other stands to it as its id does
    truly : (i : ℕ) → i < n → by_keys ids keys id wanted i ≡ order_of (ids i) id
    truly i g =
        by_key ids keys id wanted i
        (λ l. by-key_less ids keys id wanted i l ∙ sym (ap (order_of (ids i)) (sym e) ∙ keyed_telling w i k g h (subst (λ x. get_or keys i 0 < x) (sym wanted_key) l)))
        (λ l. by-key-same ids keys id wanted i l)
        λ l.
        by-key_greater ids keys id wanted i l
        ∙ sym (ap (order_of (ids i)) (sym e) ∙ order-turned (ids k) (ids i) ∙ ap turned (keyed_telling w k i h g (subst (λ x. x < get_or keys i 0) (sym wanted_key) l)))

    before : (i : ℕ) → i < n → by_keys ids keys id wanted i ≡ Less → i < k
    before i g f =
        by_test (ltb i k) (λ t. ltb-true i k t) λ t.
        absurd (up k i (ltb-false i k t) g (order-turned (ids i) (ids k) ∙ ap turned (ap (order_of (ids i)) e ∙ sym (truly i g) ∙ f)))

    after : (i : ℕ) → i < n → by_keys ids keys id wanted i ≡ Greater → k < i
    after i g f = by_test (ltb k i) (λ t. ltb-true k i t) λ t. absurd (up i k (ltb-false k i t) h (ap (order_of (ids i)) e ∙ sym (truly i g) ∙ f))

  pub finds_by-keys : wanted ≡ key_of (drop skip id) → n < 2 ^ 14 → Finds ids n id (found_by (by_keys ids keys id wanted) 14 0 n).met
  finds_by-keys is few =
      record {
        here = λ k e. let v = found_here (by_keys ids keys id wanted) 14 0 n k e in (v.0, met_same k v.1);
        none = λ e k h f.
            found_some (by_keys ids keys id wanted) k n (before is k h f) (after is k h f) 14 0 n (omega arith) (omega arith) (omega arith) h e;
      }
