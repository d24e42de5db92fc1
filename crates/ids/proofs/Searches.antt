-- The record in the middle of a search: by its key, or by the text of its id where the keys are the same. A record without an id comes before every id.
use mathlib.Core.List.{List, [], ◌∷◌}
use mathlib.Core.Path.{◌≡◌, refl, sym, subst, ◌∙◌}
use Prim.Native.Nat.{ℕ, ◌≤◌, ◌<◌}
use native.Mathlib.Omega.{arith}
use lib.ListN.{length, drop, get_or}
use Rattle.text.specs.Ordering.{order_of}
use Rattle.text.specs.inner.Key.{key_of}
use Rattle.text.proofs.Ordered.{order-short}
use Rattle.sorting.proofs.Keying.{by-key_less, by-key_greater, by-key-same}
use Rattle.ids.specs.inner.Notes.{skip_in, id_in_order}
use Rattle.ids.specs.inner.Known.{probe}
use Rattle.std.specs.declared.cmp.Ordering.{Ordering}
use Rattle.std.specs.declared.cmp.Ordering.TheVariants.{Less, Greater}

pub none_less : {x : List ℕ} (y : List ℕ) → x ≡ [] → 0 < length y → order_of x y ≡ Less
none_less [] e h = absurd (omega arith)
none_less {x} (b ∷ y) e h = order-short {y = b ∷ y} e refl

module _ (sheet : ℕ) (p notes id : List ℕ) (i : ℕ) {key wanted : ℕ} (k : key ≡ get_or notes i 0) (v : wanted ≡ key_of (drop (skip_in notes) id)) where
  pub probe_less : key < wanted → probe sheet p notes id i ≡ Less
  probe_less h = by-key_less (id_in_order sheet p) notes id _ i (subst (λ (x : ℕ). x < key_of (drop (skip_in notes) id)) k (subst (λ (x : ℕ). key < x) v h))

  pub probe_greater : wanted < key → probe sheet p notes id i ≡ Greater
  probe_greater h = by-key_greater (id_in_order sheet p) notes id _ i (subst (λ (x : ℕ). x < get_or notes i 0) v (subst (λ (x : ℕ). wanted < x) k h))

  pub probe-same : wanted ≤ key → key ≤ wanted → {o : Ordering} → order_of (id_in_order sheet p i) id ≡ o → probe sheet p notes id i ≡ o
  probe-same g h e = let z : key ≡ wanted = omega arith in by-key-same (id_in_order sheet p) notes id _ i (sym k ∙ z ∙ v) ∙ e
