-- A ring by what was read of it: its counts, its positions, and its area where all positions are sound. With more positions than a ring may
-- have kind 10 stands at the ring's number already, and kind 11 at the same number comes after it.
use mathlib.Core.Bool.{Bool, true, false}
use mathlib.Core.List.{List, [], ◌∷◌, ◌++◌, map, append-eq-nil_iff}
use mathlib.Core.Path.{◌≡◌, refl, sym, ap, ap₂, ◌∙◌}
use Prim.Native.Nat.{ℕ, ◌+◌, ◌≤◌, ◌<◌}
use native.Mathlib.Omega.{arith}
use lib.Dec.{leb}
use lib.ListN.{length}
use borrow.Author.Tests.{leb-true, leb-false, le-leb, lt-leb}
use Rattle.limits.specs.Ceilings.{positions}
use Rattle.notation.specs.Choice.{◌⇒◌else◌, ◌and◌}
use Rattle.word.specs.Kinds.{bad_ring, too_many}
use Rattle.geometry.specs.Ring.{sound}
use Rattle.geometry.specs.inner.Outline.{sound_from}
use Rattle.schema.specs.Pick.{Picked}
use Rattle.fault.specs.declared.Fault.{Fault}
use Rattle.fault.specs.Fault.{fault, lesser}
use Rattle.fault.proofs.Order.{later-kind}
use Rattle.fault.proofs.Leasts.{none_is, lesser-first, lesser-none, lesser_assoc}
use Rattle.scalar.specs.Scalars.{unless}
use Rattle.rings.specs.Rings.{found_at, position_kinds, position, no_kinds, all_sound, positions_found, ring_found}
use Rattle.rings.specs.inner.Parts.{fault_at, least_found, RingRead, area_least, ring_judged}
use Rattle.rings.specs.declared.Field.{Field}
use Rattle.rings.specs.declared.RingFound.{RingFound}
use Rattle.rings.proofs.Found.{at-nothing, least_append, least-of-none, least-nothing, least-one, least-empty}
use Rattle.std.specs.Prelude.{Option, None, Some}

-- all are sound just where nothing is found
pub sound-found : (n : ℕ) (l : List Picked) → all_sound l ≡ true → positions_found n l ≡ []
unfolding all_sound positions_found no_kinds found_at
sound-found n [] e = refl
sound-found n (x ∷ l) e = go (position_kinds x) e (sound-found (n + 1) l)
  where
    go : (ks : List ℕ) → (no_kinds ks and all_sound l) ≡ true → (all_sound l ≡ true → positions_found (n + 1) l ≡ []) → found_at n ks ++ positions_found (n + 1) l ≡ []
    go [] f ih = ih f
    go (k ∷ ks) f ih = let z : ◌≡◌ {A = ℕ} 0 1 = cc in absurd (omega arith)

pub found-sound : (n : ℕ) (l : List Picked) → positions_found n l ≡ [] → all_sound l ≡ true
unfolding all_sound positions_found no_kinds
found-sound n [] e = refl
found-sound n (x ∷ l) e =
    let b = (append-eq-nil_iff {p = found_at n (position_kinds x)}).0 e in
    ap (λ ks. no_kinds ks and all_sound l) (at-nothing n (position_kinds x) b.0) ∙ found-sound (n + 1) l b.1

-- the area
module _ (q : Field) (n : ℕ) (r : RingFound) where
  pub area_faulty : (f : Fault) → r.least ≡ Some f → None ≡ area_least q n r
  unfolding area_least
  area_faulty f e = rw e

  pub area_many : r.least ≡ None → positions < r.outline.count → None ≡ area_least q n r
  unfolding area_least
  area_many e h = rw (e, lt-leb r.outline.count positions h)

  pub area_asked : r.least ≡ None → r.outline.count ≤ positions
      → least_found q (found_at n (unless (sound_from r.outline []) bad_ring)) ≡ area_least q n r
  unfolding area_least
  area_asked e h = rw (e, le-leb r.outline.count positions h)

hidden : (q : Field) (n : ℕ) (t : Bool) → lesser (fault_at q n too_many) (least_found q (found_at n (unless t bad_ring))) ≡ fault_at q n too_many
hidden q n true = ap (lesser (fault_at q n too_many)) (least-empty q n) ∙ lesser-none (fault_at q n too_many)
hidden q n false =
    ap (lesser (fault_at q n too_many)) (least-one q n bad_ring)
    ∙ lesser-first _ _ (later-kind (fault q.«record» q.field n too_many) (fault q.«record» q.field n bad_ring) refl refl refl (omega arith))

module _ {q : Field} {n : ℕ} {l : List Picked} {r : RingFound} (h : RingRead q n l r) where
  abbrev few : Option Fault
  few = least_found q (found_at n (unless (leb 4 r.outline.count) bad_ring))

  abbrev many : Option Fault
  many = least_found q (found_at n (unless (leb r.outline.count positions) too_many))

  abbrev area : Option Fault
  area = least_found q (all_sound l ⇒ found_at n (unless (sound (map position l)) bad_ring) else [])

  -- where nothing is found they are sound
  all_sound_lem : r.least ≡ None → all_sound l ≡ true
  all_sound_lem e = found-sound n l (least-nothing q (positions_found n l) (sym h.least ∙ e))

  unsound : (f : Fault) → r.least ≡ Some f → area ≡ None
  unsound f e = go (all_sound l) refl
    where
      go : (t : Bool) → all_sound l ≡ t → least_found q (t ⇒ found_at n (unless (sound (map position l)) bad_ring) else []) ≡ None
      go true s = none_is (sym (h.least ∙ ap (least_found q) (sound-found n l s) ∙ least-of-none q) ∙ e)
      go false s = least-of-none q

  asked : r.least ≡ None → area ≡ least_found q (found_at n (unless (sound (map position l)) bad_ring))
  asked e = rw (all_sound_lem e)

  abbrev sofar : Option Fault
  sofar = lesser (lesser few many) r.least

  -- with what the code asks, and with what the definition has
  as_asked : lesser sofar (area_least q n r) ≡ lesser sofar area
  as_asked = go r.least refl (leb r.outline.count positions) refl
    where
      go : (f : Option Fault) → r.least ≡ f → (t : Bool) → leb r.outline.count positions ≡ t → lesser sofar (area_least q n r) ≡ lesser sofar area
      go (Some f) e t i = ap (lesser sofar) (sym (area_faulty q n r f e) ∙ sym (unsound f e))
      go None e true i =
          let c : r.outline.count ≤ positions = leb-true r.outline.count positions i in
          let same = h.sound (all_sound_lem e) (omega (arith, h.count)) in
          ap (lesser sofar) (sym (area_asked q n r e c) ∙ ap (λ (t : Bool). least_found q (found_at n (unless t bad_ring))) same ∙ sym (asked e))
      go None e false i =
          let base : sofar ≡ lesser few (fault_at q n too_many) =
          ap (lesser (lesser few many)) e ∙ lesser-none (lesser few many)
          ∙ ap (lesser few) (ap (λ t. least_found q (found_at n (unless t too_many))) i ∙ least-one q n too_many) in
          ap₂ lesser base (sym (area_many q n r e (leb-false r.outline.count positions i))) ∙ lesser-none (lesser few (fault_at q n too_many))
          ∙ sym (ap₂ lesser base (asked e) ∙ lesser_assoc few (fault_at q n too_many) _ ∙ ap (lesser few) (hidden q n (sound (map position l))))

  pub ring-found : lesser (lesser (lesser few many) r.least) (area_least q n r) ≡ least_found q (ring_found n l)
  unfolding ring_found
  ring-found =
      let c = sym h.count in
      as_asked
      ∙ sym (least_append q _ _ ∙ ap (λ z. lesser z area) (least_append q _ (positions_found n l)
      ∙ ap₂ lesser (least_append q _ _ ∙ ap₂ lesser (ap (λ k. least_found q (found_at n (unless (leb 4 k) bad_ring))) c)
      (ap (λ k. least_found q (found_at n (unless (leb k positions) too_many))) c)) (sym h.least)))

  pub ring-judged : (found : Option Fault) → found ≡ lesser (lesser (lesser few many) r.least) (area_least q n r)
      → record { items = r.outline.count; positions = r.outline.count; least = found } ≡ ring_judged q n l
  ring-judged found e = let f = e ∙ ring-found in λ i. record { items = h.count i; positions = h.count i; least = f i }

-- a ring in which nothing is found
pub record Clean (l : List Picked) : Type 0 where
  pub least : 4 ≤ length l
  pub most : length l ≤ positions
  pub each : all_sound l ≡ true
  pub whole : sound (map position l) ≡ true

held : (n k : ℕ) (t : Bool) → found_at n (unless t k) ≡ [] → t ≡ true
held n k true e = refl
held n k false e = let f = at-nothing n (k ∷ []) e in let z : ◌≡◌ {A = ℕ} 0 1 = cc in absurd (omega arith)

pub clean-ring : (n : ℕ) (l : List Picked) → ring_found n l ≡ [] → Clean l
unfolding ring_found
clean-ring n l e =
    let few = found_at n (unless (leb 4 (length l)) bad_ring) in
    let many = found_at n (unless (leb (length l) positions) too_many) in
    let a = (append-eq-nil_iff {p = (few ++ many) ++ positions_found n l}).0 e in
    let b = (append-eq-nil_iff {p = few ++ many}).0 a.0 in
    let c = (append-eq-nil_iff {p = few}).0 b.0 in
    let s = found-sound n l b.1 in
    record {
      least = leb-true 4 (length l) (held n bad_ring _ c.0);
      most = leb-true (length l) positions (held n too_many _ c.1);
      each = s;
      whole = held n bad_ring _ (rw s at a.1);
    }
