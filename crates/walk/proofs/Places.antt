-- The places of a member or item that a step found: their order, which every cut of a slice and every loop's measure rests on, and what
-- is read there. Each part of a member takes a byte at least, so each place is past the one before.
use mathlib.Core.List.{List, [], ◌∷◌}
use mathlib.Core.Path.{◌≡◌, refl, sym, ap, subst, ◌∙◌}
use Prim.Native.Nat.{ℕ, suc, ◌+◌, ◌-◌, ◌≤◌, ◌<◌}
use native.Mathlib.Omega.{arith}
use lib.ListN.{length, drop, length-drop}
use lib.Dec.{eqb}
use Rattle.limits.specs.Ceilings.{depth}
use Rattle.notation.proofs.Booleans.{by_test}
use Rattle.lexeme.specs.Read.Read.{done}
use Rattle.lexeme.specs.Character.{paired}
use Rattle.lexeme.specs.Strings
use Rattle.lexeme.specs.Tokens.{blanks}
use Rattle.lexeme.proofs.Shrinks.{blanks_shrinks}
use Rattle.lexeme.proofs.StrongPrefixes.{string_takes, string_consumes}
use Rattle.json_text.specs.Tree.{Json}
use Rattle.json_text.specs.Text.{expect, value}
use Rattle.json_text.proofs.StrongPrefixes.{blanks_takes, expect_takes, value_consumes, value_takes}
use Rattle.json_text.proofs.Spellings.{expect-done}
use Rattle.walk.specs.declared.Member.{Member}
use Rattle.walk.specs.declared.Item.{Item}
use Rattle.walk.specs.Walk.{offset_of, onward, member_at, item_at}
pub use Rattle.walk.specs.inner.Along.{Placed, ItemPlaced}
use Rattle.walk.proofs.Rests.{Rest, rest-drop, rest-next, rest-blanks, rest_read, rest-inside, rest-there}
use Rattle.walk.proofs.Steps.{onward-end, onward-comma, onward-other, Reads, member_of, item_of, member-from, item_from}
use Rattle.std.specs.Prelude.{Some}

-- what stands at the places of a member
pub record Spelt (p : List ℕ) (at : ℕ) (m : Member) (text : List ℕ) (x : Json) : Type 0 where
  pub placed : Placed p at m
  pub spells : Strings.string paired 0 (drop m.name p) ≡ done text (drop (m.name_end + 1) p)
  pub reads : value paired depth (drop m.value p) ≡ done x (drop m.value_end p)

-- what stands at the places of an item
pub record ItemSpelt (p : List ℕ) (at : ℕ) (m : Item) (x : Json) : Type 0 where
  pub placed : ItemPlaced p at m
  pub reads : value paired depth (drop m.value p) ≡ done x (drop m.value_end p)

-- the next element is looked for at the end of this one or later
pub onward-later : (p t : List ℕ) → length t ≤ length p → (offset_of p t ≤ onward p (blanks t)) × (onward p (blanks t) ≤ length p)
onward-later p t h = go (blanks t) refl
  where
    go : (l : List ℕ) → blanks t ≡ l → (offset_of p t ≤ onward p (blanks t)) × (onward p (blanks t) ≤ length p)
    go [] e = rw (onward-end p e) (omega arith, omega arith)
    go (b ∷ r) e =
        let n : length (b ∷ r) ≤ length t = rw e at (blanks_shrinks t) in
        by_test (eqb b 0x2c) (λ i. rw (onward-comma p b r e i) (omega arith, omega arith)) (λ i. rw (onward-other p b r e i) (omega arith, omega arith))

-- the order of places in a text of n bytes, from the lengths of the rests at them: l from the opening quote on, w past it, q past the
-- closing one, v from the value on, t past it
record Order (n at l w q v t : ℕ) : Type 0 where
  later : at < n - l + 1
  name : n - l + 1 ≤ n - q - 1
  apart : n - q - 1 + 1 < n - v
  value : n - v < n - t
  opened : n - l + 1 ≡ n - w
  closed : n - q - 1 + 1 ≡ n - q

order : (n at l w q v t : ℕ) → l ≤ n - at → l ≤ n → l ≡ suc w → q < w → v < q → t < v → Order n at l w q v t
order n at l w q v t front inside quote closing colon valued =
    record { later = omega arith; name = omega arith; apart = omega arith; value = omega arith; opened = omega arith; closed = omega arith }

module _ (p : List ℕ) (at : ℕ) where
  pub item_spelt : {x : Json} {t : List ℕ} → value paired depth (blanks (drop at p)) ≡ done x t → ItemSpelt p at (item_of p (blanks (drop at p)) t) x
  item_spelt {x} {t} e =
      let l = blanks (drop at p) in
      let sl : Rest p l = rest-blanks (drop at p) (rest-drop at) in
      let st : Rest p t = rest_read (value paired depth) (value_takes paired depth) l t x e sl in
      let n : length t < length l = value_consumes paired depth l t x e in
      let i : length l ≤ length p - at = subst (λ (m : ℕ). length l ≤ m) (length-drop at p) (blanks_shrinks (drop at p)) in
      let o = onward-later p t (rest-inside st) in
      record {
        placed = record { later = omega arith; value = omega arith; next = o.0; inside = o.1 };
        reads = ap (value paired depth) (rest-there sl) ∙ e ∙ ap (done x) (sym (rest-there st));
      }

  pub member_spelt : {text q t : List ℕ} {x : Json} → Reads (blanks (drop at p)) text x q t → Spelt p at (member_of p (blanks (drop at p)) q t) text x
  member_spelt {text} {q} {t} {x} r =
      let l = blanks (drop at p) in
      let a = expect-done 0x22 (Strings.string paired 0) l q text r.named in
      let b = expect-done 0x3a (λ r. value paired depth (blanks r)) (blanks q) t x r.valued in
      let w = a.0 in let u = b.0 in
      let sl : Rest p l = rest-blanks (drop at p) (rest-drop at) in
      let sw : Rest p w = rest-next 0x22 w a.1 sl in
      let sq : Rest p q = rest_read (Strings.string paired 0) (string_takes paired 0) w q text a.2 sw in
      let su : Rest p u = rest-next 0x3a u b.1 (rest-blanks q sq) in
      let sv : Rest p (blanks u) = rest-blanks u su in
      let st : Rest p t = rest_read (value paired depth) (value_takes paired depth) (blanks u) t x b.2 sv in
      let o = onward-later p t (rest-inside st) in
      let front : length l ≤ length p - at = subst (λ (m : ℕ). length l ≤ m) (length-drop at p) (blanks_shrinks (drop at p)) in
      let colon : length (blanks u) < length q = omega (arith, ap length b.1, blanks_shrinks q, blanks_shrinks u) in
      let v : offset_of p (blanks (drop 1 (blanks q))) ≡ offset_of p (blanks u) = ap (λ (z : List ℕ). offset_of p (blanks (drop 1 z))) b.1 in
      let k =
      order (length p) at (length l) (length w) (length q) (length (blanks u)) (length t) front (rest-inside sl) (ap length a.1)
      (string_consumes paired 0 w q text a.2) colon (value_consumes paired depth (blanks u) t x b.2) in
      record {
        placed = record { later = k.later; name = k.name; apart = rw v k.apart; value = rw v k.value; next = o.0; inside = o.1 };
        spells =
            ap (λ (z : ℕ). Strings.string paired 0 (drop z p)) k.opened ∙ ap (Strings.string paired 0) (rest-there sw) ∙ a.2
            ∙ ap (done text) (sym (ap (λ (z : ℕ). drop z p) k.closed ∙ rest-there sq));
        reads = ap (λ (z : ℕ). value paired depth (drop z p)) v ∙ ap (value paired depth) (rest-there sv) ∙ b.2 ∙ ap (done x) (sym (rest-there st));
      }

  -- of what a step found
  pub record FoundMember (m : Member) : Type 0 where
    pub text : List ℕ
    pub tree : Json
    pub spelt : Spelt p at m text tree

  pub record FoundItem (m : Item) : Type 0 where
    pub tree : Json
    pub spelt : ItemSpelt p at m tree

  pub found-member : (m : Member) → member_at p at ≡ Some m → FoundMember m
  unfolding member_at
  found-member m e =
      let f = member-from p (blanks (drop at p)) m e in
      record { text = f.name; tree = f.tree; spelt = subst (λ (z : Member). Spelt p at z f.name f.tree) (sym f.is) (member_spelt f.reads) }

  pub found-item : (m : Item) → item_at p at ≡ Some m → FoundItem m
  unfolding item_at
  found-item m e =
      let f = item_from p (blanks (drop at p)) m e in
      record { tree = f.tree; spelt = subst (λ (z : Item). ItemSpelt p at z f.tree) (sym f.is) (item_spelt f.reads) }

  pub member-placed : (m : Member) → member_at p at ≡ Some m → Placed p at m
  member-placed m e = (found-member m e).spelt.placed

  pub item-placed : (m : Item) → item_at p at ≡ Some m → ItemPlaced p at m
  item-placed m e = (found-item m e).spelt.placed

  -- the next member is looked for behind the value
  pub next-found : (m : Member) → member_at p at ≡ Some m → m.next ≡ onward p (blanks (drop m.value_end p))
  unfolding member_at
  next-found m e =
      let f = member-from p (blanks (drop at p)) m e in
      let sq = rest_read (expect 0x22 (Strings.string paired 0)) (expect_takes 0x22 _ (string_takes paired 0)) _ _ _ f.reads.named (rest-blanks (drop at p) (rest-drop at)) in
      let after = expect_takes 0x3a (λ r. value paired depth (blanks r)) (blanks_takes (value paired depth) (value_consumes paired depth) (value_takes paired depth)) in
      let st : Rest p f.after_value = rest_read (expect 0x3a (λ r. value paired depth (blanks r))) after _ _ _ f.reads.valued (rest-blanks f.after_name sq) in
      ap (λ (z : Member). z.next) f.is ∙ ap (λ (l : List ℕ). onward p (blanks l)) (sym (ap (λ (z : Member). drop z.value_end p) f.is ∙ rest-there st))
