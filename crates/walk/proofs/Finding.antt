-- A step as the code takes it, from place to place: each answer of the code is the definition's.
use mathlib.Core.List.{List, [], ◌∷◌}
use mathlib.Core.Path.{◌≡◌, refl, sym, ap, ◌∙◌}
use Prim.Native.Nat.{ℕ, ◌+◌, ◌-◌, ◌<◌}
use native.Mathlib.Omega.{arith}
use lib.ListN.{length, drop}
use lib.Dec.{eqb}
use borrow.Author.Tests.{eq-eqb, ne_eqb}
use Rattle.limits.specs.Ceilings.{depth}
use Rattle.lexeme.specs.Read.{Read, placed}
use Rattle.lexeme.specs.Read.Read.{done, bad}
use Rattle.lexeme.specs.Character.{paired, byte}
use Rattle.lexeme.specs.Strings
use Rattle.lexeme.specs.Tokens.{blanks}
use Rattle.lexeme.proofs.Reading.{Settled}
use Rattle.lexeme.proofs.Placed.{takes_leaves, Lands, lands}
use Rattle.lexeme.proofs.NumberParts.{equal-inside}
use Rattle.lexeme.proofs.Rests.{next-drop, place_at, shows}
use Rattle.lexeme.proofs.Spans.{Skipped}
use Rattle.json_text.specs.Tree.{Json}
use Rattle.json_text.specs.Text.{expect, value}
use Rattle.json_text.proofs.StrongPrefixes.{value_takes}
use Rattle.json_text.proofs.Values.{expect-there, expect-absent}
use Rattle.walk.specs.Walk.{offset_of, onward, member_in, member_at, item_in, item_at}
use Rattle.walk.proofs.Steps.{onward-end, onward-comma, onward-other, Reads, member_unvalued, member-found, item-found}
use Rattle.std.specs.Prelude.{Some, None, Ok, Err}
use Rattle.lexeme.specs.declared.SyntaxError.{SyntaxError}

abbrev quoted : List ℕ → Read (List ℕ)
quoted = expect 0x22 (Strings.string paired 0)

abbrev whole : List ℕ → Read Json
whole = value paired depth

-- a reading by where it ended
pub valued_at : (p : List ℕ) (i j : ℕ) → Ok j ≡ placed p (whole (drop i p)) → Lands whole p i j
valued_at p i j = lands whole p i j (takes_leaves Settled whole (value_takes paired depth))

pub failed : {A : Type 0} (p : List ℕ) (w : SyntaxError) (o : Read A) → Err w ≡ placed p o → (r : List ℕ) × (o ≡ bad w.kind r)
unfolding placed
failed p w (done x r) e = let z : ◌≡◌ {A = ℕ} 0 1 = cc in absurd (omega arith)
failed p w (bad j r) e =
    let i : w ≡ record { kind = j; offset = length p - length r } = cc in (r, sym (ap (λ (z : SyntaxError). bad z.kind r) i))

module _ (p : List ℕ) (at i : ℕ) (k : Skipped p at i) where
  -- the place after an element
  pub next-comma : byte (drop i p) 0 ≡ 0x2c → i + 1 ≡ onward p (blanks (drop at p))
  next-comma e =
      let n : i < length p = equal-inside 0x2c refl p i e in
      let h = sym k.rest ∙ shows (λ b. eqb b 0x2c) refl (drop i p) (eq-eqb _ _ e) in
      place_at p (i + 1) (omega arith) ∙ ap (offset_of p) (sym (next-drop p i)) ∙ sym (onward-comma p _ _ h (eq-eqb _ _ e))

  pub next-other : (byte (drop i p) 0 ≡ 0x2c → ⊥) → i ≡ onward p (blanks (drop at p))
  next-other n = place_at p i k.upto ∙ go (drop i p) k.rest n
    where
      go : (l : List ℕ) → l ≡ blanks (drop at p) → (byte l 0 ≡ 0x2c → ⊥) → offset_of p l ≡ onward p (blanks (drop at p))
      go [] e m = let z : offset_of p [] ≡ length p = omega arith in z ∙ sym (onward-end p (sym e))
      go (b ∷ r) e m = sym (onward-other p b r (sym e) (ne_eqb _ _ m))

  -- an item
  item-here : item_at p at ≡ item_in p (drop i p)
  unfolding item_at
  item-here = ap (item_in p) (sym k.rest)

  pub item-there : (e n : ℕ) → Lands whole p i e → n ≡ onward p (blanks (drop e p)) → Some (record { value = i; value_end = e; next = n }) ≡ item_at p at
  item-there e n v h =
      let a : i ≡ offset_of p (drop i p) = place_at p i k.upto in
      let b : e ≡ offset_of p (drop e p) = place_at p e v.upto in
      sym (item-here ∙ item-found p (drop i p) v.reads ∙ cc)

  -- a member
  pub member-here : member_at p at ≡ member_in p (drop i p)
  unfolding member_at
  member-here = ap (member_in p) (sym k.rest)

  module _ (j c : ℕ) (named : Lands quoted p i j) (w : Skipped p j c) where
    pub member_colonless : (byte (drop c p) 0 ≡ 0x3a → ⊥) → None ≡ member_at p at
    member_colonless n =
        sym (member-here ∙ member_unvalued p (drop i p) named.reads (ap (expect 0x3a _) (sym w.rest) ∙ expect-absent 0x3a _ p c n))

    module _ (v : ℕ) (colon : byte (drop c p) 0 ≡ 0x3a) (u : Skipped p (c + 1) v) where
      after-colon : expect 0x3a (λ r. whole (blanks r)) (blanks (drop j p)) ≡ whole (drop v p)
      after-colon = ap (expect 0x3a _) (sym w.rest) ∙ expect-there 0x3a _ p c refl colon ∙ ap whole (sym u.rest)

      pub member-there : (e n : ℕ) → Lands whole p v e → n ≡ onward p (blanks (drop e p))
          → Some (record { name = i + 1; name_end = j - 1; value = v; value_end = e; next = n }) ≡ member_at p at
      member-there e n x h =
          let r : Reads (drop i p) named.what x.what (drop j p) (drop e p) = record { named = named.reads; valued = after-colon ∙ x.reads } in
          let a : i ≡ offset_of p (drop i p) = place_at p i k.upto in
          let b : j ≡ offset_of p (drop j p) = place_at p j named.upto in
          let d : e ≡ offset_of p (drop e p) = place_at p e x.upto in
          let f : v ≡ offset_of p (blanks (drop 1 (blanks (drop j p)))) =
          place_at p v u.upto ∙ ap (offset_of p) (u.rest ∙ ap blanks (sym (next-drop p c) ∙ ap (drop 1) w.rest)) in
          sym (member-here ∙ member-found p (drop i p) r ∙ cc)
