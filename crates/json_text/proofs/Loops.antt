-- The loop over elements, at places of a text, for any element that takes a byte at least: what is left to read decides where the
-- whole ends. `placed` forgets the values read, so the invariant carries no list that grows.
use mathlib.Core.Bool.{false}
use mathlib.Core.List.{List, [], ◌∷◌}
use mathlib.Core.Path.{◌≡◌, refl, sym, ap, ◌∙◌}
use Prim.Native.Nat.{ℕ, ◌+◌, ◌-◌, ◌≤◌, ◌<◌}
use native.Mathlib.Omega.{arith}
use lib.Dec.{eqb}
use lib.ListN.{length, drop, length-drop}
use borrow.Author.Tests.{eq-eqb, ne_eqb}
use Rattle.word.specs.Kinds.{not_json}
use Rattle.lexeme.specs.Read.{Read, placed}
use Rattle.lexeme.specs.Read.Read.{done, bad}
use Rattle.lexeme.specs.Tokens.{blanks}
use Rattle.lexeme.specs.Character.{paired, byte}
use Rattle.lexeme.proofs.NumberParts.{equal-inside}
use Rattle.lexeme.proofs.Reading.{Consumes, Settled, StrongPrefix}
use Rattle.lexeme.proofs.Rests.{shows, next-drop, rest_at}
use Rattle.lexeme.proofs.Placed.{placed-made, ends, ends_at, faults, passes, Lands, lands, takes_leaves}
use Rattle.lexeme.proofs.Spans.{skipped}
use Rattle.json_text.specs.declared.element.Turn.TheVariants.{Closed, Next}
use Rattle.json_text.specs.inner.Turns.{turn}
use Rattle.json_text.specs.Text.{after, contents, bracketed, member, value}
use Rattle.json_text.proofs.Steps.{elements-bad, elements-closed, elements-wrong, contents-end, contents-none, contents-some}
use Rattle.json_text.proofs.Bound.{all, after_less, elements-next}
use Rattle.json_text.proofs.StrongPrefixes.{continues, member_consumes, member_takes, value_consumes, value_takes}
use Rattle.json_text.proofs.Values.{value-empty, member-empty}
use Rattle.json_text.proofs.Follow.{closed-at, wrong-at, next-at}
use Rattle.std.specs.Prelude.{Result, Ok, Err}
use Rattle.lexeme.specs.declared.SyntaxError.{SyntaxError}

-- what is asked of an element: it takes a byte at least, what it takes decides what is read, and nothing is no element
pub record Element {A : Type 0} (f : List ℕ → Read A) : Type 0 where
  pub consumes : Consumes f
  pub takes : StrongPrefix Settled f
  pub none : f [] ≡ bad not_json []

pub items : (d : ℕ) → Element (value paired d)
items d = record { consumes = value_consumes paired d; takes = value_takes paired d; none = value-empty d }

pub members : (d : ℕ) → Element (member paired (value paired d))
members d =
    record {
      consumes = member_consumes paired (value paired d) (value_consumes paired d);
      takes = member_takes paired (value paired d) (value_consumes paired d) (value_takes paired d);
      none = member-empty (value paired d);
    }

-- An array or object opened before `at` has elements left from i on, and these decide where it ends.
pub record Pending {A : Type 0} (close : ℕ) (element : List ℕ → Read A) (s : List ℕ) (at i : ℕ) : Type 0 where
  pub upto : i ≤ length s
  pub ends : placed s (bracketed close element (drop at s)) ≡ placed s (all close element (drop i s))

-- after the opening bracket, blanks up to i and there the byte b: the closing bracket, or elements
module _ {A : Type 0} (close : ℕ) (element : List ℕ → Read A) (s : List ℕ) (at : ℕ) {i b : ℕ} (k : i ≡ length s - length (blanks (drop at s)))
    (f : b ≡ byte (drop i s) 0) where
  opened : bracketed close element (drop at s) ≡ contents close element (drop i s)
  unfolding bracketed
  opened = ap (contents close element) (sym (skipped s at i k).rest)

  pub opened_closed : eqb 0 close ≡ false → b ≡ close → Ok (i + 1) ≡ placed s (bracketed close element (drop at s))
  opened_closed z e =
      let g = eq-eqb _ close (sym f ∙ e) in
      let n : i < length s = equal-inside close z s i (sym f ∙ e) in
      ends_at s (i + 1) _ (omega arith) []
      (opened ∙ ap (contents close element) (shows (λ c. eqb c close) z (drop i s) g) ∙ contents-none close element _ _ g ∙ ap (done []) (next-drop s i))

  pub opened_pending : Element element → (b ≡ close → ⊥) → Pending close element s at i
  opened_pending a n = record { upto = (skipped s at i k).upto; ends = ap (placed s) (opened ∙ go (drop i s) (λ z. n (f ∙ z))) }
    where
      go : (l : List ℕ) → (byte l 0 ≡ close → ⊥) → contents close element l ≡ all close element l
      go [] n = contents-end close element ∙ sym (elements-bad close 0 element [] not_json [] a.none)
      go (b ∷ r) n = contents-some close element b r (ne_eqb _ _ n)

-- after the element at i: a fault in it, or an end at j
module _ {A : Type 0} {close : ℕ} {element : List ℕ → Read A} (a : Element element) {s : List ℕ} {at i : ℕ} (p : Pending close element s at i) where
  pub pending_fails : (w : SyntaxError) → Err w ≡ placed s (element (drop i s)) → Err w ≡ placed s (bracketed close element (drop at s))
  pending_fails w e = passes s w (element (drop i s)) _ e (λ r g. elements-bad close _ element _ w.kind r g) ∙ sym p.ends

  module _ (j : ℕ) (e : Ok j ≡ placed s (element (drop i s))) where
    landed : Lands element s i j
    landed = lands element s i j (takes_leaves Settled element a.takes) e

    pub pending_closed : (n : ℕ) → Ok (Closed n) ≡ turn s close (Ok j) → Ok n ≡ placed s (bracketed close element (drop at s))
    unfolding turn
    pending_closed n h =
        let c = closed-at s n (after close (drop j s)) h in
        ends s c.0 _ _ c.2 _ (elements-closed close _ element _ _ _ _ landed.reads c.1) ∙ sym p.ends

    pub pending_wrong : (w : SyntaxError) → Err w ≡ turn s close (Ok j) → Err w ≡ placed s (bracketed close element (drop at s))
    unfolding turn
    pending_wrong w h =
        let c = wrong-at s w (after close (drop j s)) h in
        c.2 ∙ faults s c.0 _ _ refl _ (elements-wrong close _ element _ _ _ _ landed.reads c.1) ∙ sym p.ends

    pub pending_next : (n : ℕ) → Ok (Next n) ≡ turn s close (Ok j) → (i < n) × Pending close element s at n
    unfolding turn
    pending_next n h =
        let c = next-at s n (after close (drop j s)) h in
        let t = continues close (drop j s) c.1 in
        let w : drop n s ≡ c.0 = ap (λ (m : ℕ). drop m s) c.2 ∙ rest_at s j t.part c.0 t.splits in (
          omega (arith, c.2, a.consumes _ _ _ landed.reads, after_less close (drop j s) c.1, length-drop i s, length-drop j s),
          record {
            upto = omega (arith, c.2);
            ends =
                p.ends
                ∙ ap (placed s) (elements-next close element a.consumes _ _ _ _ landed.reads c.1)
                ∙ placed-made s _ (all close element c.0)
                ∙ ap (λ (l : List ℕ). placed s (all close element l)) (sym w);
          },
        )

  -- the same, where the element's reading ended as o says
  pub pending_stops : (o : Result ℕ SyntaxError) (w : SyntaxError) → o ≡ placed s (element (drop i s)) → Err w ≡ turn s close o → Err w ≡ placed s (bracketed close element (drop at s))
  unfolding turn
  pending_stops (Err v) w e h = let z : w ≡ v = cc in ap Err z ∙ pending_fails v e
  pending_stops (Ok j) w e h = pending_wrong j e w h

  pub pending_ends : (o : Result ℕ SyntaxError) (n : ℕ) → o ≡ placed s (element (drop i s)) → Ok (Closed n) ≡ turn s close o → Ok n ≡ placed s (bracketed close element (drop at s))
  unfolding turn
  pending_ends (Err v) n e h = let z : ◌≡◌ {A = ℕ} 0 1 = cc in absurd (omega arith)
  pending_ends (Ok j) n e h = pending_closed j e n h

  pub pending_continues : (o : Result ℕ SyntaxError) (n : ℕ) → o ≡ placed s (element (drop i s)) → Ok (Next n) ≡ turn s close o → (i < n) × Pending close element s at n
  unfolding turn
  pending_continues (Err v) n e h = let z : ◌≡◌ {A = ℕ} 0 1 = cc in absurd (omega arith)
  pending_continues (Ok j) n e h = pending_next j e n h
