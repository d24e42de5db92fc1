-- What follows an element, at places of a text: the code's answer from the definition, and the definition from the code's answer.
use mathlib.Core.List.{List, []}
use mathlib.Core.Path.{◌≡◌, refl, sym, ap, ◌∙◌}
use Prim.Native.Nat.{ℕ, ◌+◌, ◌-◌, ◌≤◌, ◌<◌}
use native.Mathlib.Omega.{arith}
use lib.ListN.{length, drop, get_or, drop_of_length-le}
use borrow.Author.Tests.{eq-eqb, ne_eqb}
use Rattle.notation.proofs.Lists.{at_cons}
use Rattle.lexeme.proofs.Rests.{place_at}
use Rattle.lexeme.proofs.Spans.{Skipped}
use Rattle.word.specs.Kinds.{not_json}
use Rattle.json_text.specs.declared.element.Turn.TheVariants.{Closed, Next}
use Rattle.json_text.specs.inner.Turns.{turn_at}
use Rattle.json_text.specs.Text.{After, after}
use Rattle.json_text.specs.Text.After.{closed, more, wrong}
use Rattle.json_text.proofs.Steps.{after-end, after-closed, after_more, after-wrong}
use Rattle.std.specs.Prelude.{Result, Ok, Err}
use Rattle.lexeme.specs.declared.SyntaxError.{SyntaxError}
use Rattle.lexeme.specs.Read.{wrong_at}

-- the answer at the text that is left
stop_at : (s : List ℕ) (n : ℕ) (l : List ℕ) (a : After) → n ≡ length s - length l → a ≡ wrong l → wrong_at not_json n ≡ turn_at s a
unfolding turn_at
stop_at s n l a e h = rw (h, e)

module _ (s : List ℕ) (close at i : ℕ) (k : Skipped s at i) where
  pub follow_end : length s ≤ i → wrong_at not_json i ≡ turn_at s (after close (drop at s))
  follow_end h =
      let e : drop i s ≡ [] = drop_of_length-le s h in
      stop_at s i (drop i s) _ (place_at s i k.upto) (after-end close (drop at s) (sym k.rest ∙ e) ∙ ap wrong (sym e))

  module _ (h : i < length s) where
    pub follow_close : get_or s i 0 ≡ close → Ok (Closed (i + 1)) ≡ turn_at s (after close (drop at s))
    unfolding turn_at
    follow_close e =
        rw (after-closed close (drop at s) _ _ (sym k.rest ∙ at_cons s i h) (eq-eqb _ _ e)) (ap (λ (m : ℕ). Ok (Closed m)) (place_at s (i + 1) (omega arith)))

    pub follow_comma : (get_or s i 0 ≡ close → ⊥) → get_or s i 0 ≡ 0x2c → (j : ℕ) → Skipped s (i + 1) j → Ok (Next j) ≡ turn_at s (after close (drop at s))
    unfolding turn_at
    follow_comma n e j w =
        rw (after_more close (drop at s) _ _ (sym k.rest ∙ at_cons s i h) (ne_eqb _ _ n) (eq-eqb _ _ e), sym w.rest) (ap (λ (m : ℕ). Ok (Next m)) (place_at s j w.upto))

    pub follow_wrong : (get_or s i 0 ≡ close → ⊥) → (get_or s i 0 ≡ 0x2c → ⊥) → wrong_at not_json i ≡ turn_at s (after close (drop at s))
    follow_wrong n m =
        stop_at s i (drop i s) _ (place_at s i k.upto)
        (after-wrong close (drop at s) _ _ (sym k.rest ∙ at_cons s i h) (ne_eqb _ _ n) (ne_eqb _ _ m) ∙ ap wrong (sym (at_cons s i h)))

-- the answers read back: where the whole ends, where a fault is, and where the next element begins
module _ (s : List ℕ) where
  pub closed-at : (n : ℕ) (a : After) → Ok (Closed n) ≡ turn_at s a → (q : List ℕ) × (a ≡ closed q) × (n ≡ length s - length q)
  unfolding turn_at
  closed-at n (closed q) e = (q, refl, (cc))
  closed-at n (more q) e = let z : ◌≡◌ {A = ℕ} 0 1 = cc in absurd (omega arith)
  closed-at n (wrong q) e = let z : ◌≡◌ {A = ℕ} 0 1 = cc in absurd (omega arith)

  pub wrong-at : (w : SyntaxError) (a : After) → Err w ≡ turn_at s a → (q : List ℕ) × (a ≡ wrong q) × (◌≡◌ {A = Result ℕ SyntaxError} (Err w) (wrong_at not_json (length s - length q)))
  unfolding turn_at
  wrong-at w (closed q) e = let z : ◌≡◌ {A = ℕ} 0 1 = cc in absurd (omega arith)
  wrong-at w (more q) e = let z : ◌≡◌ {A = ℕ} 0 1 = cc in absurd (omega arith)
  wrong-at w (wrong q) e = (q, refl, let i : w ≡ record { kind = not_json; offset = length s - length q } = cc in ap Err i)

  pub next-at : (n : ℕ) (a : After) → Ok (Next n) ≡ turn_at s a → (q : List ℕ) × (a ≡ more q) × (n ≡ length s - length q)
  unfolding turn_at
  next-at n (closed q) e = let z : ◌≡◌ {A = ℕ} 0 1 = cc in absurd (omega arith)
  next-at n (more q) e = (q, refl, (cc))
  next-at n (wrong q) e = let z : ◌≡◌ {A = ℕ} 0 1 = cc in absurd (omega arith)
