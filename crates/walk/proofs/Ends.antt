-- The end of a string, of brackets and of a value as the code finds it, from byte to byte of a text: what is behind the end is the same from each
-- byte on, and each is passed once.
use mathlib.Core.Bool.{Bool, true, false}
use mathlib.Core.List.{List, [], ◌∷◌, ◌++◌}
use mathlib.Core.Path.{◌≡◌, refl, sym, ap, ◌∙◌}
use Prim.Native.Nat.{ℕ, suc, ◌+◌, ◌-◌, ◌≤◌, ◌<◌}
use native.Mathlib.Numerals.{add-one}
use native.Mathlib.Omega.{arith}
use lib.Dec.{eqb}
use lib.ListN.{length, drop, drop_of_length-le, length-append, length-drop}
use borrow.Author.Tests.{eqb-true, eq-eqb, ne_eqb}
use Rattle.notation.proofs.Booleans.{by_test, true-false}
use Rattle.notation.proofs.Lists.{at_cons}
use Rattle.lexeme.specs.Read.{placed}
use Rattle.lexeme.specs.Character.{byte, within}
use Rattle.lexeme.specs.Numbers.{either, digit, number}
use Rattle.lexeme.specs.inner.Start.{Start, start}
use Rattle.lexeme.proofs.Reading.{Settled}
use Rattle.lexeme.proofs.Placed.{takes_leaves, lands}
use Rattle.lexeme.proofs.Rests.{place_at, first_byte, rest_at, rest-after}
use Rattle.lexeme.proofs.NumberParts.{digit-inside, either-inside, equal-inside}
use Rattle.lexeme.proofs.StrongPrefixes.{number_takes}
use Rattle.lexeme.proofs.Starts.{digit-starts}
use Rattle.walk.specs.inner.Skip.{quoted, outside, enclosed, numbered, skipped}
use Rattle.walk.proofs.Quotes.{quoted-mark, escape-begins}
use Rattle.walk.proofs.Skips.{Between, enclosed-between, enclosed_opens, enclosed-closes, enclosed-end, enclosed-mark, numbered-done, numbered-bad, skipped-string, skipped-number, skipped-array, skipped-object, skipped-true, skipped-false, skipped-null, skipped-none}
use Rattle.walk.proofs.Finding.{failed}
use Rattle.std.specs.Prelude.{Ok, Err}
use Rattle.lexeme.specs.declared.SyntaxError.{SyntaxError}

-- strings
module _ (s : List ℕ) (i : ℕ) where
  pub string-closes : i < length s → byte s i ≡ 0x22 → quoted false (drop i s) ≡ drop (i + 1) s
  string-closes h e = ap (quoted false) (at_cons s i h) ∙ quoted-mark (drop (i + 1) s) e

  pub string_escapes : (j : ℕ) → byte s i ≡ 0x5c → drop j s ≡ drop 2 (drop i s) → quoted false (drop i s) ≡ quoted false (drop j s)
  string_escapes j e h = escape-begins (drop i s) (eq-eqb _ _ (sym (first_byte s i) ∙ e)) ∙ ap (quoted false) (sym h)

  pub escape-later : (j : ℕ) → i < length s → drop j s ≡ drop 2 (drop i s) → i < j
  escape-later j h e = omega (arith, ap length e, length-drop j s, length-drop 2 (drop i s), length-drop i s)

-- an escape is passed whole
pub escape_falls : (s : List ℕ) (i j : ℕ) → i < length s → drop j s ≡ drop 2 (drop i s) → length s - j < length s - i
escape_falls s i j h e = omega (arith, escape-later s i j h e)

pub escape_on : (s : List ℕ) (i j : ℕ) → byte s i ≡ 0x5c → drop j s ≡ drop 2 (drop i s) → quoted false (drop j s) ≡ quoted false (drop i s)
escape_on s i j e h = sym (string_escapes s i j e h)

quoted_splits : (e : Bool) (l : List ℕ) → (p : List ℕ) × (l ≡ p ++ quoted e l)
unfolding quoted
quoted_splits e [] = ([], refl)
quoted_splits true (b ∷ l) = let w = quoted_splits false l in (b ∷ w.0, ap (λ (m : List ℕ). b ∷ m) w.1)
quoted_splits false (b ∷ l) =
    let w = quoted_splits (eqb b 0x5c) l in
    by_test (eqb b 0x22) (λ h. (b ∷ [], rw (h, quoted))) (λ h. (b ∷ w.0, rw (h, quoted) (ap (λ (m : List ℕ). b ∷ m) w.1)))

shorter : (e : Bool) (l : List ℕ) → length (quoted e l) ≤ length l
shorter e l = let w = quoted_splits e l in omega (arith, ap length w.1, length-append w.0 (quoted e l))

quoted_consumes : (b : ℕ) (l : List ℕ) → length (quoted false (b ∷ l)) ≤ length l
unfolding quoted
quoted_consumes b l = by_test (eqb b 0x22) (λ h. rw (h, quoted) (omega arith)) (λ h. rw (h, quoted) (shorter (eqb b 0x5c) l))

-- where the code finds a string's end
pub record Ended (s : List ℕ) (at r : ℕ) : Type 0 where
  pub rest : drop r s ≡ quoted false (drop at s)
  pub upto : r ≤ length s
  pub from : at ≤ length s → at ≤ r
  pub later : at < length s → at < r

pub ended : (s : List ℕ) (at r : ℕ) → r ≡ length s - length (quoted false (drop at s)) → Ended s at r
ended s at r e =
    let w = quoted_splits false (drop at s) in
    record {
      rest = ap (λ (n : ℕ). drop n s) e ∙ rest_at s at w.0 (quoted false (drop at s)) w.1;
      upto = omega arith;
      from = λ k. rw e (rest-after s at w.0 (quoted false (drop at s)) w.1 k);
      later = λ h.
          let l = drop (at + 1) s in
          let c : drop at s ≡ byte s at ∷ l = at_cons s at h in
          omega (arith, quoted_consumes (byte s at) l, ap (λ (m : List ℕ). length (quoted false m)) c, length-drop (at + 1) s);
    }

-- brackets, with n more open than one
module _ (s : List ℕ) (i n : ℕ) (h : i < length s) where
  here : enclosed (suc n) outside (drop i s) ≡ enclosed (suc n) outside (byte s i ∷ drop (i + 1) s)
  here = ap (enclosed (suc n) outside) (at_cons s i h)

  pub brackets-on : Between (byte s i) → enclosed (suc n) outside (drop i s) ≡ enclosed (suc n) outside (drop (i + 1) s)
  brackets-on b = here ∙ enclosed-between n (byte s i) (drop (i + 1) s) b

  pub brackets-string : (j : ℕ) → byte s i ≡ 0x22 → Ended s (i + 1) j → enclosed (suc n) outside (drop i s) ≡ enclosed (suc n) outside (drop j s)
  brackets-string j e k =
      here ∙ enclosed-mark n (byte s i) (drop (i + 1) s) (eq-eqb (byte s i) 0x22 e) ∙ ap (enclosed (suc n) outside) (sym k.rest)

  module _ (unmarked : eqb (byte s i) 0x22 ≡ false) where
    pub brackets_open : either 0x5b 0x7b (byte s i) ≡ true → enclosed (suc n) outside (drop i s) ≡ enclosed (suc (n + 1)) outside (drop (i + 1) s)
    brackets_open o =
        here ∙ enclosed_opens n (byte s i) (drop (i + 1) s) unmarked o
        ∙ ap (λ (m : ℕ). enclosed (suc m) outside (drop (i + 1) s)) (sym (add-one n))

    module _ (o : either 0x5b 0x7b (byte s i) ≡ false) where
      pub brackets-other : either 0x5d 0x7d (byte s i) ≡ false → enclosed (suc n) outside (drop i s) ≡ enclosed (suc n) outside (drop (i + 1) s)
      brackets-other c = brackets-on (record { mark = unmarked; opens = o; closes = c })

      pub brackets_close : either 0x5d 0x7d (byte s i) ≡ true → enclosed (suc n) outside (drop i s) ≡ enclosed n outside (drop (i + 1) s)
      brackets_close c = here ∙ enclosed-closes n (byte s i) (drop (i + 1) s) unmarked o c

pub brackets-cut : (s : List ℕ) (i n : ℕ) → length s ≤ i → enclosed n outside (drop i s) ≡ []
brackets-cut s i n h = ap (enclosed n outside) (drop_of_length-le s h) ∙ enclosed-end n

-- numbers
module _ (s : List ℕ) (at : ℕ) where
  pub number-ends : (e : ℕ) → Ok e ≡ placed s (number (drop at s)) → e ≡ length s - length (numbered (drop at s))
  number-ends e h =
      let k = lands number s at e (takes_leaves Settled number number_takes) h in
      place_at s e k.upto ∙ ap (λ (l : List ℕ). length s - length l) (sym (numbered-done (drop at s) k.reads))

  pub number_stays : (w : SyntaxError) → Err w ≡ placed s (number (drop at s)) → length s - length (drop at s) ≡ length s - length (numbered (drop at s))
  number_stays w h = ap (λ (l : List ℕ). length s - length l) (sym (numbered-bad (drop at s) (failed s w (number (drop at s)) h).1))

-- values by their first byte b
module _ (b : ℕ) (l : List ℕ) where
  skipped-brackets : either 0x5b 0x7b b ≡ true → skipped (b ∷ l) ≡ enclosed 1 outside l
  unfolding either start
  skipped-brackets h =
      by_test (eqb b 0x5b) (λ e. skipped-array b l (ap start (eqb-true b 0x5b e)))
      (λ e. let f : eqb b 0x7b ≡ true = rw e at h in skipped-object b l (ap start (eqb-true b 0x7b f)))

  skipped-four : either 0x74 0x6e b ≡ true → skipped (b ∷ l) ≡ drop 4 (b ∷ l)
  unfolding either start digit within
  skipped-four h =
      by_test (eqb b 0x74) (λ e. skipped-true b l (ap start (eqb-true b 0x74 e)))
      (λ e. let f : eqb b 0x6e ≡ true = rw e at h in skipped-null b l (ap start (eqb-true b 0x6e f)))

neither : (x y b : ℕ) → either x y b ≡ false → (eqb b x ≡ false) × (eqb b y ≡ false)
unfolding either
neither x y b h = by_test (eqb b x) (λ e. true-false (rw (either, e)) h) (λ e. (e, rw e at h))

other-starts : (b : ℕ) → (b ≡ 0x22 → ⊥) → either 0x5b 0x7b b ≡ false → (b ≡ 0x2d → ⊥) → digit b ≡ false → either 0x74 0x6e b ≡ false → (b ≡ 0x66 → ⊥)
    → start b ≡ Start.other
unfolding start
other-starts b m o n d w f =
    let p = neither 0x5b 0x7b b o in let q = neither 0x74 0x6e b w in
    rw (start, ne_eqb b 0x22 m, p.0, p.1, ne_eqb b 0x2d n, d, q.0, ne_eqb b 0x66 f, q.1)

module _ (s : List ℕ) (at b : ℕ) (first : b ≡ byte (drop at s) 0) where
  -- a value begins inside the text
  pub equal-begins : (c : ℕ) → eqb 0 c ≡ false → b ≡ c → at < length s
  equal-begins c n e = equal-inside c n s at (sym first ∙ e)

  pub either-begins : (x y : ℕ) → either x y 0 ≡ false → either x y b ≡ true → at < length s
  either-begins x y n e = either-inside x y n s at (ap (either x y) (sym first) ∙ e)

  there : at < length s → drop at s ≡ b ∷ drop (at + 1) s
  there h = at_cons s at h ∙ ap (λ (c : ℕ). c ∷ drop (at + 1) s) (first_byte s at ∙ sym first)

  -- the place of what is skipped there
  landed : at < length s → {m : List ℕ} → skipped (b ∷ drop (at + 1) s) ≡ m → length s - length m ≡ length s - length (skipped (drop at s))
  landed h e = ap (λ (l : List ℕ). length s - length l) (sym (ap skipped (there h) ∙ e))

  pub value-string : b ≡ 0x22 → length s - length (quoted false (drop (at + 1) s)) ≡ length s - length (skipped (drop at s))
  unfolding start
  value-string e = landed (equal-begins 0x22 refl e) (skipped-string b _ (ap start e))

  pub value-brackets : either 0x5b 0x7b b ≡ true → length s - length (enclosed 1 outside (drop (at + 1) s)) ≡ length s - length (skipped (drop at s))
  unfolding either
  value-brackets e = landed (either-begins 0x5b 0x7b refl e) (skipped-brackets b _ e)

  number-there : at < length s → start b ≡ Start.number → length s - length (numbered (drop at s)) ≡ length s - length (skipped (drop at s))
  number-there h e = landed h (skipped-number b _ e ∙ ap numbered (sym (there h)))

  pub value-minus : b ≡ 0x2d → length s - length (numbered (drop at s)) ≡ length s - length (skipped (drop at s))
  unfolding start
  value-minus e = number-there (equal-begins 0x2d refl e) (ap start e)

  pub value-digit : digit b ≡ true → length s - length (numbered (drop at s)) ≡ length s - length (skipped (drop at s))
  value-digit e = number-there (digit-inside s at (ap digit (sym first) ∙ e)) (digit-starts b e)

  pub value-four : either 0x74 0x6e b ≡ true → length s - length (drop 4 (drop at s)) ≡ length s - length (skipped (drop at s))
  unfolding either
  value-four e = let h = either-begins 0x74 0x6e refl e in landed h (skipped-four b _ e ∙ ap (drop 4) (sym (there h)))

  pub value_five : b ≡ 0x66 → length s - length (drop 5 (drop at s)) ≡ length s - length (skipped (drop at s))
  unfolding start digit within
  value_five e = let h = equal-begins 0x66 refl e in landed h (skipped-false b _ (ap start e) ∙ ap (drop 5) (sym (there h)))

  pub value_none : (b ≡ 0x22 → ⊥) → either 0x5b 0x7b b ≡ false → (b ≡ 0x2d → ⊥) → digit b ≡ false → either 0x74 0x6e b ≡ false → (b ≡ 0x66 → ⊥)
      → length s - length (drop at s) ≡ length s - length (skipped (drop at s))
  value_none m o n d w f = ap (λ (l : List ℕ). length s - length l) (sym (skipped-none (drop at s) (ap start (sym first) ∙ other-starts b m o n d w f)))
