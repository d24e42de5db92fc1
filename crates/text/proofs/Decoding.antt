-- The bytes that a spelling stands for, by what stands at a place of it. What a character adds is said once, for every fold over them:
-- its bytes come first, and then those of the spelling after it.
use mathlib.Core.Bool.{true}
use mathlib.Core.List.{List, [], ◌∷◌, ◌++◌}
use mathlib.Core.Path.{◌≡◌, refl, sym, ap, ◌∙◌}
use Prim.Native.Nat.{ℕ, zero, suc, ◌+◌, ◌-◌, ◌≤◌, ◌<◌, min}
use native.Mathlib.Omega.{arith}
use lib.Dec.{eqb, ltb, leb}
use borrow.Author.Tests.{leb-true, leb-false}
use Rattle.lexeme.specs.declared.Next.{Next}
use lib.ListN.{length, take, drop, drop_of_length-le}
use lib.Seq.{take_all, drop-drop}
use Rattle.notation.proofs.Booleans.{by_test, true-false}
use Rattle.notation.proofs.Lists.{at_cons}
use Rattle.lexeme.specs.declared.Char.{Char}
use Rattle.lexeme.specs.declared.Next.TheVariants.{Quote, Character, Fault}
use Rattle.lexeme.specs.Character.{byte, bytes_of, char1, next}
use Rattle.lexeme.specs.inner.Lead.{Lead, lead, next_by}
use Rattle.lexeme.specs.Character.Surrogates.{paired}
use Rattle.lexeme.specs.Strings.{decoded}
use Rattle.lexeme.proofs.Rests.{first_byte}
use Rattle.lexeme.proofs.Steps.{decoded-character}
use Rattle.text.specs.declared.Cursor.{Cursor}
use Rattle.text.specs.Text.{text_of}
use Rattle.text.specs.inner.Walk.{cursor_at, left, told, alone}
use Rattle.text.proofs.Whole.{next-whole}
use Rattle.lexeme.proofs.Leads.{next_led}
use Rattle.std.specs.Prelude.{Option, Some, None}

-- k bytes into a character
text-past : (k : ℕ) (l : List ℕ) → decoded paired k l ≡ text_of (drop k l)
unfolding decoded
text-past zero l = refl
text-past (suc k) [] = refl
text-past (suc k) (b ∷ r) = text-past k r

-- no bytes
pub text-end : (s : List ℕ) (i : ℕ) → length s ≤ i → text_of (drop i s) ≡ []
unfolding decoded
text-end s i h = rw (drop_of_length-le s h)

pub text-quote : (l : List ℕ) → next paired l ≡ Quote → text_of l ≡ []
unfolding decoded
text-quote [] e = refl
text-quote (b ∷ r) e = rw (e, decoded)

pub text-fault : (l : List ℕ) (k n : ℕ) → next paired l ≡ Fault k n → text_of l ≡ []
unfolding decoded
text-fault [] k n e = refl
text-fault (b ∷ r) k n e = rw (e, decoded)

-- where no character is read
pub text-none : (l : List ℕ) (o : Next) → o ≡ next paired l → ((x : Char) → o ≡ Character x → ⊥) → text_of l ≡ []
text-none l Quote e h = text-quote l (sym e)
text-none l (Fault k n) e h = text-fault l k n (sym e)
text-none l (Character x) e h = absurd (h x refl)

-- a character's first byte, and the others, which move up
first_of : (n b : ℕ) (r : List ℕ) → 0 < n → take n (b ∷ r) ≡ b ∷ drop 1 (take n (b ∷ r))
first_of zero b r h = absurd (omega arith)
first_of (suc n) b r h = refl

bytes-first : (x : Char) → 0 < x.len → bytes_of x ≡ x.b0 ∷ drop 1 (bytes_of x)
bytes-first x h = first_of x.len x.b0 (x.b1 ∷ x.b2 ∷ x.b3 ∷ []) h

module _ (a b c d : ℕ) where
  others : (n m : ℕ) → n ≤ 4 → m ≡ n - 1 → take m (b ∷ c ∷ d ∷ 0 ∷ []) ≡ drop 1 (take n (a ∷ b ∷ c ∷ d ∷ []))
  others zero m h e = rw e
  others (suc zero) m h e = rw e
  others (suc (suc zero)) m h e = rw e
  others (suc (suc (suc zero))) m h e = rw e
  others (suc (suc (suc (suc zero)))) m h e = rw e
  others (suc (suc (suc (suc (suc n))))) m h e = absurd (omega arith)

module _ (x : Char) where
  tail-some : (m : ℕ) → x.len ≤ 4 → m ≡ x.len - 1 → take m (x.b1 ∷ x.b2 ∷ x.b3 ∷ 0 ∷ []) ≡ drop 1 (bytes_of x)
  tail-some m = others x.b0 x.b1 x.b2 x.b3 x.len m

  pub bytes-four : 4 ≤ x.len → bytes_of x ≡ x.b0 ∷ x.b1 ∷ x.b2 ∷ x.b3 ∷ []
  bytes-four h = take_all x.len (x.b0 ∷ x.b1 ∷ x.b2 ∷ x.b3 ∷ []) h

  tail-most : 4 ≤ x.len → take 3 (x.b1 ∷ x.b2 ∷ x.b3 ∷ 0 ∷ []) ≡ drop 1 (bytes_of x)
  tail-most h = ap (drop 1) (sym (bytes-four h))

  pub tail_min : {m n : ℕ} → m ≡ min x.len 4 → n ≡ m - 1 → take n (x.b1 ∷ x.b2 ∷ x.b3 ∷ 0 ∷ []) ≡ drop 1 (bytes_of x)
  tail_min {m} {n} e f =
      by_test (leb x.len 4) (λ t. let h = leb-true x.len 4 t in tail-some n h (omega arith))
      λ t. let h = leb-false x.len 4 t in let z : n ≡ 3 = omega arith in rw z (tail-most (omega arith))

-- a byte that stands for itself
alone-plain : (b : ℕ) → alone b ≡ true → lead b ≡ Lead.plain
unfolding alone lead
alone-plain b e =
    by_test (eqb b 0x22) (λ q. true-false (rw (alone, q) at e) refl)
    (λ q. by_test (eqb b 0x5c) (λ k. true-false (rw (alone, q, k) at e) refl)
    (λ k. by_test (ltb b 0x20) (λ l. true-false (rw (alone, q, k, l) at e) refl)
    (λ l. rw (lead, q, k, l, rw (alone, q, k, l) at e))))

module _ (s : List ℕ) (i : ℕ) (h : i < length s) where
  pub text-character : (x : Char) → next paired (drop i s) ≡ Character x → text_of (drop i s) ≡ bytes_of x ++ text_of (drop (i + 1 + x.more) s)
  text-character x e =
      let c = at_cons s i h in
      ap text_of c
      ∙ decoded-character paired (byte s i) (drop (i + 1) s) (ap (next paired) (sym c) ∙ e)
      ∙ ap (λ z. bytes_of x ++ z) (text-past x.more (drop (i + 1) s) ∙ ap text_of (drop-drop x.more (i + 1) s))

  -- a byte that stands for itself
  pub next-plain : alone (byte s i) ≡ true → next paired (drop i s) ≡ char1 (byte s i) 0
  unfolding next_by
  next-plain e =
      next_led paired (drop i s) (ap lead (sym (first_byte s i)) ∙ alone-plain (byte s i) e) ∙ ap (λ b. char1 b 0) (sym (first_byte s i))

  pub text-plain : alone (byte s i) ≡ true → text_of (drop i s) ≡ byte s i ∷ text_of (drop (i + 1) s)
  text-plain e =
      let g : i + 1 + 0 ≡ i + 1 = omega arith in
      text-character _ (next-plain e) ∙ ap (λ k. byte s i ∷ text_of (drop k s)) g

-- what is left at a cursor
module _ (s : List ℕ) where
  pub left_at : (i : ℕ) (c : Cursor) → c ≡ cursor_at i → left s c ≡ text_of (drop i s)
  unfolding left
  left_at i c e = ap (left s) e

  pub left-none : (c : Cursor) → c.begun.len ≡ 0 → text_of (drop c.at s) ≡ left s c
  unfolding left
  left-none c e =
      sym (ap (λ n. take n (c.begun.b0 ∷ c.begun.b1 ∷ c.begun.b2 ∷ c.begun.b3 ∷ []) ++ text_of (drop c.at s)) e)

  -- the first byte of a character, then what is left at a cursor that has the others
  first-left : (x : Char) (d : Cursor) → 0 < x.len → bytes_of d.begun ≡ drop 1 (bytes_of x)
      → bytes_of x ++ text_of (drop d.at s) ≡ x.b0 ∷ left s d
  unfolding left
  first-left x d h e = ap (λ z. z ++ text_of (drop d.at s)) (bytes-first x h ∙ ap (λ z. x.b0 ∷ z) (sym e))

  pub left-begun : (c d : Cursor) → 0 < c.begun.len → bytes_of d.begun ≡ drop 1 (bytes_of c.begun) → c.at ≡ d.at
      → left s c ≡ c.begun.b0 ∷ left s d
  unfolding left
  left-begun c d h e g = ap (λ k. bytes_of c.begun ++ text_of (drop k s)) g ∙ first-left c.begun d h e

  module _ (i : ℕ) (h : i < length s) where
    pub left-plain : (c : Cursor) → alone (byte s i) ≡ true → c ≡ cursor_at (i + 1) → text_of (drop i s) ≡ byte s i ∷ left s c
    left-plain c e g = text-plain s i h e ∙ ap (λ z. byte s i ∷ z) (sym (left_at (i + 1) c g))

    pub left-character : (x : Char) (c : Cursor) → next paired (drop i s) ≡ Character x
        → bytes_of c.begun ≡ drop 1 (bytes_of x) → c.at ≡ i + 1 + x.more → text_of (drop i s) ≡ x.b0 ∷ left s c
    left-character x c e f g =
        text-character s i h x e ∙ ap (λ k. bytes_of x ++ text_of (drop k s)) (sym g) ∙ first-left x c (next-whole (drop i s) x e) f

    -- an escape of six bytes that stands for one
    pub left-escaped : (b : ℕ) (c : Cursor) → next paired (drop i s) ≡ char1 b 5 → c ≡ cursor_at (i + 6) → text_of (drop i s) ≡ b ∷ left s c
    left-escaped b c e g =
        let z : i + 6 ≡ i + 1 + 5 = omega arith in left-character _ c e (ap (λ (d : Cursor). bytes_of d.begun) g) (ap (λ (d : Cursor). d.at) g ∙ z)

  -- what a step tells, of bytes that are known; and what the bytes are of which it tells
  module _ {x : List ℕ} where
    pub step_end : x ≡ [] → told s None ≡ x
    unfolding told
    step_end e = sym e

    pub step-byte : {b : ℕ} (d : Cursor) → x ≡ b ∷ left s d → told s (Some (b, d)) ≡ x
    unfolding told
    step-byte d e = sym e

    pub no_byte : (r : Option (ℕ × Cursor)) → told s r ≡ x → r ≡ None → x ≡ []
    unfolding told
    no_byte r e f = sym e ∙ ap (told s) f

    pub one_byte : (r : Option (ℕ × Cursor)) (b : ℕ) (d : Cursor) → told s r ≡ x → r ≡ Some (b, d) → x ≡ b ∷ left s d
    unfolding told
    one_byte r b d e f = sym e ∙ ap (told s) f
