-- The bytes before the first mark are passed at once, for whatever passes each of them.
use mathlib.Core.Bool.{Bool, true, false, not}
use mathlib.Core.List.{List, [], ◌∷◌}
use mathlib.Core.Path.{◌≡◌, refl, sym, ap, ◌∙◌}
use Prim.Native.Nat.{ℕ, zero, suc, ◌+◌, ◌≤◌, ◌<◌}
use native.Mathlib.Omega.{arith}
use lib.Bits.{bit_and}
use lib.Dec.{eqb}
use lib.ListN.{length, take, drop, get_or, length-take, length-drop}
use lib.Seq.{drop-drop, get_or-drop, get_or-take}
use borrow.Author.Tests.{eqb-true, ne_eqb}
use Rattle.notation.proofs.Booleans.{by_test}
use Rattle.lexeme.specs.Character.{byte}
use Rattle.lexeme.specs.Numbers.{either}
use Rattle.walk.specs.inner.Mark.{before, string_mark, bracket_like, bracket_mark}
use Rattle.walk.specs.inner.Skip.{quoted, outside, enclosed}
use Rattle.walk.proofs.Quotes.{itself, quoted_itself}
use Rattle.walk.proofs.Skips.{between, enclosed-between}
use Rattle.walk.proofs.Marks.{before-mark, before-other}

module _ (mark : ℕ → Bool) where
  before-within : (l : List ℕ) → before mark l ≤ length l
  unfolding before
  before-within [] = omega arith
  before-within (b ∷ l) =
      let ih = before-within l in
      by_test (mark b) (λ t. rw (before-mark mark b l t) (omega arith)) (λ t. rw (before-other mark b l t) (omega arith))

  before_at : (l : List ℕ) → before mark l < length l → mark (get_or l (before mark l) 0) ≡ true
  unfolding before
  before_at [] h = absurd (omega arith)
  before_at (b ∷ l) h =
      let ih = before_at l in
      by_test (mark b) (λ t. rw (before-mark mark b l t) t)
      (λ t. let e = before-other mark b l t in rw e (ih (omega (arith, e))))

  module _ {A : Type 0} (f : List ℕ → A) (passes : (b : ℕ) (l : List ℕ) → mark b ≡ false → f (b ∷ l) ≡ f l) where
    before_passes : (k : ℕ) (l : List ℕ) → f l ≡ f (drop (before mark (take k l)) l)
    unfolding before
    before_passes zero l = refl
    before_passes (suc k) [] = refl
    before_passes (suc k) (b ∷ l) =
        let ih = before_passes k l in
        by_test (mark b) (λ t. rw (before-mark mark b (take k l) t))
        (λ t. rw (before-other mark b (take k l) t) (passes b l t ∙ ih))

  -- eight bytes at a place of a text
  module _ (s : List ℕ) (i n : ℕ) (h : i + 8 ≤ length s) (e : n ≡ before mark (take 8 (drop i s))) where
    eight : length (take 8 (drop i s)) ≡ 8
    eight = simp (length-take, length-drop) (omega arith)

    pub run_within : n ≤ 8
    run_within = omega (arith, before-within (take 8 (drop i s)), eight)

    pub run_ends : n < 8 → mark (byte s (i + n)) ≡ true
    run_ends k =
        let b = before_at (take 8 (drop i s)) (omega (arith, eight)) in
        ap mark (sym (get_or-take 8 (drop i s) n 0 k ∙ get_or-drop i s n 0)) ∙ ap (λ (m : ℕ). mark (get_or (take 8 (drop i s)) m 0)) e ∙ b

    pub run_passed : {A : Type 0} (f : List ℕ → A) → ((b : ℕ) (l : List ℕ) → mark b ≡ false → f (b ∷ l) ≡ f l) → f (drop i s) ≡ f (drop (i + n) s)
    run_passed f passes = before_passes f passes 8 (drop i s) ∙ ap (λ (m : ℕ). f (drop m (drop i s))) (sym e) ∙ ap f (drop-drop n i s)

pub string_passes : (b : ℕ) (l : List ℕ) → string_mark b ≡ false → quoted false (b ∷ l) ≡ quoted false l
unfolding string_mark either
string_passes b l h = quoted_itself l b (itself (λ c. not (string_mark c)) refl refl b (ap not h))

pub string-other : (b : ℕ) → string_mark b ≡ true → (b ≡ 0x22 → ⊥) → b ≡ 0x5c
unfolding string_mark either
string-other b h n = eqb-true b 0x5c (rw (ne_eqb b 0x22 n) at h)

pub bracket_passes : (n b : ℕ) (l : List ℕ) → bracket_mark b ≡ false → enclosed (suc n) outside (b ∷ l) ≡ enclosed (suc n) outside l
unfolding bracket_like bracket_mark
bracket_passes n b l h = enclosed-between n b l (between (λ c. not (bracket_mark c)) refl refl refl refl refl b (ap not h))

-- what the code finds to be like a bracket, or no quotation mark
pub like_unmarked : (b : ℕ) → bit_and b 0xd9 ≡ 0x59 → eqb b 0x22 ≡ false
like_unmarked b e = ne_eqb b 0x22 (λ i. omega (arith, e, ap (λ (c : ℕ). bit_and c 0xd9) i))

pub not_like : (b : ℕ) → (bit_and b 0xd9 ≡ 0x59 → ⊥) → bracket_like b ≡ false
unfolding bracket_like
not_like b n = ne_eqb (bit_and b 0xd9) 0x59 n

pub mark_like : (b : ℕ) → bracket_mark b ≡ true → (b ≡ 0x22 → ⊥) → bracket_like b ≡ true
unfolding bracket_mark
mark_like b h n = rw (ne_eqb b 0x22 n) at h
