-- One step of each question on a text's bytes: how it goes on from the first of them.
use mathlib.Core.Bool.{Bool, true, false}
use mathlib.Core.List.{List, [], ◌∷◌, map}
use mathlib.Core.Path.{◌≡◌, refl, sym, ap, ◌∙◌}
use Prim.Native.Nat.{ℕ, ◌+◌, ◌≤◌}
use lib.Dec.{eqb, leb}
use lib.ListN.{length, drop, drop_of_length-le}
use borrow.Author.Tests.{leb-true, leb-false}
use Rattle.notation.proofs.Booleans.{by_test, true-false}
use Rattle.notation.proofs.Lists.{at_cons}
use Rattle.lexeme.specs.Character.{within}
use Rattle.text.specs.Text.{same, lower, same_word}
use Rattle.text.specs.inner.Walk.{agreeing, cased}

-- small letters
pub within-most : (lo hi b : ℕ) → within lo hi b ≡ true → b ≤ hi
unfolding within
within-most lo hi b e = by_test (leb lo b) (λ t. leb-true b hi (rw (t, within) at e)) (λ t. true-false e (rw (t, within)))

pub lower_capital : (b : ℕ) → within 0x41 0x5a b ≡ true → b + 0x20 ≡ lower b
unfolding lower
lower_capital b e = rw (e, lower)

pub lower-other : (b : ℕ) → within 0x41 0x5a b ≡ false → b ≡ lower b
unfolding lower
lower-other b e = rw (e, lower)

module _ {fold : Bool} (a b : ℕ) where
  pub folded : {x y : ℕ} → fold ≡ true → x ≡ lower a → y ≡ lower b → eqb x y ≡ eqb (cased fold a) (cased fold b)
  unfolding cased
  folded e f g = rw (e, f, g, cased)

  pub unfolded : fold ≡ false → eqb a b ≡ eqb (cased fold a) (cased fold b)
  unfolding cased
  unfolded e = rw (e, cased)

-- two texts
module _ {x y : List ℕ} where
  pub same_end : x ≡ [] → y ≡ [] → same x y ≡ true
  unfolding same
  same_end e f = rw (e, f)

  module _ {b : ℕ} {v : List ℕ} (f : y ≡ b ∷ v) where
    pub same-short : x ≡ [] → same x y ≡ false
    unfolding same
    same-short e = rw (e, f)

    module _ {a : ℕ} {u : List ℕ} (e : x ≡ a ∷ u) where
      pub same_next : eqb a b ≡ true → same x y ≡ same u v
      unfolding same
      same_next t = rw (e, f, same, t)

      pub same-differ : eqb a b ≡ false → same x y ≡ false
      unfolding same
      same-differ t = rw (e, f, same, t)

  pub same-long : {a : ℕ} {u : List ℕ} → x ≡ a ∷ u → y ≡ [] → same x y ≡ false
  unfolding same
  same-long e f = rw (e, f)

-- one text ends
pub ends-text : {x : List ℕ} (y : List ℕ) → x ≡ [] → same y [] ≡ same x y
unfolding same
ends-text [] e = rw e
ends-text (b ∷ y) e = rw e

pub ends-plain : (fold : Bool) (x : List ℕ) {y : List ℕ} → y ≡ [] → same x [] ≡ agreeing fold x y
unfolding same
ends-plain fold [] e = rw e
ends-plain fold (a ∷ x) e = rw e

pub ends_at : (fold : Bool) {x : List ℕ} (y : List ℕ) (i : ℕ) → x ≡ [] → leb (length y) i ≡ agreeing fold x (drop i y)
ends_at fold y i e =
    let f = map (cased fold) in
    by_test (leb (length y) i)
    (λ t. t ∙ sym (same_end (ap f e) (ap f (drop_of_length-le y (leb-true (length y) i t)))))
    λ t. t ∙ sym (same-short (ap f (at_cons y i (leb-false (length y) i t))) (ap f e))

-- where case is not folded, bytes are compared as they are; where it is, as words are
cased-none : (x : List ℕ) → map (cased false) x ≡ x
unfolding cased
cased-none [] = refl
cased-none (b ∷ x) = ap (λ z. b ∷ z) (cased-none x)

pub agreeing-none : (x y : List ℕ) → agreeing false x y ≡ same x y
agreeing-none x y = ap (λ z. same z (map (cased false) y)) (cased-none x) ∙ ap (same x) (cased-none y)

pub agreeing-all : (x y : List ℕ) → agreeing true x y ≡ same_word x y
unfolding cased same_word
agreeing-all x y = refl
