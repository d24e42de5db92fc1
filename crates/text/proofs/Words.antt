-- Some bytes as one number: numbers that are equal have equal bytes. Two lists of one length are the same where each place is in bytes that are.
use mathlib.Core.Bool.{Bool, true, false}
use mathlib.Core.List.{List}
use mathlib.Core.Path.{◌≡◌, sym, ap, subst, ◌∙◌}
use Prim.Native.Nat.{ℕ, ◌+◌, ◌*◌, ◌≤◌, ◌<◌}
use native.Mathlib.Decide.{ℕ_discrete}
use native.Mathlib.Omega.{arith}
use lib.Dec.{eqb, ltb}
use lib.ListN.{length, get_or}
use lib.Seq.{ext_get_or}
use borrow.Author.Tests.{eqb-true, eqb-false, ltb-true, ltb-false}
use Rattle.notation.proofs.Booleans.{by_test}
use Rattle.text.specs.Text.{same}
use Rattle.text.specs.inner.Key.{Bytes}
use Rattle.text.specs.inner.Packed.{four, eight, SameAt}
use Rattle.text.proofs.Laws.{same_refl, same_true}

-- what holds at four places in a row
each-of-four : (P : ℕ → Type 0) (at : ℕ) → P at → P (at + 1) → P (at + 2) → P (at + 3) → (k : ℕ) → at ≤ k → k < at + 4 → P k
each-of-four P at p q r s k h l =
    elim (ℕ_discrete k at) [
      | yes e ↦ subst P (sym e) p
      | no e ↦
          elim (ℕ_discrete k (at + 1)) [
            | yes f ↦ subst P (sym f) q
            | no f ↦
                elim (ℕ_discrete k (at + 2)) [
                  | yes g ↦ subst P (sym g) r
                  | no g ↦ let z : k ≡ at + 3 = omega arith in subst P (sym z) s
                ]
          ]
    ]

-- numbers of bytes are equal byte by byte
digit : (x y u v : ℕ) → x < 256 → u < 256 → x + y * 256 ≡ u + v * 256 → (x ≡ u) × (y ≡ v)
digit x y u v p q e = (omega arith, omega arith)

module _ (a b : List ℕ) (g : Bytes a) (h : Bytes b) (at : ℕ) (e : four a at ≡ four b at) where
  all-four :
      (get_or a at 0 ≡ get_or b at 0) × (get_or a (at + 1) 0 ≡ get_or b (at + 1) 0) × (get_or a (at + 2) 0 ≡ get_or b (at + 2) 0) × (get_or a (at + 3) 0 ≡ get_or b (at + 3) 0)
  all-four =
      let first =
      digit (get_or a at 0) (get_or a (at + 1) 0 + get_or a (at + 2) 0 * 256 + get_or a (at + 3) 0 * 65536)
      (get_or b at 0) (get_or b (at + 1) 0 + get_or b (at + 2) 0 * 256 + get_or b (at + 3) 0 * 65536) (g at) (h at) (omega (arith, e)) in
      let second =
      digit (get_or a (at + 1) 0) (get_or a (at + 2) 0 + get_or a (at + 3) 0 * 256) (get_or b (at + 1) 0) (get_or b (at + 2) 0 + get_or b (at + 3) 0 * 256)
      (g (at + 1)) (h (at + 1)) (omega (arith, first.1)) in
      let third = digit (get_or a (at + 2) 0) (get_or a (at + 3) 0) (get_or b (at + 2) 0) (get_or b (at + 3) 0) (g (at + 2)) (h (at + 2)) (omega (arith, second.1)) in
      (first.0, second.0, third.0, third.1)

module _ (a b : List ℕ) (g : Bytes a) (h : Bytes b) where
  four-alike : (at : ℕ) → four a at ≡ four b at → (k : ℕ) → at ≤ k → k < at + 4 → get_or a k 0 ≡ get_or b k 0
  four-alike at e =
      let w = all-four a b g h at e in each-of-four (λ k. get_or a k 0 ≡ get_or b k 0) at w.0 w.1 w.2 w.3

  four-small : (at : ℕ) → (four a at < 4294967296) × (four b at < 4294967296)
  four-small at =
      (omega (arith, g at, g (at + 1), g (at + 2), g (at + 3)), omega (arith, h at, h (at + 1), h (at + 2), h (at + 3)))

  eight-alike : (at : ℕ) → eight a at ≡ eight b at → (k : ℕ) → at ≤ k → k < at + 8 → get_or a k 0 ≡ get_or b k 0
  eight-alike at e k l m =
      let low = halves (four a at) (four a (at + 4)) (four b at) (four b (at + 4)) (four-small at).0 (four-small at).1 e in
      by_test (ltb k (at + 4)) (λ t. four-alike at low.0 k l (ltb-true k (at + 4) t))
      λ t. four-alike (at + 4) low.1 k (ltb-false k (at + 4) t) (omega arith)
    where
      halves : (x y u v : ℕ) → x < 4294967296 → u < 4294967296 → x + y * 4294967296 ≡ u + v * 4294967296 → (x ≡ u) × (y ≡ v)
      halves x y u v p q f = (omega arith, omega arith)

  -- what a comparison of two numbers tells
  module _ (at : ℕ) {x y : ℕ} where
    pub told-four : x ≡ four a at → y ≡ four b at → SameAt 4 at a b (eqb x y)
    told-four e f =
        record {
          alike = λ t. four-alike at (sym e ∙ eqb-true x y t ∙ f);
          differ = λ t z. eqb-false x y t (e ∙ ap (λ (l : List ℕ). four l at) z ∙ sym f);
        }

    pub told-eight : x ≡ eight a at → y ≡ eight b at → SameAt 8 at a b (eqb x y)
    told-eight e f =
        record {
          alike = λ t. eight-alike at (sym e ∙ eqb-true x y t ∙ f);
          differ = λ t z. eqb-false x y t (e ∙ ap (λ (l : List ℕ). eight l at) z ∙ sym f);
        }

-- Bytes that differ somewhere are not the same.
pub differ_somewhere : {n at : ℕ} {r : Bool} (a b : List ℕ) → SameAt n at a b r → r ≡ false → false ≡ same a b
differ_somewhere a b s e = by_test (same a b) (λ t. absurd (s.differ e (same_true a b t))) λ t. sym t

-- Those before a place are the same, and so the last n, from no later place on, where they are: all are.
pub same_whole : {n at i : ℕ} {r : Bool} (a b : List ℕ) → length a ≡ length b → at + n ≡ length a → at ≤ i →
    ((k : ℕ) → k < i → get_or a k 0 ≡ get_or b k 0) → SameAt n at a b r → r ≡ same a b
same_whole {n} {at} {i} {r} a b e f h before s =
    by_test r
    (λ t.
    let every : (k : ℕ) → k < length a → get_or a k 0 ≡ get_or b k 0 = λ k l.
    by_test (ltb k i) (λ u. before k (ltb-true k i u)) λ u. s.alike t k (omega (arith, ltb-false k i u)) (omega arith) in
    t ∙ sym (ap (λ (l : List ℕ). same l b) (ext_get_or 0 a b e every) ∙ same_refl b))
    λ t. t ∙ differ_somewhere a b s t

-- n more places
pub same-before : {n i : ℕ} {r : Bool} (a b : List ℕ) → ((k : ℕ) → k < i → get_or a k 0 ≡ get_or b k 0) → SameAt n i a b r → r ≡ true →
    (k : ℕ) → k < i + n → get_or a k 0 ≡ get_or b k 0
same-before {n} {i} a b before s t k l = by_test (ltb k i) (λ u. before k (ltb-true k i u)) λ u. s.alike t k (ltb-false k i u) l
