-- RFC 3629's ranges of first bytes, and RFC 8259's unescaped characters of one byte, against `lead`, both ways.
use mathlib.Core.Bool.{true}
use mathlib.Core.Logic.{◌⊎◌, inl, inr}
use mathlib.Core.Path.{◌≡◌, subst}
use Prim.Native.Nat.{ℕ, ◌≤◌, ◌<◌}
use native.Mathlib.Omega.{arith}
use lib.Dec.{eqb, leb, ltb}
use borrow.Author.Tests.{eqb-true, ne_eqb, eqb-false, lt-ltb, le-ltb, le-leb, leb-true, ltb-true, ltb-false}
use Rattle.notation.proofs.Booleans.{by_test, true-false}
use Rattle.lexeme.specs.Character.{within}
use Rattle.lexeme.specs.inner.Lead.{Lead, lead}
use Rattle.lexeme.specs.inner.Lead.Lead.{plain, quote, backslash, wrong, two, three_e0, three, three_ed, four_f0, four, four_f4}
use Rattle.json_text.specs.Grammar.{unescaped}

-- a number between two bounds
pub between : (lo hi b : ℕ) → lo ≤ b → b ≤ hi → within lo hi b ≡ true
unfolding within
between lo hi b h k = rw (le-leb lo b h, le-leb b hi k, within)

pub bounds : (lo hi b : ℕ) → within lo hi b ≡ true → (lo ≤ b) × (b ≤ hi)
unfolding within
bounds lo hi b e =
    by_test (leb lo b)
    (λ h. (leb-true lo b h, leb-true b hi (rw (h, within) at e)))
    (λ h. true-false e (rw (h, within)))

-- an unescaped character of one byte, by its bounds
pub unescaped_bounds : (b : ℕ) → unescaped b ≡ true → (0x20 ≤ b) × (b < 0x80) × (b ≡ 0x22 → ⊥) × (b ≡ 0x5c → ⊥)
unfolding unescaped
unescaped_bounds b e =
    by_test (within 0x20 0x21 b)
    (λ h. let p = bounds 0x20 0x21 b h in (omega arith, omega arith, λ z. omega arith, λ z. omega arith))
    (λ h.
    by_test (within 0x23 0x5b b)
    (λ k. let p = bounds 0x23 0x5b b k in (omega arith, omega arith, λ z. omega arith, λ z. omega arith))
    (λ k. let p = bounds 0x5d 0x7f b (rw (h, k, unescaped) at e) in (omega arith, omega arith, λ z. omega arith, λ z. omega arith)))

pub bounds_unescaped : (b : ℕ) → 0x20 ≤ b → b < 0x80 → (b ≡ 0x22 → ⊥) → (b ≡ 0x5c → ⊥) → unescaped b ≡ true
unfolding unescaped
bounds_unescaped b lo hi n m =
    by_test (within 0x20 0x21 b) (λ h. rw (h, unescaped))
    (λ h.
    by_test (within 0x23 0x5b b) (λ k. rw (h, k, unescaped))
    (λ k. rw (h, k, unescaped) (by_test (ltb b 0x22)
    (λ t. let u = ltb-true b 0x22 t in true-false (between 0x20 0x21 b lo (omega arith)) h)
    (λ t. let u = ltb-false b 0x22 t in
    by_test (ltb b 0x5c)
    (λ v. let w = ltb-true b 0x5c v in true-false (between 0x23 0x5b b (omega (arith, n)) (omega arith)) k)
    (λ v. let w = ltb-false b 0x5c v in between 0x5d 0x7f b (omega (arith, m)) (omega arith))))))

-- first bytes of UTF-8, from their ranges
module _ (b : ℕ) where
  pub lead_plain : unescaped b ≡ true → lead b ≡ plain
  unfolding lead
  lead_plain e = let p = unescaped_bounds b e in
      rw (ne_eqb b 0x22 p.2, ne_eqb b 0x5c p.3, le-ltb b 0x20 p.0, lt-ltb b 0x80 p.1, lead)

  pub lead-two : within 0xc2 0xdf b ≡ true → lead b ≡ two
  unfolding lead
  lead-two e = let p = bounds 0xc2 0xdf b e in
      rw (ne_eqb b 0x22 (λ z. omega arith), ne_eqb b 0x5c (λ z. omega arith), le-ltb b 0x20 (omega arith), le-ltb b 0x80 (omega arith), le-ltb b 0xc2 (omega arith), lt-ltb b 0xe0 (omega arith), lead)

  pub lead-three : 0xe1 ≤ b → b ≤ 0xef → (b ≡ 0xed → ⊥) → lead b ≡ three
  unfolding lead
  lead-three h k n =
      rw (ne_eqb b 0x22 (λ z. omega arith), ne_eqb b 0x5c (λ z. omega arith), le-ltb b 0x20 (omega arith), le-ltb b 0x80 (omega arith), le-ltb b 0xc2 (omega arith), le-ltb b 0xe0 (omega arith), ne_eqb b 0xe0 (λ z. omega arith), ne_eqb b 0xed n, lt-ltb b 0xf0 (omega arith), lead)

  pub lead-four : within 0xf1 0xf3 b ≡ true → lead b ≡ four
  unfolding lead
  lead-four e = let p = bounds 0xf1 0xf3 b e in
      rw (ne_eqb b 0x22 (λ z. omega arith), ne_eqb b 0x5c (λ z. omega arith), le-ltb b 0x20 (omega arith), le-ltb b 0x80 (omega arith), le-ltb b 0xc2 (omega arith), le-ltb b 0xe0 (omega arith), ne_eqb b 0xe0 (λ z. omega arith), ne_eqb b 0xed (λ z. omega arith), le-ltb b 0xf0 (omega arith), ne_eqb b 0xf0 (λ z. omega arith), lt-ltb b 0xf4 (omega arith), lead)

-- what a first byte is, by its lead
abbrev Range : ℕ → Lead → Type 0
Range b plain = unescaped b ≡ true
Range b quote = b ≡ 0x22
Range b backslash = b ≡ 0x5c
Range b wrong = Unit {0}
Range b two = within 0xc2 0xdf b ≡ true
Range b three_e0 = b ≡ 0xe0
Range b three = (within 0xe1 0xec b ≡ true) ⊎ (within 0xee 0xef b ≡ true)
Range b three_ed = b ≡ 0xed
Range b four_f0 = b ≡ 0xf0
Range b four = within 0xf1 0xf3 b ≡ true
Range b four_f4 = b ≡ 0xf4

three-range : (b : ℕ) → 0xe0 < b → b < 0xf0 → (b ≡ 0xed → ⊥) → Range b three
three-range b h k n =
    by_test (ltb b 0xed)
    (λ t. let u = ltb-true b 0xed t in inl (between 0xe1 0xec b (omega arith) (omega arith)))
    (λ t. let u = ltb-false b 0xed t in inr (between 0xee 0xef b (omega (arith, n)) (omega arith)))

lead-range : (b : ℕ) → Range b (lead b)
unfolding lead
lead-range b =
    by_test (eqb b 0x22) (λ e. rw e (eqb-true b 0x22 e)) λ n1. rw n1
    (by_test (eqb b 0x5c) (λ e. rw e (eqb-true b 0x5c e)) λ n2. rw n2
    (by_test (ltb b 0x20) (λ e. rw e tt) λ n3. rw n3
    (by_test (ltb b 0x80) (λ e. rw e (bounds_unescaped b (ltb-false b 0x20 n3) (ltb-true b 0x80 e) (eqb-false b 0x22 n1) (eqb-false b 0x5c n2))) λ n4. rw n4
    (by_test (ltb b 0xc2) (λ e. rw e tt) λ n5. rw n5
    (by_test (ltb b 0xe0) (λ e. rw e (let p = ltb-true b 0xe0 e in between 0xc2 0xdf b (ltb-false b 0xc2 n5) (omega arith))) λ n6. rw n6
    (by_test (eqb b 0xe0) (λ e. rw e (eqb-true b 0xe0 e)) λ n7. rw n7
    (by_test (eqb b 0xed) (λ e. rw e (eqb-true b 0xed e)) λ n8. rw n8
    (by_test (ltb b 0xf0) (λ e. rw e (let p = ltb-false b 0xe0 n6 in let n = eqb-false b 0xe0 n7 in three-range b (omega (arith, n)) (ltb-true b 0xf0 e) (eqb-false b 0xed n8))) λ n9. rw n9
    (by_test (eqb b 0xf0) (λ e. rw e (eqb-true b 0xf0 e)) λ n10. rw n10
    (by_test (ltb b 0xf4) (λ e. rw e (let p = ltb-false b 0xf0 n9 in let n = eqb-false b 0xf0 n10 in let q = ltb-true b 0xf4 e in between 0xf1 0xf3 b (omega (arith, n)) (omega arith))) λ n11. rw n11
    (by_test (eqb b 0xf4) (λ e. rw e (eqb-true b 0xf4 e)) λ n12. rw n12 tt)))))))))))

pub ranged : (b : ℕ) {t : Lead} → lead b ≡ t → Range b t
ranged b e = subst (Range b) e (lead-range b)
