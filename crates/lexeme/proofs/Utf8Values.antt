-- Every unescaped character is the encoding of one scalar value: by its first byte and the range of the second, the bits that its bytes leave open make a
-- value of its length, which is no surrogate and not past the greatest; and an encoding's bytes hold all the bits of its value.
use mathlib.Core.Bool.{false}
use mathlib.Core.List.{List, [], ◌∷◌, ◌++◌}
use mathlib.Core.Path.{◌≡◌, refl, sym, ap, subst, ◌∙◌}
use Prim.Native.Nat.{ℕ, ◌+◌, ◌-◌, ◌*◌, ◌/◌, ◌%◌, ◌≤◌, ◌<◌}
use native.Mathlib.Omega.{arith}
use lib.ListN.{length, drop}
use lib.Dec.{eqb, ltb}
use borrow.Author.Tests.{eqb-true, eqb-false, ltb-true, ltb-false, lt-ltb, le-ltb}
use Rattle.notation.proofs.Booleans.{by_test}
use Rattle.lexeme.specs.declared.Char.{Char}
use Rattle.lexeme.specs.declared.Next.{Next}
use Rattle.lexeme.specs.declared.Next.TheVariants.{Quote, Character, Fault}
use Rattle.lexeme.specs.Character.{Surrogates, byte, within, char1, char2, char3, char4, bytes_of, utf2, utf3, utf4, encoded, next}
use Rattle.lexeme.specs.inner.Lead.{Lead, lead, next_by}
use Rattle.lexeme.specs.inner.Lead.Lead.{plain, quote, backslash, wrong, two, three_e0, three, three_ed, four_f0, four, four_f4}
use Rattle.lexeme.specs.Utf8.{Scalar, Unescaped, bytes_in, utf8, code_point, Stands}
use Rattle.lexeme.proofs.Leads.{next-by}
use Rattle.lexeme.proofs.Rows.{here, front_splits}
use Rattle.lexeme.proofs.Utf8Reads.{bounds, below, above}

-- an encoding's bytes hold its value
open_bits : (n : ℕ) → (0x80 + n % 64) % 64 ≡ n % 64
open_bits n = omega arith

in_a_row : (v p q o x y z : ℕ) → p * 64 + x ≡ v → q * 64 + y ≡ p → o * 64 + z ≡ q → o * 262144 + z * 4096 + y * 64 + x ≡ v
in_a_row v p q o x y z e f g = omega arith

module _ (v : ℕ) where
  sixes1 : v / 64 * 64 + v % 64 ≡ v
  sixes1 = omega arith

  sixes2 : v / 4096 * 64 + v / 64 % 64 ≡ v / 64
  sixes2 = omega arith

  sixes3 : v / 262144 * 64 + v / 4096 % 64 ≡ v / 4096
  sixes3 = omega arith

  four-first : v ≤ 0x10ffff → (0xf0 + v / 262144 % 8) % 8 ≡ v / 262144
  four-first h = omega arith

pub decodes : (v : ℕ) → Scalar v → code_point (utf8 v) ≡ v
unfolding utf8 bytes_in encoded code_point
decodes v s =
    let m = s.most in
    by_test (ltb v 0x80) (λ a. rw a refl) λ a.
    by_test (ltb v 0x800) (λ b. let h = ltb-true v 0x800 b in rw (a, b) (omega arith)) λ b.
    by_test (ltb v 0x10000) (λ c. let h = ltb-true v 0x10000 c in rw (a, b, c) (omega arith)) λ c.
    rw (a, b, c, four-first v m, open_bits (v / 4096), open_bits (v / 64), open_bits v)
    (in_a_row v (v / 64) (v / 4096) (v / 262144) (v % 64) (v / 64 % 64) (v / 4096 % 64) (sixes1 v) (sixes2 v) (sixes3 v))

pub unique : (v w : ℕ) → Scalar v → Scalar w → utf8 v ≡ utf8 w → v ≡ w
unique v w s t e = sym (decodes v s) ∙ ap code_point e ∙ decodes w t

-- bytes of a value's length are the value's encoding
module _ (v more : ℕ) where
  pub encoded1 : v < 0x80 → encoded v more ≡ char1 v more
  unfolding encoded
  encoded1 h = rw (lt-ltb v 0x80 h)

  encoded2 : (a b : ℕ) → v ≡ a % 32 * 64 + b % 64 → 0xc2 ≤ a → a < 0xe0 → (0x80 ≤ b) × (b ≤ 0xbf) → encoded v more ≡ char2 a b more
  unfolding encoded
  encoded2 a b e h k t =
      let i : 0xc0 + v / 64 ≡ a = omega arith in
      let j : 0x80 + v % 64 ≡ b = omega arith in
      rw (le-ltb v 0x80 (omega arith), lt-ltb v 0x800 (omega arith), i, j)

  encoded3 : (a b c : ℕ) → v ≡ a % 16 * 4096 + b % 64 * 64 + c % 64 → 0xe0 ≤ a → a < 0xf0 → (0x80 ≤ b) × (b ≤ 0xbf) → (0x80 ≤ c) × (c ≤ 0xbf) → 0x800 ≤ v
      → encoded v more ≡ char3 a b c more
  unfolding encoded
  encoded3 a b c e h k t u l =
      let i : 0xe0 + v / 4096 ≡ a = omega arith in
      let j : 0x80 + v / 64 % 64 ≡ b = omega arith in
      let o : 0x80 + v % 64 ≡ c = omega arith in
      rw (le-ltb v 0x80 (omega arith), le-ltb v 0x800 l, lt-ltb v 0x10000 (omega arith), i, j, o)

  encoded4 : (a b c d : ℕ) → v ≡ a % 8 * 262144 + b % 64 * 4096 + c % 64 * 64 + d % 64 → 0xf0 ≤ a → a < 0xf5
      → (0x80 ≤ b) × (b ≤ 0xbf) → (0x80 ≤ c) × (c ≤ 0xbf) → (0x80 ≤ d) × (d ≤ 0xbf) → 0x10000 ≤ v → encoded v more ≡ char4 a b c d more
  unfolding encoded
  encoded4 a b c d e h k t u w l =
      let i : 0xf0 + v / 262144 % 8 ≡ a = omega arith in
      let j : 0x80 + v / 4096 % 64 ≡ b = omega arith in
      let o : 0x80 + v / 64 % 64 ≡ c = omega arith in
      let p : 0x80 + v % 64 ≡ d = omega arith in
      rw (le-ltb v 0x80 (omega arith), le-ltb v 0x800 (omega arith), le-ltb v 0x10000 l, i, j, o, p)

stands : (v : ℕ) (x : Char) (l w : List ℕ) → Unescaped v → utf8 v ≡ w → Character x ≡ encoded v (length w - 1) → l ≡ w ++ drop (length w) l → Stands v x l
stands v x l w u e f s = record { unescaped = u; encoding = rw e f; front = rw e s }

beyond : (v : ℕ) → 0x80 ≤ v → v ≤ 0x10ffff → within 0xd800 0xdfff v ≡ false → Unescaped v
beyond v h k n =
    record { scalar = record { most = k; no_surrogate = n }; no_control = omega arith; no_quote = λ z. omega arith; no_backslash = λ z. omega arith }

-- what was read, by its form
abbrev Found : List ℕ → Next → Type 0
Found l Quote = Unit {0}
Found l (Character x) = Stands (code_point (bytes_of x)) x l
Found l (Fault k n) = Unit {0}

module _ (l : List ℕ) where
  plain-found : 0x20 ≤ byte l 0 → byte l 0 < 0x80 → (byte l 0 ≡ 0x22 → ⊥) → (byte l 0 ≡ 0x5c → ⊥) → Found l (char1 (byte l 0) 0)
  unfolding code_point utf8 bytes_in
  plain-found h k n m =
      stands (byte l 0) _ l (byte l 0 ∷ [])
      (record { scalar = record { most = omega arith; no_surrogate = below 0xd800 0xdfff (byte l 0) (omega arith) }; no_control = h; no_quote = n; no_backslash = m })
      (ap bytes_in (encoded1 (byte l 0) 0 k)) (sym (encoded1 (byte l 0) 0 k)) (front_splits 1 l (here l 0 (λ z. omega arith)))

  utf2-found : 0xc2 ≤ byte l 0 → byte l 0 < 0xe0 → Found l (utf2 l)
  unfolding code_point utf8 bytes_in utf2
  utf2-found h k =
      by_test (within 0x80 0xbf (byte l 1))
      (λ a. let t = bounds 0x80 0xbf (byte l 1) a in
      let v = byte l 0 % 32 * 64 + byte l 1 % 64 in
      let e : (n : ℕ) → encoded v n ≡ char2 (byte l 0) (byte l 1) n = λ n. encoded2 v n (byte l 0) (byte l 1) refl h k t in
      rw a (stands v _ l (byte l 0 ∷ byte l 1 ∷ [])
      (beyond v (omega arith) (omega arith) (below 0xd800 0xdfff v (omega arith))) (ap bytes_in (e 0)) (sym (e 1)) (front_splits 2 l (here l 1 (λ z. omega arith)))))
      (λ a. rw a tt)

  -- a second byte from lo to hi makes no value that is too short for the form, none that is a surrogate, and none past the greatest
  utf3-found : (lo hi : ℕ) → 0x80 ≤ lo → hi ≤ 0xbf → 0xe0 ≤ byte l 0 → byte l 0 < 0xf0
      → ((v b c : ℕ) → v ≡ byte l 0 % 16 * 4096 + b % 64 * 64 + c % 64 → (lo ≤ b) × (b ≤ hi) → (0x800 ≤ v) × (within 0xd800 0xdfff v ≡ false))
      → Found l (utf3 lo hi l)
  unfolding code_point utf8 bytes_in utf3
  utf3-found lo hi i j h k fit =
      by_test (within lo hi (byte l 1))
      (λ a. by_test (within 0x80 0xbf (byte l 2))
      (λ b. let t = bounds lo hi (byte l 1) a in
      let u = bounds 0x80 0xbf (byte l 2) b in
      let v = byte l 0 % 16 * 4096 + byte l 1 % 64 * 64 + byte l 2 % 64 in
      let p = fit v (byte l 1) (byte l 2) refl t in
      let e : (n : ℕ) → encoded v n ≡ char3 (byte l 0) (byte l 1) (byte l 2) n = λ n. encoded3 v n (byte l 0) (byte l 1) (byte l 2) refl h k (omega arith, omega arith) u p.0 in
      rw (a, b) (stands v _ l (byte l 0 ∷ byte l 1 ∷ byte l 2 ∷ [])
      (beyond v (omega (arith, p.0)) (omega arith) p.1) (ap bytes_in (e 0)) (sym (e 2)) (front_splits 3 l (here l 2 (λ z. omega arith)))))
      (λ b. rw (a, b) tt))
      (λ a. rw a tt)

  utf4-found : (lo hi : ℕ) → 0x80 ≤ lo → hi ≤ 0xbf → 0xf0 ≤ byte l 0 → byte l 0 < 0xf5
      → ((v b c d : ℕ) → v ≡ byte l 0 % 8 * 262144 + b % 64 * 4096 + c % 64 * 64 + d % 64 → (lo ≤ b) × (b ≤ hi) → (0x10000 ≤ v) × (v ≤ 0x10ffff))
      → Found l (utf4 lo hi l)
  unfolding code_point utf8 bytes_in utf4
  utf4-found lo hi i j h k fit =
      by_test (within lo hi (byte l 1))
      (λ a. by_test (within 0x80 0xbf (byte l 2))
      (λ b. by_test (within 0x80 0xbf (byte l 3))
      (λ c. let t = bounds lo hi (byte l 1) a in
      let u = bounds 0x80 0xbf (byte l 2) b in
      let w = bounds 0x80 0xbf (byte l 3) c in
      let v = byte l 0 % 8 * 262144 + byte l 1 % 64 * 4096 + byte l 2 % 64 * 64 + byte l 3 % 64 in
      let p = fit v (byte l 1) (byte l 2) (byte l 3) refl t in
      let e : (n : ℕ) → encoded v n ≡ char4 (byte l 0) (byte l 1) (byte l 2) (byte l 3) n = λ n. encoded4 v n (byte l 0) (byte l 1) (byte l 2) (byte l 3) refl h k (omega arith, omega arith) u w p.0 in
      rw (a, b, c) (stands v _ l (byte l 0 ∷ byte l 1 ∷ byte l 2 ∷ byte l 3 ∷ [])
      (beyond v (omega (arith, p.0)) p.1 (above 0xd800 0xdfff v (omega (arith, p.0)))) (ap bytes_in (e 0)) (sym (e 3)) (front_splits 4 l (here l 3 (λ z. omega arith)))))
      (λ c. rw (a, b, c) tt))
      (λ b. rw (a, b) tt))
      (λ a. rw a tt)

-- what a first byte is, by its lead
abbrev Range : ℕ → Lead → Type 0
Range b plain = (0x20 ≤ b) × (b < 0x80) × (b ≡ 0x22 → ⊥) × (b ≡ 0x5c → ⊥)
Range b quote = Unit {0}
Range b backslash = b ≡ 0x5c
Range b wrong = Unit {0}
Range b two = (0xc2 ≤ b) × (b < 0xe0)
Range b three_e0 = b ≡ 0xe0
Range b three = (0xe1 ≤ b) × (b < 0xf0) × (b ≡ 0xed → ⊥)
Range b three_ed = b ≡ 0xed
Range b four_f0 = b ≡ 0xf0
Range b four = (0xf1 ≤ b) × (b < 0xf4)
Range b four_f4 = b ≡ 0xf4

ranged : (b : ℕ) → Range b (lead b)
unfolding lead
ranged b =
    by_test (eqb b 0x22) (λ e. rw e tt) λ n1. rw n1
    (by_test (eqb b 0x5c) (λ e. rw e (eqb-true b 0x5c e)) λ n2. rw n2
    (by_test (ltb b 0x20) (λ e. rw e tt) λ n3. rw n3
    (by_test (ltb b 0x80) (λ e. rw e (ltb-false b 0x20 n3, ltb-true b 0x80 e, eqb-false b 0x22 n1, eqb-false b 0x5c n2)) λ n4. rw n4
    (by_test (ltb b 0xc2) (λ e. rw e tt) λ n5. rw n5
    (by_test (ltb b 0xe0) (λ e. rw e (ltb-false b 0xc2 n5, ltb-true b 0xe0 e)) λ n6. rw n6
    (by_test (eqb b 0xe0) (λ e. rw e (eqb-true b 0xe0 e)) λ n7. rw n7
    (by_test (eqb b 0xed) (λ e. rw e (eqb-true b 0xed e)) λ n8. rw n8
    (by_test (ltb b 0xf0) (λ e. rw e (let p = ltb-false b 0xe0 n6 in let n = eqb-false b 0xe0 n7 in (omega (arith, n), ltb-true b 0xf0 e, eqb-false b 0xed n8))) λ n9. rw n9
    (by_test (eqb b 0xf0) (λ e. rw e (eqb-true b 0xf0 e)) λ n10. rw n10
    (by_test (ltb b 0xf4) (λ e. rw e (let p = ltb-false b 0xf0 n9 in let n = eqb-false b 0xf0 n10 in (omega (arith, n), ltb-true b 0xf4 e))) λ n11. rw n11
    (by_test (eqb b 0xf4) (λ e. rw e (eqb-true b 0xf4 e)) λ n12. rw n12 tt)))))))))))

found : (ρ : Surrogates) (l : List ℕ) → (byte l 0 ≡ 0x5c → ⊥) → (t : Lead) → Range (byte l 0) t → Found l (next_by ρ l t)
unfolding next_by
found ρ l n plain r = plain-found l r.0 r.1 r.2 r.3
found ρ l n quote r = tt
found ρ l n backslash r = absurd (n r)
found ρ l n wrong r = tt
found ρ l n two r = utf2-found l r.0 r.1
found ρ l n three_e0 r =
    utf3-found l 0xa0 0xbf (omega arith) (omega arith) (omega arith) (omega arith)
    (λ v b c e t. (omega arith, below 0xd800 0xdfff v (omega arith)))
found ρ l n three r =
    utf3-found l 0x80 0xbf (omega arith) (omega arith) (omega arith) r.1 (λ v b c e t. (
      omega arith,
      by_test (ltb (byte l 0) 0xed)
          (λ h. let p = ltb-true (byte l 0) 0xed h in below 0xd800 0xdfff v (omega arith))
          (λ h. let p = ltb-false (byte l 0) 0xed h in let q : 0xed < byte l 0 = omega (arith, r.2) in above 0xd800 0xdfff v (omega arith)),
    ))
found ρ l n three_ed r =
    utf3-found l 0x80 0x9f (omega arith) (omega arith) (omega arith) (omega arith)
    (λ v b c e t. (omega arith, below 0xd800 0xdfff v (omega arith)))
found ρ l n four_f0 r =
    utf4-found l 0x90 0xbf (omega arith) (omega arith) (omega arith) (omega arith) (λ v b c d e t. (omega arith, omega arith))
found ρ l n four r =
    utf4-found l 0x80 0xbf (omega arith) (omega arith) (omega arith) (omega arith) (λ v b c d e t. (omega arith, omega arith))
found ρ l n four_f4 r =
    utf4-found l 0x80 0x8f (omega arith) (omega arith) (omega arith) (omega arith) (λ v b c d e t. (omega arith, omega arith))

pub unescaped : (ρ : Surrogates) (l : List ℕ) (x : Char) → (byte l 0 ≡ 0x5c → ⊥) → next ρ l ≡ Character x → Stands (code_point (bytes_of x)) x l
unescaped ρ l x n e = subst (Found l) (sym (next-by ρ l) ∙ e) (found ρ l n (lead (byte l 0)) (ranged (byte l 0)))
