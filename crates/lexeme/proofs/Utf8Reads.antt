-- The encoding of a scalar value is read as one character: its first byte is in RFC 3629's table, and the second in the range that goes with it. This is
-- arithmetic on quotients and remainders, range by range.
use mathlib.Core.Bool.{true, false}
use mathlib.Core.List.{List, [], ◌∷◌, ◌++◌}
use mathlib.Core.Path.{◌≡◌, refl, ◌∙◌}
use Prim.Native.Nat.{ℕ, ◌+◌, ◌-◌, ◌/◌, ◌%◌, ◌≤◌, ◌<◌}
use native.Mathlib.Omega.{arith}
use lib.ListN.{length}
use lib.Dec.{leb, ltb}
use borrow.Author.Tests.{ne_eqb, ltb-true, ltb-false, lt-ltb, le-ltb, leb-true, leb-false, le-leb, lt-leb}
use Rattle.notation.proofs.Booleans.{by_test, true-false}
use Rattle.word.specs.Kinds.{not_json}
use Rattle.lexeme.specs.declared.Next.TheVariants.{Fault}
use Rattle.lexeme.specs.Character.{Surrogates, within, char1, char2, char3, char4, utf2, utf3, utf4, encoded, escape, next}
use Rattle.lexeme.specs.inner.Lead.{Lead, lead, next_by}
use Rattle.lexeme.specs.inner.Lead.Lead.{plain, two, three_e0, three, three_ed, four_f0, four, four_f4}
use Rattle.lexeme.specs.Utf8.{Unescaped, bytes_in, utf8}
use Rattle.lexeme.proofs.Leads.{next_led}

-- a number between two bounds, and outside them
module _ (lo hi b : ℕ) where
  pub between : lo ≤ b → b ≤ hi → within lo hi b ≡ true
  unfolding within
  between h k = rw (le-leb lo b h, le-leb b hi k)

  pub bounds : within lo hi b ≡ true → (lo ≤ b) × (b ≤ hi)
  unfolding within
  bounds e =
      by_test (leb lo b)
      (λ h. (leb-true lo b h, leb-true b hi (rw (h, within) at e)))
      (λ h. true-false e (rw (h, within)))

  pub outside : within lo hi b ≡ false → lo ≤ b → hi < b
  unfolding within
  outside e h = leb-false b hi (rw (le-leb lo b h, within) at e)

  pub below : b < lo → within lo hi b ≡ false
  unfolding within
  below h = rw (lt-leb lo b h)

  pub above : hi < b → within lo hi b ≡ false
  unfolding within
  above h = by_test (leb lo b) (λ e. rw (e, lt-leb b hi h)) (λ e. rw e)

tail : (n : ℕ) → within 0x80 0xbf (0x80 + n % 64) ≡ true
tail n = between 0x80 0xbf (0x80 + n % 64) (omega arith) (omega arith)

-- first bytes, from their ranges
module _ (b : ℕ) where
  lead_plain : 0x20 ≤ b → b < 0x80 → (b ≡ 0x22 → ⊥) → (b ≡ 0x5c → ⊥) → lead b ≡ plain
  unfolding lead
  lead_plain h k n m = rw (ne_eqb b 0x22 n, ne_eqb b 0x5c m, le-ltb b 0x20 h, lt-ltb b 0x80 k)

  lead-two : 0xc2 ≤ b → b < 0xe0 → lead b ≡ two
  unfolding lead
  lead-two h k =
      rw (ne_eqb b 0x22 (λ z. omega arith), ne_eqb b 0x5c (λ z. omega arith), le-ltb b 0x20 (omega arith), le-ltb b 0x80 (omega arith), le-ltb b 0xc2 h, lt-ltb b 0xe0 k)

  lead-three : 0xe1 ≤ b → b < 0xf0 → (b ≡ 0xed → ⊥) → lead b ≡ three
  unfolding lead
  lead-three h k n =
      rw (ne_eqb b 0x22 (λ z. omega arith), ne_eqb b 0x5c (λ z. omega arith), le-ltb b 0x20 (omega arith), le-ltb b 0x80 (omega arith), le-ltb b 0xc2 (omega arith), le-ltb b 0xe0 (omega arith), ne_eqb b 0xe0 (λ z. omega arith), ne_eqb b 0xed n, lt-ltb b 0xf0 k)

  lead-four : 0xf1 ≤ b → b < 0xf4 → lead b ≡ four
  unfolding lead
  lead-four h k =
      rw (ne_eqb b 0x22 (λ z. omega arith), ne_eqb b 0x5c (λ z. omega arith), le-ltb b 0x20 (omega arith), le-ltb b 0x80 (omega arith), le-ltb b 0xc2 (omega arith), le-ltb b 0xe0 (omega arith), ne_eqb b 0xe0 (λ z. omega arith), ne_eqb b 0xed (λ z. omega arith), le-ltb b 0xf0 (omega arith), ne_eqb b 0xf0 (λ z. omega arith), lt-ltb b 0xf4 k)

  lead-E0 : b ≡ 0xe0 → lead b ≡ three_e0
  unfolding lead
  lead-E0 e = rw e

  lead-ED : b ≡ 0xed → lead b ≡ three_ed
  unfolding lead
  lead-ED e = rw e

  lead-F0 : b ≡ 0xf0 → lead b ≡ four_f0
  unfolding lead
  lead-F0 e = rw e

  lead-F4 : b ≡ 0xf4 → lead b ≡ four_f4
  unfolding lead
  lead-F4 e = rw e

-- bytes that fit are read as a character, whatever follows
module _ (ρ : Surrogates) (a b c d : ℕ) (r : List ℕ) where
  reads1 : lead a ≡ plain → next ρ (a ∷ r) ≡ char1 a 0
  unfolding next_by
  reads1 e = next_led ρ (a ∷ r) e

  reads2 : lead a ≡ two → within 0x80 0xbf b ≡ true → next ρ (a ∷ b ∷ r) ≡ char2 a b 1
  unfolding next_by utf2
  reads2 e f = next_led ρ (a ∷ b ∷ r) e ∙ rw f

  utf3-reads : (lo hi : ℕ) → within lo hi b ≡ true → within 0x80 0xbf c ≡ true → utf3 lo hi (a ∷ b ∷ c ∷ r) ≡ char3 a b c 2
  unfolding utf3
  utf3-reads lo hi e f = rw (e, f)

  reads3 : (t : Lead) (lo hi : ℕ) → lead a ≡ t → next_by ρ (a ∷ b ∷ c ∷ r) t ≡ utf3 lo hi (a ∷ b ∷ c ∷ r) → lo ≤ b → b ≤ hi → within 0x80 0xbf c ≡ true
      → next ρ (a ∷ b ∷ c ∷ r) ≡ char3 a b c 2
  reads3 t lo hi e is h k f = next_led ρ (a ∷ b ∷ c ∷ r) e ∙ is ∙ utf3-reads lo hi (between lo hi b h k) f

  utf4-reads : (lo hi : ℕ) → within lo hi b ≡ true → within 0x80 0xbf c ≡ true → within 0x80 0xbf d ≡ true → utf4 lo hi (a ∷ b ∷ c ∷ d ∷ r) ≡ char4 a b c d 3
  unfolding utf4
  utf4-reads lo hi e f g = rw (e, f, g)

  reads4 : (t : Lead) (lo hi : ℕ) → lead a ≡ t → next_by ρ (a ∷ b ∷ c ∷ d ∷ r) t ≡ utf4 lo hi (a ∷ b ∷ c ∷ d ∷ r) → lo ≤ b → b ≤ hi
      → within 0x80 0xbf c ≡ true → within 0x80 0xbf d ≡ true → next ρ (a ∷ b ∷ c ∷ d ∷ r) ≡ char4 a b c d 3
  reads4 t lo hi e is h k f g = next_led ρ (a ∷ b ∷ c ∷ d ∷ r) e ∙ is ∙ utf4-reads lo hi (between lo hi b h k) f g

-- the bytes of an encoding fit
module _ (ρ : Surrogates) (v : ℕ) (r : List ℕ) where
  two-reads : 0x80 ≤ v → v < 0x800 → next ρ ((0xc0 + v / 64) ∷ (0x80 + v % 64) ∷ r) ≡ char2 (0xc0 + v / 64) (0x80 + v % 64) 1
  two-reads h k = reads2 ρ (0xc0 + v / 64) (0x80 + v % 64) 0 0 r (lead-two (0xc0 + v / 64) (omega arith) (omega arith)) (tail v)

  three-reads : 0x800 ≤ v → v < 0x10000 → within 0xd800 0xdfff v ≡ false
      → next ρ ((0xe0 + v / 4096) ∷ (0x80 + v / 64 % 64) ∷ (0x80 + v % 64) ∷ r) ≡ char3 (0xe0 + v / 4096) (0x80 + v / 64 % 64) (0x80 + v % 64) 2
  unfolding next_by
  three-reads h k n =
      by_test (ltb v 0x1000)
      (λ t. let p = ltb-true v 0x1000 t in
      reads3 ρ (0xe0 + v / 4096) (0x80 + v / 64 % 64) (0x80 + v % 64) 0 r three_e0 0xa0 0xbf (lead-E0 (0xe0 + v / 4096) (omega arith)) refl (omega arith) (omega arith) (tail v)) λ t.
      let p = ltb-false v 0x1000 t in
      by_test (within 0xd000 0xdfff v)
      (λ u. let q = bounds 0xd000 0xdfff v u in
      let s : v < 0xd800 = by_test (ltb v 0xd800) (ltb-true v 0xd800) (λ z. let y = outside 0xd800 0xdfff v n (ltb-false v 0xd800 z) in omega arith) in
      reads3 ρ (0xe0 + v / 4096) (0x80 + v / 64 % 64) (0x80 + v % 64) 0 r three_ed 0x80 0x9f (lead-ED (0xe0 + v / 4096) (omega arith)) refl (omega arith) (omega arith) (tail v))
      (λ u.
      reads3 ρ (0xe0 + v / 4096) (0x80 + v / 64 % 64) (0x80 + v % 64) 0 r three 0x80 0xbf
      (lead-three (0xe0 + v / 4096) (omega arith) (omega arith) (λ z. let y = outside 0xd000 0xdfff v u (omega arith) in omega arith)) refl (omega arith) (omega arith) (tail v))

  four-reads : 0x10000 ≤ v → v ≤ 0x10ffff
      → next ρ ((0xf0 + v / 262144 % 8) ∷ (0x80 + v / 4096 % 64) ∷ (0x80 + v / 64 % 64) ∷ (0x80 + v % 64) ∷ r)
      ≡ char4 (0xf0 + v / 262144 % 8) (0x80 + v / 4096 % 64) (0x80 + v / 64 % 64) (0x80 + v % 64) 3
  unfolding next_by
  four-reads h k =
      by_test (ltb v 0x40000)
      (λ t. let p = ltb-true v 0x40000 t in
      reads4 ρ (0xf0 + v / 262144 % 8) (0x80 + v / 4096 % 64) (0x80 + v / 64 % 64) (0x80 + v % 64) r four_f0 0x90 0xbf
      (lead-F0 (0xf0 + v / 262144 % 8) (omega arith)) refl (omega arith) (omega arith) (tail (v / 64)) (tail v)) λ t.
      let p = ltb-false v 0x40000 t in
      by_test (ltb v 0x100000)
      (λ u. let q = ltb-true v 0x100000 u in
      reads4 ρ (0xf0 + v / 262144 % 8) (0x80 + v / 4096 % 64) (0x80 + v / 64 % 64) (0x80 + v % 64) r four 0x80 0xbf
      (lead-four (0xf0 + v / 262144 % 8) (omega arith) (omega arith)) refl (omega arith) (omega arith) (tail (v / 64)) (tail v))
      (λ u. let q = ltb-false v 0x100000 u in
      reads4 ρ (0xf0 + v / 262144 % 8) (0x80 + v / 4096 % 64) (0x80 + v / 64 % 64) (0x80 + v % 64) r four_f4 0x80 0x8f
      (lead-F4 (0xf0 + v / 262144 % 8) (omega arith)) refl (omega arith) (omega arith) (tail (v / 64)) (tail v))

pub reads : (ρ : Surrogates) (v : ℕ) → Unescaped v → (r : List ℕ) → next ρ (utf8 v ++ r) ≡ encoded v (length (utf8 v) - 1)
unfolding utf8 bytes_in encoded
reads ρ v u r =
    by_test (ltb v 0x80)
    (λ a. rw a (reads1 ρ v 0 0 0 r (lead_plain v u.no_control (ltb-true v 0x80 a) u.no_quote u.no_backslash))) λ a.
    by_test (ltb v 0x800)
    (λ b. rw (a, b) (two-reads ρ v r (ltb-false v 0x80 a) (ltb-true v 0x800 b))) λ b.
    by_test (ltb v 0x10000)
    (λ c. rw (a, b, c) (three-reads ρ v r (ltb-false v 0x800 b) (ltb-true v 0x10000 c) u.scalar.no_surrogate)) λ c.
    rw (a, b, c) (four-reads ρ v r (ltb-false v 0x10000 c) u.scalar.most)

-- the other scalar values
pub single : (v : ℕ) → v < 0x80 → utf8 v ≡ v ∷ []
unfolding utf8 bytes_in encoded
single v h = rw (lt-ltb v 0x80 h)

pub control : (ρ : Surrogates) (v : ℕ) → v < 0x20 → (r : List ℕ) → next ρ (v ∷ r) ≡ Fault not_json 0
unfolding next
control ρ v h r = rw (ne_eqb v 0x22 (λ z. omega arith), ne_eqb v 0x5c (λ z. omega arith), lt-ltb v 0x20 h)

pub escapes : (ρ : Surrogates) (r : List ℕ) → next ρ (0x5c ∷ r) ≡ escape ρ (0x5c ∷ r)
unfolding next
escapes ρ r = refl
