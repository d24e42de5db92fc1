-- A character lies within the text, and a fault at most one byte past it. Every character but that of a high surrogate escape is told by bytes of the
-- text, and a low escape that follows has six bytes.
use mathlib.Core.List.{List}
use mathlib.Core.Path.{◌≡◌, refl, sym, subst}
use Prim.Native.Nat.{ℕ, ◌+◌, ◌-◌, ◌≤◌, ◌<◌}
use native.Mathlib.Omega.{arith}
use lib.Dec.{eqb}
use lib.ListN.{length, drop, length-drop}
use Rattle.notation.proofs.Booleans.{by_test}
use Rattle.lexeme.specs.declared.Char.{Char}
use Rattle.lexeme.specs.declared.Next.{Next}
use Rattle.lexeme.specs.declared.Next.TheVariants.{Quote, Character, Fault}
use Rattle.lexeme.specs.Character.{Surrogates, byte, within, quad, low_of, trail, combined, encoded, alone, high, next}
use Rattle.lexeme.specs.Character.Surrogates.{paired, lone}
use Rattle.lexeme.proofs.Local.{Near, Way, near, far, next_way, encoded-char, QuadNear, quad-near}
use Rattle.lexeme.proofs.Rests.{some_left}
use Rattle.std.specs.Prelude.{Result, Option, Ok, Err, Some, None}

abbrev Inside : List ℕ → Next → Type 0
Inside l Quote = Unit {0}
Inside l (Character x) = x.more < length l
Inside l (Fault k n) = n ≤ length l

near-inside : (f : List ℕ → Next) (l : List ℕ) (o : Next) → Near f l o → Inside l o
near-inside f l Quote n = tt
near-inside f l (Character x) n = n.0
near-inside f l (Fault k m) n = n.0

-- after a high surrogate escape
abbrev TrailInside : List ℕ → Option ℕ → Type 0
TrailInside l (Some w) = 6 ≤ length l
TrailInside l None = Unit {0}

low-inside : (l : List ℕ) (q : Result ℕ ℕ) → QuadNear (drop 2 l) q → TrailInside l (low_of q)
unfolding low_of
low-inside l (Err n) i = tt
low-inside l (Ok w) i =
    let h : 4 ≤ length l - 2 = simp length-drop at i.0 in
    by_test (within 0xdc00 0xdfff w) (λ t. rw (t, low_of) (omega arith)) (λ t. rw (t, low_of) tt)

trail-inside : (l : List ℕ) → TrailInside l (trail l)
unfolding trail
trail-inside l =
    by_test (eqb (byte l 0) 0x5c) (λ a.
    by_test (eqb (byte l 1) 0x75) (λ b. rw (a, b, trail) (low-inside l (quad (drop 2 l)) (quad-near (drop 2 l))))
    λ b. rw (a, b, trail) tt)
    λ a. rw (a, trail) tt

module _ (l : List ℕ) where
  encoded-inside : (v more : ℕ) → more < length l → Inside l (encoded v more)
  encoded-inside v more h = let c = encoded-char v more in rw c.is (omega (arith, c.takes))

  high-inside : (ρ : Surrogates) (v : ℕ) (t : Option ℕ) → 5 < length l → TrailInside (drop 6 l) t → Inside l (high ρ v t)
  unfolding high alone
  high-inside paired v None h i = omega arith
  high-inside lone v None h i = encoded-inside v 5 h
  high-inside paired v (Some w) h i = let k : 6 ≤ length l - 6 = simp length-drop at i in encoded-inside (combined v w) 11 (omega arith)
  high-inside lone v (Some w) h i = let k : 6 ≤ length l - 6 = simp length-drop at i in encoded-inside (combined v w) 11 (omega arith)

next-inside : (ρ : Surrogates) (l : List ℕ) → 0 < length l → Inside l (next ρ l)
next-inside ρ l h = go (next_way ρ l h)
  where
    go : Way ρ (next ρ) l (next ρ l) → Inside l (next ρ l)
    go (near n) = near-inside (next ρ) l (next ρ l) n
    go (far v o n f) = subst (Inside l) (sym (f l (λ i p. refl))) (high-inside l ρ v (trail (drop 6 l)) n (trail-inside (drop 6 l)))

-- at a place of the text
module _ (ρ : Surrogates) (s : List ℕ) (i : ℕ) (h : i < length s) where
  pub character-inside : (x : Char) → next ρ (drop i s) ≡ Character x → i + x.more < length s
  character-inside x e =
      let p : Inside (drop i s) (Character x) = subst (Inside (drop i s)) e (next-inside ρ (drop i s) (some_left s i h)) in
      let q : x.more < length s - i = simp length-drop at p in omega arith

  pub fault-inside : (k n : ℕ) → next ρ (drop i s) ≡ Fault k n → i + n ≤ length s
  fault-inside k n e =
      let p : Inside (drop i s) (Fault k n) = subst (Inside (drop i s)) e (next-inside ρ (drop i s) (some_left s i h)) in
      let q : n ≤ length s - i = simp length-drop at p in omega arith
