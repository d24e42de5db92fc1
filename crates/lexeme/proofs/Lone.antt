-- Where lone surrogates pass, a string is read equally far whether a high and a low escape are taken as a pair or one by one.
-- So but for the value read, each character depends on the bytes that it takes alone.
use mathlib.Core.Bool.{true}
use mathlib.Core.List.{List, [], ◌∷◌, ◌++◌}
use mathlib.Core.Path.{◌≡◌, refl, sym, ap, subst, ◌∙◌}
use Prim.Native.Nat.{ℕ, ◌≤◌}
use native.Mathlib.Omega.{arith}
use lib.ListN.{length, drop}
use lib.Seq.{drop-drop}
use lib.Dec.{eqb}
use borrow.Author.Tests.{eqb-true}
use Rattle.notation.proofs.Booleans.{by_test}
use Rattle.lexeme.specs.declared.Char.{Char}
use Rattle.lexeme.specs.declared.Next.TheVariants.{Character}
use Rattle.lexeme.specs.Read.{Read, made}
use Rattle.lexeme.specs.Read.Read.{done, bad}
use Rattle.lexeme.specs.Character.{byte, within, bytes_of, encoded, quad, low_of, trail, combined, alone, high, unit, unicode, escape, next}
use Rattle.lexeme.specs.Character.Surrogates.{lone}
use Rattle.lexeme.specs.Strings.{string}
use Rattle.lexeme.proofs.Steps.{string-character, string-skip}
use Rattle.lexeme.proofs.Local.{Agree, Way, near, far, next_way, encoded-char}
use Rattle.std.specs.Prelude.{Result, Option, Ok, Err, Some, None}

-- a reading without its value
abbrev pub bare : {A : Type 0} → Read A → Read (Unit {0})
bare o = made (λ x. tt) o

bare-made : {A B : Type 0} (f : A → B) (o : Read A) → bare (made f o) ≡ bare o
unfolding made
bare-made f (done x r) = refl
bare-made f (bad k r) = refl

-- a character passes the bytes that it takes
pub character_passes : (b : ℕ) (q : List ℕ) (x : Char) → next lone (b ∷ q) ≡ Character x → bare (string lone 0 (b ∷ q)) ≡ bare (string lone x.more q)
character_passes b q x e = ap bare (string-character lone b q e) ∙ bare-made (λ y. bytes_of x ++ y) (string lone x.more q)

pub encoded_passes : (b : ℕ) (q : List ℕ) (v n : ℕ) → next lone (b ∷ q) ≡ encoded v n → bare (string lone 0 (b ∷ q)) ≡ bare (string lone n q)
encoded_passes b q v n e =
    let c = encoded-char v n in
    character_passes b q c.char (e ∙ c.is) ∙ ap (λ k. bare (string lone k q)) c.takes

-- what follows a high surrogate escape as a low one is read alone as one too
no-low : {A : Type 0} {w : ℕ} → None ≡ Some w → A
no-low e = let n : ◌≡◌ {A = ℕ} 0 1 = cc in absurd (omega arith)

low_of-low : (d : Result ℕ ℕ) (w : ℕ) → low_of d ≡ Some w → (d ≡ Ok w) × (within 0xdc00 0xdfff w ≡ true)
unfolding low_of
low_of-low (Err n) w e = no-low e
low_of-low (Ok v) w e =
    by_test (within 0xdc00 0xdfff v)
    (λ a. let f : Some v ≡ Some w = rw a at e in let n : v ≡ w = cc in (ap Ok n, rw n at a))
    (λ a. no-low (rw a at e))

low-next : (m : List ℕ) (w : ℕ) → trail m ≡ Some w → next lone m ≡ encoded w 5
unfolding trail next escape unicode unit alone
low-next m w e =
    by_test (eqb (byte m 0) 0x5c)
    (λ a. by_test (eqb (byte m 1) 0x75)
    (λ b.
    let p = low_of-low (quad (drop 2 m)) w (rw (a, b) at e) in
    rw (eqb-true (byte m 0) 0x5c a, b, p.0, p.1))
    (λ b. no-low (rw (a, b) at e)))
    (λ a. no-low (rw a at e))

low_passes : (m : List ℕ) (w : ℕ) → trail m ≡ Some w → bare (string lone 0 m) ≡ bare (string lone 0 (drop 6 m))
low_passes [] w e = unfold trail in no-low e
low_passes (c ∷ m) w e = encoded_passes c m w 5 (low-next (c ∷ m) w e) ∙ ap bare (string-skip lone 5 m)

pub high_passes : (b : ℕ) (q : List ℕ) (v : ℕ) → next lone (b ∷ q) ≡ high lone v (trail (drop 5 q)) → bare (string lone 0 (b ∷ q)) ≡ bare (string lone 5 q)
unfolding high alone
high_passes b q v e = go (trail (drop 5 q)) refl
  where
    go : (t : Option ℕ) → trail (drop 5 q) ≡ t → bare (string lone 0 (b ∷ q)) ≡ bare (string lone 5 q)
    go None h = encoded_passes b q v 5 (e ∙ ap (high lone v) h)
    go (Some w) h =
        encoded_passes b q (combined v w) 11 (e ∙ ap (high lone v) h)
        ∙ ap bare (string-skip lone 11 q) ∙ ap (λ m. bare (string lone 0 m)) (sym (drop-drop 6 5 q))
        ∙ sym (low_passes (drop 5 q) w h) ∙ sym (ap bare (string-skip lone 5 q))

-- the bytes that a character takes at b ∷ l, whatever follows them: some number after the first
pub record Passes (b : ℕ) (l : List ℕ) : Type 0 where
  pub more : ℕ
  pub there : more ≤ length l
  pub on : (q : List ℕ) → Agree more (b ∷ l) (b ∷ q) → bare (string lone 0 (b ∷ q)) ≡ bare (string lone more q)

pub passes : (b : ℕ) (l : List ℕ) (x : Char) → next lone (b ∷ l) ≡ Character x → Passes b l
passes b l x e = go (subst (Way lone (next lone) (b ∷ l)) e (next_way lone (b ∷ l) (omega arith)))
  where
    go : Way lone (next lone) (b ∷ l) (Character x) → Passes b l
    go (near w) = record { more = x.more; there = omega (arith, w.0); on = λ q g. character_passes b q x (w.1 (b ∷ q) g) }
    go (far v f there w) = record { more = 5; there = omega arith; on = λ q g. high_passes b q v (w (b ∷ q) g) }
