-- A text is never longer than its spelling, since no character is longer than its own.
use mathlib.Core.Bool.{Bool, false}
use mathlib.Core.List.{List, [], ◌∷◌}
use mathlib.Core.Path.{◌≡◌, refl, ap, ◌∙◌}
use Prim.Native.Nat.{ℕ, zero, suc, ◌+◌, ◌-◌, ◌≤◌, ◌<◌}
use native.Mathlib.Omega.{arith}
use lib.ListN.{length, length-append, length-map, length-take}
use Rattle.lexeme.specs.declared.Next.{Next}
use Rattle.lexeme.specs.declared.Next.TheVariants.{Quote, Character, Fault}
use Rattle.lexeme.specs.declared.Char.{Char}
use Rattle.lexeme.specs.Character.{bytes_of, next}
use Rattle.lexeme.specs.Character.Surrogates.{paired}
use Rattle.lexeme.specs.Strings.{decoded}
use Rattle.lexeme.proofs.Steps.{decoded-character}
use Rattle.character.proofs.Inside.{character-inside}
use Rattle.text.specs.Text.{text_of}
use Rattle.text.specs.inner.Walk.{agreeing, cased}
use Rattle.text.proofs.Laws.{same-lengths}
use Rattle.text.proofs.Whole.{next-short}
use Rattle.text.proofs.Decoding.{text-quote, text-fault}

bytes-length : (x : Char) → length (bytes_of x) ≤ x.len
bytes-length x = let e = length-take x.len (x.b0 ∷ x.b1 ∷ x.b2 ∷ x.b3 ∷ []) in omega (arith, e)

-- by what stands at the front, where the rest is known to be so
module _ (b : ℕ) (r : List ℕ) (rest : (k : ℕ) → length (decoded paired k r) ≤ length r - k) where
  front_length : (o : Next) → next paired (b ∷ r) ≡ o → length (text_of (b ∷ r)) ≤ length (b ∷ r)
  front_length Quote e = let z = ap length (text-quote (b ∷ r) e) in omega (arith, z)
  front_length (Fault k n) e = let z = ap length (text-fault (b ∷ r) k n e) in omega (arith, z)
  front_length (Character x) e =
      let z = ap length (decoded-character paired b r e) ∙ length-append (bytes_of x) (decoded paired x.more r) in
      let i : 0 + x.more < length (b ∷ r) = character-inside paired (b ∷ r) 0 (omega arith) x e in
      omega (arith, z, i, bytes-length x, next-short (b ∷ r) x e, rest x.more)

-- k bytes into a character
decoded-length : (k : ℕ) (l : List ℕ) → length (decoded paired k l) ≤ length l - k
unfolding decoded
decoded-length k [] = omega arith
decoded-length (suc k) (b ∷ r) = let h = decoded-length k r in omega (arith, h)
decoded-length zero (b ∷ r) = let h = front_length b r (λ k. decoded-length k r) (next paired (b ∷ r)) refl in omega (arith, h)

pub text-length : (spelled : List ℕ) → length (text_of spelled) ≤ length spelled
text-length spelled = let h = decoded-length 0 spelled in omega (arith, h)

-- so it does not agree with more bytes than that
pub agreeing-longer : (fold : Bool) (spelled plain : List ℕ) → length spelled < length plain → agreeing fold (text_of spelled) plain ≡ false
agreeing-longer fold spelled plain h =
    same-lengths _ _ λ e.
    omega (arith, h, text-length spelled, e, length-map (text_of spelled) (cased fold), length-map plain (cased fold))
