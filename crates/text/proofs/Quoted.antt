-- The text of a string ends at its quotation mark: what is decoded from bytes that go on behind it is what the reader of strings reads, since both go from
-- character to character and stop at the same one. So an id can be compared where it stands, by the place where its text begins.
use mathlib.Core.List.{List, [], ◌∷◌, ◌++◌}
use mathlib.Core.Path.{◌≡◌, refl, sym, ap, ◌∙◌}
use Prim.Native.Nat.{ℕ, zero, suc}
use Rattle.lexeme.specs.declared.Next.{Next}
use Rattle.lexeme.specs.declared.Next.TheVariants.{Quote, Character, Fault}
use Rattle.lexeme.specs.Read.Read.{done}
use Rattle.lexeme.specs.Character.{bytes_of, paired, next}
use Rattle.lexeme.specs.Strings.{string, decoded}
use Rattle.lexeme.proofs.Steps.{bad-done, done_what, made-done, string-empty, string-quote, string-fault, string-character, decoded-character}
use Rattle.text.specs.Text.{text_of}
use Rattle.text.proofs.Decoding.{text-quote}

-- one character, and the rest as `rest` says
module _ (b : ℕ) (l y r : List ℕ) (e : string paired 0 (b ∷ l) ≡ done y r) where
  by_next : ((k : ℕ) (x : List ℕ) → string paired k l ≡ done x r → decoded paired k l ≡ x) → (n : Next) → next paired (b ∷ l) ≡ n → decoded paired 0 (b ∷ l) ≡ y
  by_next rest Quote q = text-quote (b ∷ l) q ∙ done_what (sym (string-quote paired b l q) ∙ e)
  by_next rest (Fault k n) q = bad-done (sym (string-fault paired b l q) ∙ e)
  by_next rest (Character x) q =
      let m = made-done (λ z. bytes_of x ++ z) (string paired x.more l) y r (sym (string-character paired b l q) ∙ e) in
      decoded-character paired b l q ∙ ap (λ z. bytes_of x ++ z) (rest x.more m.0 m.1) ∙ m.2

-- k bytes into a character
string-decoded : (l : List ℕ) (r : List ℕ) (k : ℕ) (y : List ℕ) → string paired k l ≡ done y r → decoded paired k l ≡ y
unfolding string decoded
string-decoded [] r k y e = bad-done (sym (string-empty paired k) ∙ e)
string-decoded (b ∷ l) r (suc k) y e = string-decoded l r k y e
string-decoded (b ∷ l) r zero y e = by_next b l y r e (string-decoded l r) (next paired (b ∷ l)) refl

pub text-quoted : (l y r : List ℕ) → string paired 0 l ≡ done y r → text_of l ≡ y
text-quoted l y r = string-decoded l r 0 y
