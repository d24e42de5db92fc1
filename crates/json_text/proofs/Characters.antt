-- A string is read character by character: each is told by its own bytes, so it is the same alone and before any other text. So the characters of a
-- spelled string are read one after another, and a string that is read is such characters.
use mathlib.Core.List.{List, [], ◌∷◌, ◌++◌, append_assoc}
use mathlib.Core.Path.{◌≡◌, refl, sym, ap, ◌∙◌}
use Prim.Native.Nat.{ℕ, zero, suc}
use native.Mathlib.Omega.{arith}
use lib.ListN.{length, drop, get_or-append}
use lib.Seq.{drop-append_seam}
use Rattle.lexeme.specs.declared.Char.{Char}
use Rattle.lexeme.specs.declared.Next.{Next}
use Rattle.lexeme.specs.declared.Next.TheVariants.{Quote, Character, Fault}
use Rattle.lexeme.specs.Read.Read.{done}
use Rattle.lexeme.specs.Character.{paired, bytes_of, next}
use Rattle.lexeme.specs.Strings.{string}
use Rattle.lexeme.proofs.Steps.{bad-done, done_what, done-rest, made-done, made_reads, string-empty, string-inside, string-quote, string-fault, string-character, string-skip}
use Rattle.lexeme.proofs.Local.{character-near, quote-byte}
use Rattle.lexeme.proofs.StrongPrefixes.{closes}
use Rattle.json_text.specs.Spelling as Spelling
use Rattle.json_text.specs.Spelling.{Characters}

-- forwards: a character before any text, and the characters up to the closing quote
character-before : (s q : List ℕ) (x : Char) → next paired s ≡ Character x → length s ≡ suc x.more → next paired (s ++ q) ≡ Character x
character-before s q x e n = character-near s (s ++ q) x (omega arith) e (λ i h. sym (get_or-append s q 0 i (omega arith)))

-- one character, and what the string goes on with
one-read : (s rest : List ℕ) (x : Char) {y q : List ℕ} → next paired s ≡ Character x → length s ≡ suc x.more
    → string paired 0 rest ≡ done y q → string paired 0 (s ++ rest) ≡ done (bytes_of x ++ y) q
one-read [] rest x e n h = absurd (omega arith)
one-read (b ∷ s) rest x e n h =
    let m : x.more ≡ length s = omega arith in
    string-character paired b (s ++ rest) (character-before (b ∷ s) rest x e n)
    ∙ made_reads (λ y. bytes_of x ++ y)
    (string-skip paired x.more (s ++ rest) ∙ ap (λ (k : ℕ). string paired 0 (drop k (s ++ rest))) m ∙ ap (string paired 0) (drop-append_seam s rest) ∙ h)

pub characters_read : {y s : List ℕ} → Characters y s → (q : List ℕ) → string paired 0 (s ++ (0x22 ∷ q)) ≡ done y q
characters_read Characters.end q = string-quote paired 0x22 q (closes paired q)
characters_read (Characters.then {t = t} (Spelling.character {x} {s} e n) k) q =
    ap (string paired 0) (append_assoc s t (0x22 ∷ q)) ∙ one-read s (t ++ (0x22 ∷ q)) x e n (characters_read k q)

-- backwards: what was read from the kth byte of l on, up to the closing quote
record Inside (k : ℕ) (l y r : List ℕ) : Type 0 where
  past : List ℕ
  many : length past ≡ k
  part : List ℕ
  splits : l ≡ past ++ (part ++ (0x22 ∷ r))
  spells : Characters y part

quote-inside : (b : ℕ) (l : List ℕ) → next paired (b ∷ l) ≡ Quote → Inside 0 (b ∷ l) [] l
quote-inside b l e = record { past = []; many = refl; part = []; splits = ap (λ (c : ℕ). c ∷ l) (quote-byte paired b l e); spells = Characters.end }

byte_inside : (k b : ℕ) (l y r : List ℕ) → Inside k l y r → Inside (suc k) (b ∷ l) y r
byte_inside k b l y r i =
    record { past = b ∷ i.past; many = ap suc i.many; part = i.part; splits = ap (λ (m : List ℕ). b ∷ m) i.splits; spells = i.spells }

character-inside : (b : ℕ) (l : List ℕ) (x : Char) (y r : List ℕ) → next paired (b ∷ l) ≡ Character x → Inside x.more l y r
    → Inside 0 (b ∷ l) (bytes_of x ++ y) r
character-inside b l x y r e i =
    let rest = i.part ++ (0x22 ∷ r) in
    let whole : b ∷ l ≡ (b ∷ i.past) ++ rest = ap (λ (m : List ℕ). b ∷ m) i.splits in
    let n : length (b ∷ i.past) ≡ suc x.more = ap suc i.many in
    let same : next paired (b ∷ i.past) ≡ Character x =
    character-near ((b ∷ i.past) ++ rest) (b ∷ i.past) x (omega arith) (ap (next paired) (sym whole) ∙ e) (λ k h. get_or-append (b ∷ i.past) rest 0 k (omega arith)) in
    record {
      past = [];
      many = refl;
      part = (b ∷ i.past) ++ i.part;
      splits = whole ∙ sym (append_assoc (b ∷ i.past) i.part (0x22 ∷ r));
      spells = Characters.then (Spelling.character same n) i.spells;
    }

string-inside-of : (k : ℕ) (l y r : List ℕ) → string paired k l ≡ done y r → Inside k l y r
string-inside-of k [] y r e = bad-done (sym (string-empty paired k) ∙ e)
string-inside-of (suc k) (b ∷ l) y r e = byte_inside k b l y r (string-inside-of k l y r (sym (string-inside paired b l k) ∙ e))
string-inside-of zero (b ∷ l) y r e = go (next paired (b ∷ l)) refl (λ k. string-inside-of k l)
  where
    go : (o : Next) → next paired (b ∷ l) ≡ o → ((k : ℕ) (y r : List ℕ) → string paired k l ≡ done y r → Inside k l y r) → Inside 0 (b ∷ l) y r
    go Quote h ih =
        let f : done [] l ≡ done y r = sym (string-quote paired b l h) ∙ e in
        rw (← done_what f, ← done-rest f) (quote-inside b l h)
    go (Fault k n) h ih = bad-done (sym (string-fault paired b l h) ∙ e)
    go (Character x) h ih =
        let p = made-done (λ z. bytes_of x ++ z) (string paired x.more l) y r (sym (string-character paired b l h) ∙ e) in
        rw (← p.2) (character-inside b l x p.0 r h (ih x.more p.0 r p.1))

pub string_characters : (l y r : List ℕ) → string paired 0 l ≡ done y r → (s : List ℕ) × (l ≡ s ++ (0x22 ∷ r)) × Characters y s
string_characters l y r e = go (string-inside-of 0 l y r e)
  where
    at_front : (p : List ℕ) {m : List ℕ} → length p ≡ 0 → l ≡ p ++ m → l ≡ m
    at_front [] n h = h
    at_front (b ∷ p) n h = absurd (omega arith)

    go : Inside 0 l y r → (s : List ℕ) × (l ≡ s ++ (0x22 ∷ r)) × Characters y s
    go i = (i.part, at_front i.past i.many i.splits, i.spells)
