-- What RFC 8259's rules pass leaves the place in a text as it was: a value closes every bracket and string that it opens, and a string's characters
-- stay inside it.
use mathlib.Core.Bool.{true}
use mathlib.Core.List.{List, [], ◌∷◌, ◌++◌}
use mathlib.Core.Path.{◌≡◌, refl, ap, ◌∙◌}
use Prim.Native.Nat.{ℕ, zero, suc, ◌+◌, ◌<◌}
use native.Mathlib.Omega.{arith}
use lib.Dec.{eqb}
use borrow.Author.Tests.{eqb-true, ne_eqb}
use Rattle.notation.proofs.Booleans.{by_test}
use Rattle.lexeme.specs.Character.{within}
use Rattle.lexeme.specs.Numbers.{digit, either}
use Rattle.lexeme.specs.Tokens.{blank}
use Rattle.json_text.specs.Spelling.{Blanks, Padded}
use Rattle.json_text.specs.Grammar.{Digits, Int, Frac, Exp, Number, tail, hex_digit, Char, Chars, String, Scalar, Elements, Enclosed, Member, Nested, Value}
use Rattle.json_text.specs.Places.{Place, outside, inside, from_outside, from_inside, step, along, placing}
use Rattle.json_text.proofs.Leads.{bounds, unescaped_bounds}

pub along_append : (p : Place) (s t : List ℕ) → along p (s ++ t) ≡ along (along p s) t
unfolding along
along_append p [] t = refl
along_append p (b ∷ s) t = along_append (step p b) s t

-- one part after another, and a byte before a part
pub further : (p : Place) {q r : Place} (s t : List ℕ) → along p s ≡ q → along q t ≡ r → along p (s ++ t) ≡ r
further p s t e f = along_append p s t ∙ ap (λ (x : Place). along x t) e ∙ f

pub onwards : (p : Place) {q r : Place} (b : ℕ) (t : List ℕ) → step p b ≡ q → along q t ≡ r → along p (b ∷ t) ≡ r
unfolding along
onwards p b t e f = ap (λ (x : Place). along x t) e ∙ f

-- outside strings: the place after s is the place before it
abbrev pub Balanced : List ℕ → Type 0
Balanced s = (n : ℕ) → along (outside n) s ≡ outside n

balanced_none : Balanced []
unfolding along
balanced_none n = refl

balanced_append : (s t : List ℕ) → Balanced s → Balanced t → Balanced (s ++ t)
balanced_append s t e f n = further (outside n) s t (e n) (f n)

-- bytes that open and close nothing
abbrev Quiet : ℕ → Type 0
Quiet b = (n : ℕ) → step (outside n) b ≡ outside n

balanced_cons : (b : ℕ) (s : List ℕ) → Quiet b → Balanced s → Balanced (b ∷ s)
balanced_cons b s e f n = onwards (outside n) b s (e n) (f n)

quiet : (b : ℕ) → (b ≡ 0x22 → ⊥) → (b ≡ 0x5b → ⊥) → (b ≡ 0x7b → ⊥) → (b ≡ 0x5d → ⊥) → (b ≡ 0x7d → ⊥) → Quiet b
unfolding placing
quiet b h i j k m n =
    rw (step, from_outside, either, ne_eqb b 0x22 h, ne_eqb b 0x5b i, ne_eqb b 0x7b j, ne_eqb b 0x5d k, ne_eqb b 0x7d m)

-- below the brackets and past the quotation mark
low_quiet : (b : ℕ) → 0x22 < b → b < 0x5b → Quiet b
low_quiet b h k = quiet b (λ i. omega arith) (λ i. omega arith) (λ i. omega arith) (λ i. omega arith) (λ i. omega arith)

digit_quiet : (b : ℕ) → digit b ≡ true → Quiet b
unfolding digit
digit_quiet b h = let p = bounds 0x30 0x39 b h in low_quiet b (omega arith) (omega arith)

either-of : (P : ℕ → Type 0) (x y b : ℕ) → P x → P y → either x y b ≡ true → P b
unfolding either
either-of P x y b f g e =
    by_test (eqb b x) (λ h. rw (eqb-true b x h) f) (λ h. rw (eqb-true b y (rw (h, either) at e)) g)

blank_quiet : (b : ℕ) → blank b ≡ true → Quiet b
unfolding blank placing
blank_quiet b e =
    by_test (either 0x20 0x09 b) (λ h. either-of Quiet 0x20 0x09 b (λ n. refl) (λ n. refl) h)
    (λ h. either-of Quiet 0x0a 0x0d b (λ n. refl) (λ n. refl) (rw (h, blank) at e))

pub blanks_balanced : {w : List ℕ} → Blanks w → Balanced w
blanks_balanced Blanks.none = balanced_none
blanks_balanced (Blanks.some {b} {w} h k) = balanced_cons b w (blank_quiet b h) (blanks_balanced k)

pub comma_quiet : (n : ℕ) → step (outside n) 0x2c ≡ outside n
unfolding placing
comma_quiet n = refl

pub colon_quiet : (n : ℕ) → step (outside n) 0x3a ≡ outside n
unfolding placing
colon_quiet n = refl

pub quote_opens : (n : ℕ) → step (outside n) 0x22 ≡ inside n
unfolding placing
quote_opens n = refl

pub quote-closes : (n : ℕ) → step (inside n) 0x22 ≡ outside n
unfolding placing
quote-closes n = refl

-- numbers
digits_balanced : {s : List ℕ} → Digits s → Balanced s
digits_balanced (Digits.one {b} h) = balanced_cons b [] (digit_quiet b h) balanced_none
digits_balanced (Digits.more {b} {s} h k) = balanced_cons b s (digit_quiet b h) (digits_balanced k)

first_quiet : (b : ℕ) → within 0x31 0x39 b ≡ true → Quiet b
first_quiet b h = let p = bounds 0x31 0x39 b h in low_quiet b (omega arith) (omega arith)

int_balanced : {s : List ℕ} → Int s → Balanced s
unfolding placing
int_balanced Int.naught = λ n. refl
int_balanced (Int.single {b} h) = balanced_cons b [] (first_quiet b h) balanced_none
int_balanced (Int.several {b} {s} h k) = balanced_cons b s (first_quiet b h) (digits_balanced k)

frac_balanced : {s : List ℕ} → Frac s → Balanced s
frac_balanced Frac.none = balanced_none
frac_balanced (Frac.point {s} k) = balanced_cons 0x2e s (low_quiet 0x2e (omega arith) (omega arith)) (digits_balanced k)

letter_quiet : (e : ℕ) → either 0x65 0x45 e ≡ true → Quiet e
unfolding placing
letter_quiet e = either-of Quiet 0x65 0x45 e (λ n. refl) (λ n. refl)

sign_quiet : (g : ℕ) → either 0x2b 0x2d g ≡ true → Quiet g
unfolding placing
sign_quiet g = either-of Quiet 0x2b 0x2d g (λ n. refl) (λ n. refl)

exp_balanced : {s : List ℕ} → Exp s → Balanced s
exp_balanced Exp.none = balanced_none
exp_balanced (Exp.bare {e} {s} h k) = balanced_cons e s (letter_quiet e h) (digits_balanced k)
exp_balanced (Exp.signed {e} {g} {s} h i k) = balanced_cons e (g ∷ s) (letter_quiet e h) (balanced_cons g s (sign_quiet g i) (digits_balanced k))

number_balanced : {s : List ℕ} → Number s → Balanced s
number_balanced (Number.plain {i} {f} {e} a b c) = balanced_append i (f ++ e) (int_balanced a) (balanced_append f e (frac_balanced b) (exp_balanced c))
number_balanced (Number.minus {i} {f} {e} a b c) =
    balanced_cons 0x2d (i ++ (f ++ e)) (low_quiet 0x2d (omega arith) (omega arith)) (balanced_append i (f ++ e) (int_balanced a) (balanced_append f e (frac_balanced b) (exp_balanced c)))

-- inside a string
abbrev Within : List ℕ → Type 0
Within s = (n : ℕ) → along (inside n) s ≡ inside n

abbrev Mute : ℕ → Type 0
Mute b = (n : ℕ) → step (inside n) b ≡ inside n

mute : (b : ℕ) → (b ≡ 0x22 → ⊥) → (b ≡ 0x5c → ⊥) → Mute b
unfolding placing
mute b h i n = rw (step, from_inside, ne_eqb b 0x22 h, ne_eqb b 0x5c i)

range_mute : (lo hi b : ℕ) → 0x5c < lo → within lo hi b ≡ true → Mute b
range_mute lo hi b over h = let p = bounds lo hi b h in mute b (λ i. omega arith) (λ i. omega arith)

tail_mute : (b : ℕ) → tail b ≡ true → Mute b
unfolding tail
tail_mute b h = range_mute 0x80 0xbf b (omega arith) h

hex_mute : (b : ℕ) → hex_digit b ≡ true → Mute b
unfolding hex_digit digit
hex_mute b e =
    by_test (within 0x30 0x39 b) (λ h. let p = bounds 0x30 0x39 b h in mute b (λ i. omega arith) (λ i. omega arith))
    (λ h. by_test (within 0x41 0x46 b) (λ k. let p = bounds 0x41 0x46 b k in mute b (λ i. omega arith) (λ i. omega arith))
    (λ k. range_mute 0x61 0x66 b (omega arith) (rw (h, k, hex_digit) at e)))

within_none : Within []
unfolding along
within_none n = refl

within_cons : (b : ℕ) (s : List ℕ) → Mute b → Within s → Within (b ∷ s)
within_cons b s e f n = onwards (inside n) b s (e n) (f n)

alone : (b : ℕ) → Mute b → Within (b ∷ [])
alone b e = within_cons b [] e within_none

escape-within : (b : ℕ) (s : List ℕ) → Within s → Within (0x5c ∷ b ∷ s)
unfolding placing
escape-within b s e n = e n

module _ (a : ℕ) (h : Mute a) where
  within2 : (b : ℕ) → Mute b → Within (a ∷ b ∷ [])
  within2 b i = within_cons a (b ∷ []) h (alone b i)

  within3 : (b c : ℕ) → Mute b → Mute c → Within (a ∷ b ∷ c ∷ [])
  within3 b c i j = within_cons a (b ∷ c ∷ []) h (within_cons b (c ∷ []) i (alone c j))

  within4 : (b c d : ℕ) → Mute b → Mute c → Mute d → Within (a ∷ b ∷ c ∷ d ∷ [])
  within4 b c d i j k = within_cons a (b ∷ c ∷ d ∷ []) h (within_cons b (c ∷ d ∷ []) i (within_cons c (d ∷ []) j (alone d k)))

char-within : {s : List ℕ} → Char s → Within s
char-within (Char.utf1 {a} h) = let p = unescaped_bounds a h in alone a (mute a p.2 p.3)
char-within (Char.utf2 {a} {b} h i) = within2 a (range_mute 0xc2 0xdf a (omega arith) h) b (tail_mute b i)
char-within (Char.utf3_e0 {b} {c} i j) = within3 0xe0 (mute 0xe0 (λ i. omega arith) (λ i. omega arith)) b c (range_mute 0xa0 0xbf b (omega arith) i) (tail_mute c j)
char-within (Char.utf3_e1 {a} {b} {c} h i j) = within3 a (range_mute 0xe1 0xec a (omega arith) h) b c (tail_mute b i) (tail_mute c j)
char-within (Char.utf3_ed {b} {c} i j) = within3 0xed (mute 0xed (λ i. omega arith) (λ i. omega arith)) b c (range_mute 0x80 0x9f b (omega arith) i) (tail_mute c j)
char-within (Char.utf3_ee {a} {b} {c} h i j) = within3 a (range_mute 0xee 0xef a (omega arith) h) b c (tail_mute b i) (tail_mute c j)
char-within (Char.utf4_f0 {b} {c} {d} i j k) =
    within4 0xf0 (mute 0xf0 (λ i. omega arith) (λ i. omega arith)) b c d (range_mute 0x90 0xbf b (omega arith) i) (tail_mute c j) (tail_mute d k)
char-within (Char.utf4_f1 {a} {b} {c} {d} h i j k) =
    within4 a (range_mute 0xf1 0xf3 a (omega arith) h) b c d (tail_mute b i) (tail_mute c j) (tail_mute d k)
char-within (Char.utf4_f4 {b} {c} {d} i j k) =
    within4 0xf4 (mute 0xf4 (λ i. omega arith) (λ i. omega arith)) b c d (range_mute 0x80 0x8f b (omega arith) i) (tail_mute c j) (tail_mute d k)
char-within (Char.short {b} h) = escape-within b [] within_none
char-within (Char.unicode {a} {b} {c} {d} h i j k) =
    escape-within 0x75 (a ∷ b ∷ c ∷ d ∷ []) (within4 a (hex_mute a h) b c d (hex_mute b i) (hex_mute c j) (hex_mute d k))

pub chars_within : {s : List ℕ} → Chars s → Within s
chars_within Chars.end = within_none
chars_within (Chars.then {s} {t} c k) = λ n. further (inside n) s t (char-within c n) (chars_within k n)

pub string_balanced : {s : List ℕ} → Chars s → (n : ℕ) → along (inside n) (s ++ (0x22 ∷ [])) ≡ outside n
string_balanced {s} k n = further (inside n) s (0x22 ∷ []) (chars_within k n) (onwards (inside n) 0x22 [] (quote-closes n) (balanced_none n))

quoted_balanced : {s : List ℕ} → String s → Balanced s
quoted_balanced (String.quoted {s} k) n = onwards (outside n) 0x22 (s ++ (0x22 ∷ [])) (quote_opens n) (string_balanced k n)

-- values
scalar_balanced : {s : List ℕ} → Scalar s → Balanced s
unfolding placing
scalar_balanced Scalar.no n = refl
scalar_balanced Scalar.null n = refl
scalar_balanced Scalar.yes n = refl
scalar_balanced (Scalar.number k) n = number_balanced k n
scalar_balanced (Scalar.string k) n = quoted_balanced k n

-- two tokens with a sign between them and blanks around that
between_balanced : {w u : List ℕ} (v : List ℕ) (c : ℕ) (s : List ℕ) → Balanced v → Blanks w → Quiet c → Blanks u → Balanced s → Balanced (v ++ w ++ (c ∷ []) ++ u ++ s)
between_balanced {w} {u} v c s e a q b f =
    balanced_append (v ++ w ++ (c ∷ []) ++ u) s
    (balanced_append (v ++ w ++ (c ∷ [])) u (balanced_append (v ++ w) (c ∷ []) (balanced_append v w e (blanks_balanced a)) (balanced_cons c [] q balanced_none)) (blanks_balanced b)) f

padded_balanced : {S : List ℕ → Type 0} → ((s : List ℕ) → S s → Balanced s) → {s : List ℕ} → Padded S s → Balanced s
padded_balanced f (Padded.padded {w} {s} {u} a k b) = balanced_append (w ++ s) u (balanced_append w s (blanks_balanced a) (f s k)) (blanks_balanced b)

module _ {S : List ℕ → Type 0} (f : (s : List ℕ) → S s → Balanced s) where
  elements_balanced : (s : List ℕ) → Elements S s → Balanced s
  elements_balanced s (Elements.last k) = f s k
  elements_balanced _ (Elements.comma {s} {w} {u} {t} k a b ks) = between_balanced s 0x2c t (f s k) a comma_quiet b (elements_balanced t ks)

  enclosed_balanced : {s : List ℕ} → Enclosed S s → Balanced s
  enclosed_balanced (Enclosed.nothing a) = blanks_balanced a
  enclosed_balanced (Enclosed.elements k) = padded_balanced elements_balanced k

  member_balanced : (s : List ℕ) → Member S s → Balanced s
  member_balanced _ (Member.colon {n} {w} {u} {v} k a b x) = between_balanced n 0x3a v (quoted_balanced k) a colon_quiet b (f v x)

bracket_balanced : (first close : ℕ) (s : List ℕ) → ((n : ℕ) → step (outside n) first ≡ outside (n + 1)) → ((n : ℕ) → step (outside (n + 1)) close ≡ outside n)
    → Balanced s → Balanced ((first ∷ []) ++ s ++ (close ∷ []))
bracket_balanced first close s up down e n =
    onwards (outside n) first (s ++ (close ∷ [])) (up n) (further (outside (n + 1)) s (close ∷ []) (e (n + 1)) (onwards (outside (n + 1)) close [] (down n) (balanced_none n)))

pub opens_array : (n : ℕ) → step (outside n) 0x5b ≡ outside (n + 1)
unfolding placing
opens_array n = refl

pub opens_object : (n : ℕ) → step (outside n) 0x7b ≡ outside (n + 1)
unfolding placing
opens_object n = refl

closes-array : (n : ℕ) → step (outside (n + 1)) 0x5d ≡ outside n
unfolding placing
closes-array n = ap outside (omega arith)

closes-object : (n : ℕ) → step (outside (n + 1)) 0x7d ≡ outside n
unfolding placing
closes-object n = ap outside (omega arith)

nested_balanced : {S : List ℕ → Type 0} → ((s : List ℕ) → S s → Balanced s) → (s : List ℕ) → Nested S s → Balanced s
nested_balanced f s (Nested.scalar k) = scalar_balanced k
nested_balanced f _ (Nested.array {s} k) = bracket_balanced 0x5b 0x5d s opens_array closes-array (enclosed_balanced f k)
nested_balanced f _ (Nested.object {s} k) = bracket_balanced 0x7b 0x7d s opens_object closes-object (enclosed_balanced (member_balanced f) k)

pub value_balanced : (d : ℕ) (s : List ℕ) → Value d s → Balanced s
value_balanced zero s k = scalar_balanced k
value_balanced (suc d) s k = nested_balanced (value_balanced d) s k
