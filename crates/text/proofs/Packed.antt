-- Characters as numbers: each part is read back, since all but the last are below 256. The bytes of a character come first in the text from its place on, so
-- where two spellings have the same what follows decides their order.
use mathlib.Core.Bool.{true, false}
use mathlib.Core.List.{List, [], ◌∷◌, ◌++◌}
use mathlib.Core.Path.{◌≡◌, refl, sym, ap, subst, ◌∙◌}
use Prim.Native.Nat.{ℕ, ◌+◌, ◌-◌, ◌*◌, ◌/◌, ◌%◌, ◌≤◌, ◌<◌}
use native.Mathlib.Omega.{arith}
use lib.Dec.{ltb}
use lib.ListN.{length, take, drop, get_or}
use lib.Seq.{get_or-drop}
use borrow.Author.Tests.{lt-leb, ltb-true, ltb-false}
use Rattle.notation.proofs.Booleans.{by_test}
use Rattle.lexeme.specs.declared.Char.{Char}
use Rattle.lexeme.specs.declared.Next.TheVariants.{Character}
use Rattle.lexeme.specs.Character.{byte, bytes_of, within, encoded, quad, short, next}
use Rattle.lexeme.specs.Character.Surrogates.{paired}
use Rattle.lexeme.specs.inner.Lead.{lead, next_by}
use Rattle.lexeme.proofs.Local.{character-near}
use Rattle.lexeme.proofs.Rests.{first_byte, some_left}
use Rattle.character.specs.inner.Wide.{tail_byte, standing, Stands}
use Rattle.character.proofs.Inside.{character-inside}
use Rattle.character.proofs.Escapes.{unicode-value, escape_unicode, escape-short}
use Rattle.character.proofs.Pairs.{unit-plain}
use Rattle.character.proofs.Ranges.{within-rest, within_low}
use Rattle.character.proofs.Leads.{next-escape}
use Rattle.character.proofs.Said.{next-says}
use Rattle.text.specs.Text.{text_of}
use Rattle.text.specs.Ordering.{order_of}
use Rattle.text.specs.inner.Walk.{alone}
use Rattle.text.specs.inner.Code.{CharAt, char_of, packed, Small, Packs, Coded, CodedAs, SameCodes, width_of, SameRun, SharedAt}
use Rattle.text.proofs.Decoding.{next-plain, text-character}
use Rattle.text.proofs.Whole.{next-whole}
use Rattle.text.proofs.Ordered.{order-past}
use Rattle.std.specs.Prelude.{Ok}

-- characters at a place
module _ (s : List ℕ) (i : ℕ) (h : i < length s) {r : ℕ} where
  pub char-coded : (x : Char) → next paired (drop i s) ≡ Character x → Packs x r → Coded s i r
  char-coded x e p = record { char = x; here = record { inside = h; is = e }; packs = p }

  pub plain-coded : alone (get_or s i 0) ≡ true → Packs (char_of (get_or s i 0) 0 0 0 1 0) r → Coded s i r
  plain-coded t = char-coded (char_of (get_or s i 0) 0 0 0 1 0) (next-plain s i h t)

  pub short-coded : (x : ℕ) {b : ℕ} → get_or s i 0 ≡ 0x5c → b ≡ byte (drop i s) 1 → x ≡ short b → (x ≡ 0 → ⊥) → Packs (char_of x 0 0 0 1 1) r → Coded s i r
  unfolding short
  short-coded x {b} e f g n =
      char-coded (char_of x 0 0 0 1 1) (sym (next-escape (drop i s) (first_byte s i) e (escape-short (drop i s) f (λ u. n (g ∙ ap short u)) g n)))

  -- an escape \u that is no surrogate
  module _ {b v : ℕ} {m : List ℕ} (e : get_or s i 0 ≡ 0x5c) (f : b ≡ byte (drop i s) 1) (u : b ≡ 0x75) (d : m ≡ drop 2 (drop i s)) (q : quad m ≡ Ok v) where
    unit-coded : within 0xdc00 0xdfff v ≡ false → within 0xd800 0xdbff v ≡ false → CodedAs (encoded v 5) r → Coded s i r
    unit-coded x y c =
        char-coded c.char
        (sym (next-escape (drop i s) (first_byte s i) e (escape_unicode (drop i s) f u (unicode-value (drop i s) d refl q (unit-plain (drop i s) v refl x refl y refl)))) ∙ c.is)
        c.packs

    pub below-coded : v < 0xd800 → CodedAs (encoded v 5) r → Coded s i r
    below-coded g = unit-coded (sym (within_low 0xdc00 0xdfff v (omega arith))) (sym (within_low 0xd800 0xdbff v g))

    pub above-coded : 0xdfff < v → CodedAs (encoded v 5) r → Coded s i r
    above-coded g =
        unit-coded (sym (within-rest 0xdc00 0xdfff v (omega arith)) ∙ lt-leb v 0xdfff g) (sym (within-rest 0xd800 0xdbff v (omega arith)) ∙ lt-leb v 0xdbff (omega arith))

  -- a character past ASCII that stands for itself
  pub wide_coded : (n : ℕ) {b b1 b2 b3 : ℕ} → b ≡ get_or s i 0 → Stands (drop i s) n (next_by paired (drop i s) (lead b)) → b1 ≡ byte (drop i s) 1
      → b2 ≡ tail_byte (drop i s) n 2 → b3 ≡ tail_byte (drop i s) n 3 → Packs (char_of b b1 b2 b3 n (n - 1)) r → Coded s i r
  wide_coded n {b} {b1} {b2} {b3} e f g1 g2 g3 =
      let g0 = e ∙ first_byte s i in
      char-coded (char_of b b1 b2 b3 n (n - 1))
      (next-says (drop i s) g0 f ∙ (λ k. Character (char_of (sym g0 k) (sym g1 k) (sym g2 k) (sym g3 k) n (n - 1))))

-- the parts of a number
parts : {a b u v : ℕ} → a < 256 → b < 256 → a + 0x100 * u ≡ b + 0x100 * v → (a ≡ b) × (u ≡ v)
parts g h e = (omega arith, omega arith)

abbrev low : Char → ℕ
low x = x.b0 + 0x100 * (x.b1 + 0x100 * (x.b2 + 0x100 * (x.b3 + 0x100 * x.len)))

module _ (x : Char) (m : Small x) where
  low-some : low x < 0x100_0000_0000
  low-some = omega (arith, m.b0, m.b1, m.b2, m.b3, m.len)

  packed-low : packed x % 0x100_0000_0000 ≡ low x
  packed-low = omega (arith, low-some)

  packed_more : packed x / 0x100_0000_0000 ≡ x.more + 1
  packed_more = omega (arith, low-some)

-- characters of the same bytes
bytes_same : {a b c d k p q r t m : ℕ} → a ≡ p → b ≡ q → c ≡ r → d ≡ t → k ≡ m → take k (a ∷ b ∷ c ∷ d ∷ []) ≡ take m (p ∷ q ∷ r ∷ t ∷ [])
bytes_same e f g h n = cc

low_same : (x y : Char) → Small x → Small y → low x ≡ low y → bytes_of x ≡ bytes_of y
low_same x y m n e =
    let p = parts m.b0 n.b0 e in
    let q = parts m.b1 n.b1 p.1 in
    let r = parts m.b2 n.b2 q.1 in
    let t = parts m.b3 n.b3 r.1 in
    bytes_same p.0 q.0 r.0 t.0 t.1

-- behind a character
module _ {s : List ℕ} {i n : ℕ} {x : Char} (c : CharAt s i x) (w : n ≡ x.more + 1) where
  char-inside : i + n ≤ length s
  char-inside = omega (arith, w, character-inside paired s i c.inside x c.is)

  char-text : text_of (drop i s) ≡ bytes_of x ++ text_of (drop (i + n) s)
  char-text =
      let z : i + 1 + x.more ≡ i + n = omega (arith, w) in
      text-character s i c.inside x c.is ∙ ap (λ (k : ℕ). bytes_of x ++ text_of (drop k s)) z

-- and behind two of the same bytes
module _ {a b : List ℕ} {i j m n : ℕ} {x y : Char} (c : CharAt a i x) (v : m ≡ x.more + 1) (d : CharAt b j y) (w : n ≡ y.more + 1) where
  chars_past : bytes_of x ≡ bytes_of y → order_of (text_of (drop (i + m) a)) (text_of (drop (j + n) b)) ≡ order_of (text_of (drop i a)) (text_of (drop j b))
  chars_past e =
      let p = text_of (drop (i + m) a) in
      let q = text_of (drop (j + n) b) in
      sym (order-past (bytes_of y) p q) ∙ ap (λ (l : List ℕ). order_of (l ++ p) (bytes_of y ++ q)) (sym e)
      ∙ ap (λ (l : List ℕ). order_of l (bytes_of y ++ q)) (sym (char-text c v)) ∙ ap (order_of (text_of (drop i a))) (sym (char-text d w))

-- by their numbers
module _ {s : List ℕ} {i r : ℕ} (c : Coded s i r) where
  code-width : width_of r ≡ c.char.more + 1
  code-width = ap (λ (k : ℕ). k / 0x100_0000_0000) c.packs.is ∙ packed_more c.char c.packs.small

  pub code-some : 0 < width_of r
  code-some = omega (arith, code-width)

  pub code_inside : i + width_of r ≤ length s
  code_inside = char-inside c.here code-width

  code-low : r % 0x100_0000_0000 ≡ low c.char
  code-low = ap (λ (k : ℕ). k % 0x100_0000_0000) c.packs.is ∙ packed-low c.char c.packs.small

  -- a character has a byte at least, so its number has a lower part
  pub same_second : {y : ℕ} → SameCodes r y → 0 < y
  same_second e = let z = sym code-low ∙ e.bytes in omega (arith, z, next-whole (drop i s) c.char c.here.is)

pub same-past : {a b : List ℕ} {i j x y m n : ℕ} → Coded a i x → Coded b j y → SameCodes x y → m ≡ width_of x → n ≡ width_of y
    → order_of (text_of (drop (i + m) a)) (text_of (drop (j + n) b)) ≡ order_of (text_of (drop i a)) (text_of (drop j b))
same-past c d e v w =
    chars_past c.here (v ∙ code-width c) d.here (w ∙ code-width d)
    (low_same c.char d.char c.packs.small d.packs.small (sym (code-low c) ∙ e.bytes ∙ code-low d))

-- one that stands for itself, told in the first spelling: the second has the same bytes
module _ (a : List ℕ) (i : ℕ) (h : i < length a) (n : ℕ) (some : 0 < n) (f : Stands (drop i a) n (next_by paired (drop i a) (lead (get_or a i 0)))) where
  stands_here : CharAt a i (standing (drop i a) n)
  stands_here = record { inside = h; is = next-says (drop i a) (first_byte a i) f }

  stands-width : n ≡ n - 1 + 1
  stands-width = omega arith

  pub stands-inside : i + n ≤ length a
  stands-inside = char-inside stands_here stands-width

  pub stands_shared : (b : List ℕ) (j : ℕ) → SameRun a b i j n → SharedAt a b i j n
  stands_shared b j r =
      record {
        char = standing (drop i a) n;
        first = stands_here;
        second = record { inside = omega (arith, r.inside); is = character-near (drop i a) (drop j b) (standing (drop i a) n) (some_left a i h) stands_here.is alike };
        width = stands-width;
      }
    where
      alike : (k : ℕ) → k ≤ n - 1 → byte (drop i a) k ≡ byte (drop j b) k
      alike k p = get_or-drop i a k 0 ∙ r.same k (omega arith) ∙ sym (get_or-drop j b k 0)

module _ {a b : List ℕ} {i j n : ℕ} (c : SharedAt a b i j n) where
  pub shared_first : i + n ≤ length a
  shared_first = char-inside c.first c.width

  pub shared_second : j + n ≤ length b
  shared_second = char-inside c.second c.width

  pub shared_past : order_of (text_of (drop (i + n) a)) (text_of (drop (j + n) b)) ≡ order_of (text_of (drop i a)) (text_of (drop j b))
  shared_past = chars_past c.first c.width c.second c.width refl

-- one byte more is the same
pub run_more : (a b : List ℕ) (i j k : ℕ) → ((m : ℕ) → m < k → get_or a (i + m) 0 ≡ get_or b (j + m) 0) → get_or a (i + k) 0 ≡ get_or b (j + k) 0
    → (m : ℕ) → m < k + 1 → get_or a (i + m) 0 ≡ get_or b (j + m) 0
run_more a b i j k f e m h =
    by_test (ltb m k) (λ t. f m (ltb-true m k t)) λ t. let g = ltb-false m k t in let z : k ≡ m = omega arith in subst (λ (x : ℕ). get_or a (i + x) 0 ≡ get_or b (j + x) 0) z e
