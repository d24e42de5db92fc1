-- A word tells the first mark among its bytes. No sum in it leaves its byte, so it is worked out byte by byte, and what it makes of a byte is computed for
-- all 256: bit 7 where the byte is a mark, and nothing elsewhere. The zeros below the lowest such bit are eight for each byte before the first mark.
use mathlib.Core.Bool.{Bool, true, false}
use mathlib.Core.List.{List, [], ◌∷◌}
use mathlib.Core.Path.{◌≡◌, refl, sym, ap, ap₂, ◌∙◌}
use Prim.Native.Nat.{ℕ, zero, suc, ◌+◌, ◌*◌, ◌/◌, ◌%◌, ◌<◌, ◌≤◌}
use native.Mathlib.Nat.{mul-mod_left, mul-div_cancel, zero-lt-suc}
use native.Mathlib.Omega.{arith}
use lib.Bits.{bit_and, bit_or, bit_xor, and_block, or_block, xor_block, and_le_r, and_lt, or_lt, xor_lt}
use lib.Count.{count_trailing_zeros}
use lib.Dec.{eqb}
use lib.ListN.{length, take, drop, get_or, length-take, length-drop}
use lib.Seq.{get_or-drop}
use borrow.Author.Tests.{eqb-true}
use Rattle.notation.specs.Choice.{◌⇒◌else◌}
use Rattle.notation.proofs.Booleans.{by_test}
use Rattle.notation.proofs.Lists.{at_cons}
use Rattle.lexeme.specs.Numbers.{either}
use Rattle.lexeme.proofs.Table.{table, every, at}
use Rattle.walk.specs.inner.Mark.{packed, before, string_mark, bracket_like, bracket_mark}

abbrev Bytes : List ℕ → Type 0
Bytes [] = Unit {0}
Bytes (b ∷ l) = (b < 256) × Bytes l

-- the bytes at a place of a text
bytes-front : (k : ℕ) (l : List ℕ) → ((i : ℕ) → get_or l i 0 < 256) → Bytes (take k l)
bytes-front zero l h = tt
bytes-front (suc k) [] h = tt
bytes-front (suc k) (b ∷ l) h = (h 0, bytes-front k l (λ i. h (suc i)))

bytes-at : (k : ℕ) (s : List ℕ) (at : ℕ) → ((i : ℕ) → get_or s i 0 < 256) → Bytes (take k (drop at s))
bytes-at k s at h = bytes-front k (drop at s) (λ i. rw get_or-drop (h (at + i)))

one_more_lem : (k : ℕ) (s : List ℕ) (at next : ℕ) → at < length s → at + 1 ≡ next → take (suc k) (drop at s) ≡ get_or s at 0 ∷ take k (drop next s)
one_more_lem k s at next h e = ap (take (suc k)) (at_cons s at h) ∙ ap (λ (i : ℕ). get_or s at 0 ∷ take k (drop i s)) e

pub eight-at : (s : List ℕ) (at : ℕ) → at + 8 ≤ length s
    → packed (take 8 (drop at s)) ≡ get_or s at 0 + get_or s (at + 1) 0 * 256 + get_or s (at + 2) 0 * 65536 + get_or s (at + 3) 0 * 16777216
    + get_or s (at + 4) 0 * 4294967296 + get_or s (at + 5) 0 * 1099511627776 + get_or s (at + 6) 0 * 281474976710656 + get_or s (at + 7) 0 * 72057594037927936
unfolding packed
eight-at s at h =
    ap packed (one_more_lem 7 s at (at + 1) (omega arith) refl
    ∙ ap (λ (l : List ℕ). get_or s at 0 ∷ l) (one_more_lem 6 s (at + 1) (at + 2) (omega arith) (omega arith)
    ∙ ap (λ (l : List ℕ). get_or s (at + 1) 0 ∷ l) (one_more_lem 5 s (at + 2) (at + 3) (omega arith) (omega arith)
    ∙ ap (λ (l : List ℕ). get_or s (at + 2) 0 ∷ l) (one_more_lem 4 s (at + 3) (at + 4) (omega arith) (omega arith)
    ∙ ap (λ (l : List ℕ). get_or s (at + 3) 0 ∷ l) (one_more_lem 3 s (at + 4) (at + 5) (omega arith) (omega arith)
    ∙ ap (λ (l : List ℕ). get_or s (at + 4) 0 ∷ l) (one_more_lem 2 s (at + 5) (at + 6) (omega arith) (omega arith)
    ∙ ap (λ (l : List ℕ). get_or s (at + 5) 0 ∷ l) (one_more_lem 1 s (at + 6) (at + 7) (omega arith) (omega arith)
    ∙ ap (λ (l : List ℕ). get_or s (at + 6) 0 ∷ l) (one_more_lem 0 s (at + 7) (at + 8) (omega arith) (omega arith))))))))) ∙ omega arith

-- k bytes of c
abbrev each : ℕ → ℕ → ℕ
each c zero = 0
each c (suc k) = each c k * 256 + c

-- where w under m is not v, byte by byte: bit 7, for s of bytes 0x7f
abbrev pub unlike : ℕ → ℕ → ℕ → ℕ → ℕ
unlike s m v w = bit_xor (bit_and w m) v + s

-- where it is one of two, and bit 7 of w is not set: bit 7, for h of bytes 0x80
abbrev found : ℕ → ℕ → ℕ → ℕ → ℕ → ℕ → ℕ → ℕ
found s h m v n u w = bit_xor (bit_and (bit_or (bit_and (unlike s m v w) (unlike s n u w)) w) h) h

module _ (b m v : ℕ) (m-low : m < 128) (v_low : v < 128) where
  xor_low : bit_xor (bit_and b m) v < 128
  xor_low = xor_lt 7 (bit_and b m) v (omega (arith, and_le_r b m)) v_low

  unlike_low : unlike 127 m v b < 256
  unlike_low = omega (arith, xor_low)

  unlike_block : b < 256 → (s w a c : ℕ) → unlike (s * 256 + 127) (a * 256 + m) (c * 256 + v) (w * 256 + b) ≡ unlike s a c w * 256 + unlike 127 m v b
  unlike_block h s w a c =
      let one : bit_and (w * 256 + b) (a * 256 + m) ≡ bit_and w a * 256 + bit_and b m = and_block 8 w a b m h (omega arith) in
      let two : bit_xor (bit_and w a * 256 + bit_and b m) (c * 256 + v) ≡ bit_xor (bit_and w a) c * 256 + bit_xor (bit_and b m) v =
      xor_block 8 (bit_and w a) c (bit_and b m) v (omega (arith, and_le_r b m)) (omega arith) in
      ap (λ (x : ℕ). bit_xor x (c * 256 + v) + (s * 256 + 127)) one ∙ ap (λ (x : ℕ). x + (s * 256 + 127)) two ∙ omega arith

module _ (m v n u : ℕ) (m-low : m < 128) (v_low : v < 128) (n-low : n < 128) (u-low : u < 128) where
  found_block : (b : ℕ) → b < 256 → (s h w a c d e : ℕ)
      → found (s * 256 + 127) (h * 256 + 128) (a * 256 + m) (c * 256 + v) (d * 256 + n) (e * 256 + u) (w * 256 + b)
      ≡ found s h a c d e w * 256 + found 127 128 m v n u b
  found_block b k s h w a c d e =
      let x = unlike s a c w in let y = unlike s d e w in let p = unlike 127 m v b in let q = unlike 127 n u b in
      let p-low : p < 256 = unlike_low b m v m-low v_low in
      let q-low : q < 256 = unlike_low b n u n-low u-low in
      let pq-low : bit_and p q < 256 = and_lt 8 p q p-low q-low in
      let or-low : bit_or (bit_and p q) b < 256 = or_lt 8 (bit_and p q) b pq-low k in
      let top-low : bit_and (bit_or (bit_and p q) b) 128 < 256 = and_lt 8 (bit_or (bit_and p q) b) 128 or-low (omega arith) in
      ap₂ (λ (i j : ℕ). bit_xor (bit_and (bit_or (bit_and i j) (w * 256 + b)) (h * 256 + 128)) (h * 256 + 128))
      (unlike_block b m v m-low v_low k s w a c) (unlike_block b n u n-low u-low k s w d e)
      ∙ ap (λ (i : ℕ). bit_xor (bit_and (bit_or i (w * 256 + b)) (h * 256 + 128)) (h * 256 + 128)) (and_block 8 x y p q p-low q-low)
      ∙ ap (λ (i : ℕ). bit_xor (bit_and i (h * 256 + 128)) (h * 256 + 128)) (or_block 8 (bit_and x y) w (bit_and p q) b pq-low k)
      ∙ ap (λ (i : ℕ). bit_xor i (h * 256 + 128)) (and_block 8 (bit_or (bit_and x y) w) h (bit_or (bit_and p q) b) 128 or-low (omega arith))
      ∙ xor_block 8 (bit_and (bit_or (bit_and x y) w) h) h (bit_and (bit_or (bit_and p q) b) 128) 128 top-low (omega arith)

-- the lowest bit that is set, by the byte
trailing_even : (k a : ℕ) → count_trailing_zeros (suc k) (a * 2) ≡ suc (count_trailing_zeros k a)
unfolding count_trailing_zeros
trailing_even k a = rw (mul-mod_left a 2, mul-div_cancel a (zero-lt-suc 1))

trailing_odd : (k a : ℕ) → count_trailing_zeros (suc k) (a * 2 + 1) ≡ 0
unfolding count_trailing_zeros
trailing_odd k a = let e : (a * 2 + 1) % 2 ≡ 1 = omega arith in rw e

-- the bits of k bytes
abbrev bits : ℕ → ℕ
bits zero = 0
bits (suc k) = suc (suc (suc (suc (suc (suc (suc (suc (bits k))))))))

trailing_byte : (k a : ℕ) → count_trailing_zeros (bits (suc k)) (a * 256 + 0) ≡ suc (suc (suc (suc (suc (suc (suc (suc (count_trailing_zeros (bits k) a))))))))
trailing_byte k a =
    let e : a * 256 + 0 ≡ a * 2 * 2 * 2 * 2 * 2 * 2 * 2 * 2 = omega arith in
    rw (e, trailing_even, trailing_even, trailing_even, trailing_even, trailing_even, trailing_even, trailing_even, trailing_even)

trailing_mark : (k a : ℕ) → count_trailing_zeros (bits (suc k)) (a * 256 + 128) ≡ 7
trailing_mark k a =
    let e : a * 256 + 128 ≡ (a * 2 + 1) * 2 * 2 * 2 * 2 * 2 * 2 * 2 = omega arith in
    rw (e, trailing_even, trailing_even, trailing_even, trailing_even, trailing_even, trailing_even, trailing_even, trailing_odd)

pub before-mark : (mark : ℕ → Bool) (b : ℕ) (l : List ℕ) → mark b ≡ true → before mark (b ∷ l) ≡ 0
unfolding before
before-mark mark b l h = rw (before, h)

pub before-other : (mark : ℕ → Bool) (b : ℕ) (l : List ℕ) → mark b ≡ false → before mark (b ∷ l) ≡ suc (before mark l)
unfolding before
before-other mark b l h = rw (before, h)

module _ (m v n u : ℕ) (m-low : m < 128) (v_low : v < 128) (n-low : n < 128) (u-low : u < 128) (mark : ℕ → Bool)
    (byte : (b : ℕ) → b < 256 → found 127 128 m v n u b ≡ (mark b ⇒ 128 else 0)) where
  -- what a word of k bytes makes of w
  abbrev marks : ℕ → ℕ → ℕ
  marks k w = found (each 127 k) (each 128 k) (each m k) (each v k) (each n k) (each u k) w

  first-mark : (l : List ℕ) → Bytes l → count_trailing_zeros (bits (length l)) (marks (length l) (packed l)) / 8 ≡ before mark l
  unfolding packed before count_trailing_zeros
  first-mark [] h = refl
  first-mark (b ∷ l) h =
      let k = length l in let x = marks k (packed l) in
      let ih : count_trailing_zeros (bits k) x / 8 ≡ before mark l = first-mark l h.1 in
      let e : marks (suc k) (packed (b ∷ l)) ≡ x * 256 + (mark b ⇒ 128 else 0) =
      found_block m v n u m-low v_low n-low u-low b h.0 (each 127 k) (each 128 k) (packed l) (each m k) (each v k) (each n k) (each u k)
      ∙ ap (λ (i : ℕ). x * 256 + i) (byte b h.0) in
      ap (λ (i : ℕ). count_trailing_zeros (bits (suc k)) i / 8) e
      ∙ by_test (mark b) (λ t. rw t (ap (λ (i : ℕ). i / 8) (trailing_mark k x) ∙ sym (before-mark mark b l t)))
      (λ t. rw t (ap (λ (i : ℕ). i / 8) (trailing_byte k x) ∙ eighth (count_trailing_zeros (bits k) x) ∙ ap suc ih ∙ sym (before-other mark b l t)))
    where
      eighth : (t : ℕ) → suc (suc (suc (suc (suc (suc (suc (suc t))))))) / 8 ≡ suc (t / 8)
      eighth t = omega arith

  -- eight bytes, from what the code has found
  of-eight : (l : List ℕ) → Bytes l → length l ≡ 8 → (w x y : ℕ) → w ≡ packed l
      → x ≡ unlike (each 127 8) (each m 8) (each v 8) w → y ≡ unlike (each 127 8) (each n 8) (each u 8) w
      → count_trailing_zeros 64 (bit_xor (bit_and (bit_or (bit_and x y) w) (each 128 8)) (each 128 8)) / 8 ≡ before mark l
  of-eight l h e w x y i j k =
      ap₂ (λ (p q : ℕ). count_trailing_zeros 64 (bit_xor (bit_and (bit_or (bit_and p q) w) (each 128 8)) (each 128 8)) / 8) j k
      ∙ ap (λ (z : ℕ). count_trailing_zeros 64 (marks 8 z) / 8) i
      ∙ ap (λ (z : ℕ). count_trailing_zeros (bits z) (marks z (packed l)) / 8) (sym e) ∙ first-mark l h

-- what a word makes of a byte, computed for each
abbrev makes : (m v n u : ℕ) → (ℕ → Bool) → ℕ → ℕ → Bool
makes m v n u mark b c = eqb (found 127 128 m v n u b) (mark b ⇒ 128 else 0)

made : (m v n u : ℕ) (mark : ℕ → Bool) → every (makes m v n u mark) (table (λ b. b) 256) ≡ true
    → (b : ℕ) → b < 256 → found 127 128 m v n u b ≡ (mark b ⇒ 128 else 0)
made m v n u mark t b h = eqb-true _ _ (at (makes m v n u mark) (table (λ b. b) 256) t b h)

module _ (s : List ℕ) (at : ℕ) (h : at + 8 ≤ length s) (known : (i : ℕ) → get_or s i 0 < 256) (w x y : ℕ) (i : w ≡ packed (take 8 (drop at s)))
    (j : x ≡ unlike 0x7f7f7f7f7f7f7f7f 0x7f7f7f7f7f7f7f7f 0x2222222222222222 w) where
  there : length (take 8 (drop at s)) ≡ 8
  there = simp (length-take, length-drop) (omega arith)

  pub string-first : y ≡ unlike 0x7f7f7f7f7f7f7f7f 0x7f7f7f7f7f7f7f7f 0x5c5c5c5c5c5c5c5c w
      → count_trailing_zeros 64 (bit_xor (bit_and (bit_or (bit_and x y) w) 0x8080808080808080) 0x8080808080808080) / 8 ≡ before string_mark (take 8 (drop at s))
  unfolding string_mark either
  string-first =
      of-eight 0x7f 0x22 0x7f 0x5c (omega arith) (omega arith) (omega arith) (omega arith) string_mark (made 0x7f 0x22 0x7f 0x5c string_mark refl)
      (take 8 (drop at s)) (bytes-at 8 s at known) there w x y i j

  pub bracket-first : y ≡ unlike 0x7f7f7f7f7f7f7f7f 0x5959595959595959 0x5959595959595959 w
      → count_trailing_zeros 64 (bit_xor (bit_and (bit_or (bit_and x y) w) 0x8080808080808080) 0x8080808080808080) / 8 ≡ before bracket_mark (take 8 (drop at s))
  unfolding bracket_like bracket_mark
  bracket-first =
      of-eight 0x7f 0x22 0x59 0x59 (omega arith) (omega arith) (omega arith) (omega arith) bracket_mark (made 0x7f 0x22 0x59 0x59 bracket_mark refl)
      (take 8 (drop at s)) (bytes-at 8 s at known) there w x y i j
