-- A field out of a byte string by a few of its bytes: those that hold it. The bytes behind them are divided away, those before them leave no trace in the
-- rest, and the field stands as many bits above their end as it does above the end of the whole, less the bits behind.
use mathlib.Core.List.{List, [], ◌∷◌, ◌++◌}
use mathlib.Core.Path.{◌≡◌, sym, ap, subst, ◌∙◌}
use Prim.Native.Nat.{ℕ, zero, suc, ◌+◌, ◌-◌, ◌*◌, ◌/◌, ◌%◌, ◌^◌, ◌≤◌, ◌<◌}
use native.Mathlib.Nat.{add_assoc, add-mul, div-add-mod', div-div-eq-div-mul, mul-add-div_right, mul-add-mod_self_right, mul_assoc}
use native.Mathlib.Omega.{arith}
use lib.Arith.{digits_div, digits_mod}
use lib.ListN.{length, take, drop, get_or, length-drop, length-append, take-append-drop}
use lib.Seq.{length-take-le, drop-drop}
use lib.Pow.{pow-add, pow_pos}
use Rattle.radix.specs.Radix.{weight, number}
use Rattle.radix.specs.Fields.{bases, octets, bytes_number, Bytes}
use Rattle.radix.proofs.Digits.{number-below}
use Rattle.radix.proofs.Packing.{weight-bases, octets-bits}
use Rattle.radix.proofs.Split.{number_split}

-- A field of w bits, i bits up in the lowest d bits of a number, is that field of the number.
pub in_window : (y d i w : ℕ) → i + w ≤ d → y % 2 ^ d / 2 ^ i % 2 ^ w ≡ y / 2 ^ i % 2 ^ w
in_window y d i w h =
    let c = 2 ^ (d - (i + w)) in
    let j : d ≡ d - (i + w) + w + i = omega arith in
    let power : 2 ^ d ≡ c * 2 ^ w * 2 ^ i = ap (λ x. 2 ^ x) j ∙ pow-add 2 (d - (i + w) + w) i ∙ ap (λ x. x * 2 ^ i) (pow-add 2 (d - (i + w)) w) in
    let whole : y ≡ y / 2 ^ d * c * 2 ^ w * 2 ^ i + y % 2 ^ d =
    sym (div-add-mod' y (2 ^ d)) ∙ ap (λ x. y / 2 ^ d * x + y % 2 ^ d) power
    ∙ ap (λ x. x + y % 2 ^ d) (sym (mul_assoc (y / 2 ^ d) (c * 2 ^ w) (2 ^ i)) ∙ ap (λ x. x * 2 ^ i) (sym (mul_assoc (y / 2 ^ d) c (2 ^ w)))) in
    sym (ap (λ x. x / 2 ^ i % 2 ^ w) whole
    ∙ ap (λ x. x % 2 ^ w) (mul-add-div_right (pow_pos i) (y / 2 ^ d * c * 2 ^ w) (y % 2 ^ d))
    ∙ mul-add-mod_self_right (y / 2 ^ d * c) (2 ^ w) (y % 2 ^ d / 2 ^ i))

-- elements that are all below 256 are bytes
pub bytes-all : (s : List ℕ) → ((i : ℕ) → get_or s i 0 < 256) → Bytes s
bytes-all [] f = tt
bytes-all (b ∷ s) f = (f 0, bytes-all s (λ i. f (suc i)))

-- two byte strings, one after the other
octets_append : (m k : ℕ) → bases (octets (m + k)) ≡ bases (octets m) ++ bases (octets k)
octets_append zero k = let z : 0 + k ≡ k = omega arith in ap (λ n. bases (octets n)) z
octets_append (suc m) k = let z : suc m + k ≡ suc (m + k) = omega arith in ap (λ n. bases (octets n)) z ∙ ap (λ l. 2 ^ 8 ∷ l) (octets_append m k)

octets-weight : (k : ℕ) → weight (bases (octets k)) ≡ 2 ^ (k * 8)
octets-weight k = weight-bases (octets k) ∙ ap (λ n. 2 ^ n) (octets-bits k)

-- each of them is bytes
bytes-front : (s t : List ℕ) → Bytes (s ++ t) → Bytes s
bytes-front [] t f = tt
bytes-front (b ∷ s) t f = (f.0, bytes-front s t f.1)

bytes_back : (s t : List ℕ) → Bytes (s ++ t) → Bytes t
bytes_back [] t f = f
bytes_back (b ∷ s) t f = bytes_back s t f.1

pub bytes_append : (s t : List ℕ) → Bytes s → Bytes t → bytes_number (s ++ t) ≡ bytes_number s * 2 ^ (length t * 8) + bytes_number t
unfolding bytes_number
bytes_append s t f g =
    let n : length (s ++ t) ≡ length s + length t = length-append s t in
    ap (λ k. number (bases (octets k)) (s ++ t)) n ∙ ap (λ ms. number ms (s ++ t)) (octets_append (length s) (length t))
    ∙ number_split (bases (octets (length s))) s (bases (octets (length t))) t f g
    ∙ ap (λ w. number (bases (octets (length s))) s * w + number (bases (octets (length t))) t) (octets-weight (length t))

bytes_below : (s : List ℕ) → Bytes s → bytes_number s < 2 ^ (length s * 8)
unfolding bytes_number
bytes_below s f = rw (octets-weight (length s)) at (number-below (bases (octets (length s))) s f)

-- the bytes between two others
pub between : (x y z : List ℕ) → Bytes (x ++ (y ++ z)) → bytes_number y ≡ bytes_number (x ++ (y ++ z)) / 2 ^ (length z * 8) % 2 ^ (length y * 8)
between x y z f =
    let g = bytes_back x (y ++ z) f in let fx = bytes-front x (y ++ z) f in let fy = bytes-front y z g in let fz = bytes_back y z g in
    let wy = 2 ^ (length y * 8) in let wz = 2 ^ (length z * 8) in
    let power : 2 ^ (length (y ++ z) * 8) ≡ wy * wz =
    let n : length (y ++ z) * 8 ≡ length y * 8 + length z * 8 = omega (arith, length-append y z) in ap (λ k. 2 ^ k) n ∙ pow-add 2 (length y * 8) (length z * 8) in
    let whole : bytes_number (x ++ (y ++ z)) ≡ (bytes_number x * wy + bytes_number y) * wz + bytes_number z =
    bytes_append x (y ++ z) fx g ∙ ap (λ w. bytes_number x * w + bytes_number (y ++ z)) power ∙ ap (λ k. bytes_number x * (wy * wz) + k) (bytes_append y z fy fz)
    ∙ regroup (bytes_number x) wy wz (bytes_number y) (bytes_number z) in
    sym (ap (λ n. n / wz % wy) whole ∙ ap (λ n. n % wy) (digits_div (bytes_number x * wy + bytes_number y) (bytes_below z fz)) ∙ digits_mod (bytes_number x) (bytes_below y fy))
  where
    regroup : (a b c d e : ℕ) → a * (b * c) + (d * c + e) ≡ (a * b + d) * c + e
    regroup a b c d e =
        ap (λ x. x + (d * c + e)) (sym (mul_assoc a b c)) ∙ sym (add_assoc (a * b * c) (d * c) e) ∙ ap (λ x. x + e) (sym (add-mul (a * b) d c))

module _ (s : List ℕ) (fit : Bytes s) (a b : ℕ) (g : a ≤ b) (h : b ≤ length s) where
  -- the bytes from the place a up to b
  pub window : bytes_number (take (b - a) (drop a s)) ≡ bytes_number s / 2 ^ ((length s - b) * 8) % 2 ^ ((b - a) * 8)
  window =
      let x = take a s in let y = take (b - a) (drop a s) in let z = drop b s in
      let n : length z ≡ length s - b = length-drop b s in
      let m : length y ≡ b - a = length-take-le (b - a) (drop a s) (omega (arith, length-drop a s)) in
      let k : a + (b - a) ≡ b = omega arith in
      let tail : y ++ z ≡ drop a s = ap (λ l. y ++ l) (ap (λ n. drop n s) (sym k) ∙ sym (drop-drop (b - a) a s)) ∙ take-append-drop (b - a) (drop a s) in
      let whole : x ++ (y ++ z) ≡ s = ap (λ l. x ++ l) tail ∙ take-append-drop a s in
      between x y z (subst Bytes (sym whole) fit)
      ∙ ap (λ l. bytes_number l / 2 ^ (length z * 8) % 2 ^ (length y * 8)) whole
      ∙ ap (λ n. bytes_number s / 2 ^ (n * 8) % 2 ^ (length y * 8)) n
      ∙ ap (λ m. bytes_number s / 2 ^ ((length s - b) * 8) % 2 ^ (m * 8)) m

  -- a field of w bits in them, i bits above their end
  pub window_field : (i w : ℕ) → i + w ≤ (b - a) * 8 → bytes_number (take (b - a) (drop a s)) / 2 ^ i % 2 ^ w ≡ bytes_number s / 2 ^ ((length s - b) * 8 + i) % 2 ^ w
  window_field i w l =
      let d = (length s - b) * 8 in
      ap (λ n. n / 2 ^ i % 2 ^ w) window
      ∙ in_window (bytes_number s / 2 ^ d) ((b - a) * 8) i w l
      ∙ ap (λ n. n % 2 ^ w) (div-div-eq-div-mul (bytes_number s) (2 ^ d) (2 ^ i) ∙ ap (λ n. bytes_number s / n) (sym (pow-add 2 d i)))
