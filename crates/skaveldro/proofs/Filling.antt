-- The loop over a buffer's bytes: after i bytes they are the first i of the encoded numbers, and the rest is as it was.
use mathlib.Core.List.{List, ◌++◌, append-nil, append_assoc}
use mathlib.Core.Path.{◌≡◌, refl}
use Prim.Native.Nat.{ℕ, ◌+◌, ◌*◌, ◌-◌, ◌/◌, ◌%◌, ◌^◌, ◌<◌, ◌≤◌}
use native.Mathlib.Nat.{zero-add}
use native.Mathlib.Numerals.{add-one}
use native.Mathlib.Omega.{arith}
use lib.ListN.{length, get_or, set, take, drop, length-append, drop_of_length-le}
use lib.Seq.{paste-suc, length-paste, take_all, take_at, drop_at, drop-drop}
use borrow.Rule.Slice.PartMut.{mid_of, put_mid}
use Rattle.skaveldro.specs.Encoding.{encoded}
use Rattle.skaveldro.proofs.Bytes.{encoded-length, encoded_append, encoded-at}

-- a buffer with the first i bytes put
unfoldable pub upto : (buffer values : List ℕ) → ℕ → List ℕ
upto buffer values i = take i (encoded values) ++ drop i buffer

pub upto-start : (buffer values : List ℕ) → buffer ≡ upto buffer values 0
unfolding upto
upto-start buffer values = refl

module _ (buffer values : List ℕ) (room : 8 * length values ≤ length buffer) where
  pub upto-length : (i : ℕ) → i ≤ 8 * length values → length (upto buffer values i) ≡ length buffer
  unfolding upto
  upto-length i h =
      let e = encoded-length values in
      rw zero-add at (length-paste buffer 0 (encoded values) i (omega arith) (omega arith))

  pub upto_next : (i : ℕ) → i / 8 < length values → set (upto buffer values i) i (get_or values (i / 8) 0 / 2 ^ (i % 8 * 8) % 2 ^ 8) ≡ upto buffer values (i + 1)
  unfolding upto
  upto_next i h =
      let e = encoded-length values in
      rw (← encoded-at values i h, add-one i) (simp zero-add at (paste-suc buffer 0 (encoded values) i 0 (omega arith) (omega arith)))

  pub upto-end : (i : ℕ) → i ≤ 8 * length values → length values ≤ i / 8 → upto buffer values i ≡ encoded values ++ drop (8 * length values) buffer
  unfolding upto
  upto-end i h l =
      let n : i ≡ 8 * length values = omega arith in
      rw (n, take_all (8 * length values) (encoded values) (omega (arith, encoded-length values)))

-- numbers put behind others, into the part of the buffer that begins there
pub behind : (buffer us vs : List ℕ) →
    let from = 8 * length us in let after = encoded us ++ drop from buffer in let size = length after - from in
    put_mid from size after (encoded vs ++ drop (8 * length vs) (mid_of from size after)) ≡ encoded (us ++ vs) ++ drop (8 * length (us ++ vs)) buffer
behind buffer us vs =
    let from = 8 * length us in let left = drop from buffer in let size = length (encoded us ++ left) - from in
    let long : length left ≤ size = omega (arith, encoded-length us, length-append (encoded us) left) in
    let sum : 8 * length (us ++ vs) ≡ from + 8 * length vs = omega (arith, length-append us vs) in
    rw (
      take_at (encoded us) left from (encoded-length us),
      drop_at (encoded us) left from (encoded-length us),
      take_all size left long,
      drop_of_length-le left long,
      append-nil (encoded vs ++ drop (8 * length vs) left),
      drop-drop (8 * length vs) from buffer,
      sum,
      encoded_append us vs,
      append_assoc (encoded us) (encoded vs) (drop (from + 8 * length vs) buffer),
    )
