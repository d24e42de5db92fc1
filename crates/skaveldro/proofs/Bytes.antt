-- Where each byte of encoded numbers comes from: byte i is byte i % 8 of number i / 8, counted from the lowest.
use mathlib.Core.List.{List, [], ◌∷◌, ◌++◌, append_assoc}
use mathlib.Core.Logic.{⊎_elim}
use mathlib.Core.Path.{◌≡◌, refl, ap, ◌∙◌}
use Prim.Native.Nat.{ℕ, zero, suc, ◌+◌, ◌*◌, ◌-◌, ◌/◌, ◌%◌, ◌^◌, ◌<◌}
use native.Mathlib.Nat.{div-one, div-div-eq-div-mul, eq-zero-or-pos}
use native.Mathlib.Omega.{arith}
use lib.ListN.{length, get_or, length-append, get_or-append}
use lib.Pow.{pow-add}
use lib.Seq.{get_or-append-add}
use Rattle.skaveldro.specs.Encoding.{low_bytes, encoded}

low-length : (size n : ℕ) → length (low_bytes size n) ≡ size
unfolding low_bytes
low-length zero n = refl
low-length (suc size) n = ap suc (low-length size (n / 256))

low-at : (size n j : ℕ) → j < size → get_or (low_bytes size n) j 0 ≡ n / 2 ^ (j * 8) % 2 ^ 8
unfolding low_bytes
low-at zero n j h = elim h [ ]
low-at (suc size) n zero h = rw div-one
low-at (suc size) n (suc j) h =
    let e : suc j * 8 ≡ 8 + j * 8 = omega arith in
    rw (low-at size (n / 256) j (omega arith), e, pow-add 2 8 (j * 8), div-div-eq-div-mul n 256 (2 ^ (j * 8)))

pub encoded-length : (vs : List ℕ) → length (encoded vs) ≡ 8 * length vs
unfolding encoded
encoded-length [] = refl
encoded-length (v ∷ vs) =
    let ih = encoded-length vs in omega (arith, length-append (low_bytes 8 v) (encoded vs), low-length 8 v)

pub encoded_append : (us vs : List ℕ) → encoded (us ++ vs) ≡ encoded us ++ encoded vs
unfolding encoded
encoded_append [] vs = refl
encoded_append (u ∷ us) vs = rw (encoded_append us vs, append_assoc (low_bytes 8 u) (encoded us) (encoded vs))

pub encoded-at : (vs : List ℕ) (i : ℕ) → i / 8 < length vs → get_or (encoded vs) i 0 ≡ get_or vs (i / 8) 0 / 2 ^ (i % 8 * 8) % 2 ^ 8
unfolding encoded
encoded-at [] i h = elim h [ ]
encoded-at (v ∷ vs) i h =
    ⊎_elim
    (λ (low : i / 8 ≡ 0).
    let r : i % 8 ≡ i = omega arith in
    rw (low, r, get_or-append (low_bytes 8 v) (encoded vs) 0 i (omega (arith, low-length 8 v)), low-at 8 v i (omega arith)))
    (λ (high : 0 < i / 8).
    let q : i / 8 ≡ suc ((i - 8) / 8) = omega arith in
    let r : i % 8 ≡ (i - 8) % 8 = omega arith in
    let e : i ≡ length (low_bytes 8 v) + (i - 8) = omega (arith, low-length 8 v) in
    ap (λ k. get_or (low_bytes 8 v ++ encoded vs) k 0) e
    ∙ get_or-append-add (low_bytes 8 v) (encoded vs) (i - 8) 0
    ∙ encoded-at vs (i - 8) (omega arith)
    ∙ rw (q, r))
    (eq-zero-or-pos (i / 8))
