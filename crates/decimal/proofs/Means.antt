-- What a spelling means: with w before the point and f behind it, the number is that of the digits w f, in parts of 10^-18. So the
-- definition is the exact decimal value: nothing is rounded, and no digit is lost.
use mathlib.Core.Bool.{Bool, true, false, not}
use mathlib.Core.List.{List, [], ◌∷◌, ◌++◌, map}
use mathlib.Core.Path.{◌≡◌, refl, sym, ap, ◌∙◌}
use Prim.Native.Nat.{ℕ, ◌+◌, ◌-◌, ◌*◌, ◌^◌, ◌≤◌}
use native.Mathlib.Decide.{ℕ_discrete}
use native.Mathlib.Nat.{add-mul, le_refl, mul_assoc}
use native.Mathlib.Omega.{arith}
use lib.Dec.{eqb}
use lib.IntN.{ℤ}
use lib.ListN.{length, drop_of_length-le}
use lib.Seq.{drop-append_seam}
use borrow.Author.Tests.{eq-eqb, ne_eqb, le-leb}
use Rattle.notation.specs.Choice.{◌and◌}
use Rattle.radix.specs.Radix.{number_from, number}
use Rattle.radix.proofs.Digits.{number-from}
use Rattle.signed.specs.Signed.{signed}
use Rattle.lexeme.specs.Read.Read.{done}
use Rattle.lexeme.specs.Character.{within}
use Rattle.lexeme.specs.Numbers.{digit, digits}
use Rattle.decimal.specs.declared.Decimal.{Decimal}
use Rattle.decimal.specs.Decimals.{tens, value_of, decimal_of, formed, behind_point, behind_whole, number_of}
use Rattle.decimal.specs.Exact.{unit, exact}
use Rattle.decimal.specs.inner.Spelling.{front, value_from}
use Rattle.decimal.proofs.Runs.{digit-range, digits-front, front-digit, front-other, front_fit, tens-weight, power_split, value-from}
use Rattle.std.specs.Prelude.{Some}

-- nothing but digits
abbrev pub Digits : List ℕ → Type 0
Digits [] = Unit {0}
Digits (b ∷ r) = (digit b ≡ true) × Digits r

-- a sign in front, perhaps
abbrev pub after : Bool → List ℕ → List ℕ
after true s = 0x2d ∷ s
after false s = s

-- a spelling stands for z parts of 10^-18
pub record Spells (s : List ℕ) (z : ℤ) : Type 0 where
  pub decimal : Decimal
  pub reads : number_of s ≡ Some decimal
  pub value : exact decimal ≡ z

front_of : (w r : List ℕ) → Digits w → front r ≡ [] → front (w ++ r) ≡ w
front_of [] r h e = e
front_of (b ∷ w) r h e = front-digit b (w ++ r) h.0 ∙ ap (λ (q : List ℕ). b ∷ q) (front_of w r h.1 e)

digits_of : (w r : List ℕ) → Digits w → front r ≡ [] → digits (w ++ r) ≡ done w r
digits_of w r h e = digits-front (w ++ r) ∙ rw (front_of w r h e, drop-append_seam w r)

front_self : (f : List ℕ) → Digits f → front f ≡ f
front_self [] h = unfold front in refl
front_self (b ∷ f) h = front-digit b f h.0 ∙ ap (λ (q : List ℕ). b ∷ q) (front_self f h.1)

whole-text : (f : List ℕ) → Digits f → digits f ≡ done f []
whole-text f h = digits-front f ∙ rw (front_self f h, drop_of_length-le f (le_refl (length f)))

-- the digits of two runs in a row
value_append : (v : ℕ) (w f : List ℕ) → value_from v (w ++ f) ≡ value_from (value_from v w) f
unfolding value_from number_from
value_append v [] f = refl
value_append v (b ∷ w) f = value_append (v * 10 + (b - 0x30)) w f

value_after : (v : ℕ) (f : List ℕ) → Digits f → value_from v f ≡ v * 10 ^ length f + value_of f
unfolding value_from value_of
value_after v f h =
    number-from (tens f) (map (λ b. b - 0x30) f) v (rw (front_self f h) at (front_fit f)) ∙ rw (tens-weight f)

value-both : (w f : List ℕ) → Digits f → value_of (w ++ f) ≡ value_of w * 10 ^ length f + value_of f
value-both w f h =
    sym (value-from (w ++ f))
    ∙ value_append 0 w f
    ∙ value_after (value_from 0 w) f h
    ∙ ap (λ (v : ℕ). v * 10 ^ length f + value_of f) (value-from w)

-- the exact value has the sign of the spelling: 0 has none either way
signed-kept : (s : Bool) (m n : ℕ) → (m ≡ 0 → n ≡ 0) → signed (s and not (eqb m 0)) n ≡ signed s n
signed-kept true m n h = go (ℕ_discrete m 0)
  where
    go : Dec (m ≡ 0) → signed (not (eqb m 0)) n ≡ signed true n
    go (yes z) = rw (eq-eqb m 0 z, h z)
    go (no z) = rw (ne_eqb m 0 z)
signed-kept false m n h = refl

exact-of : (negative : Bool) (w f : List ℕ) → exact (decimal_of negative w f) ≡ signed negative (value_of w * unit + value_of f * 10 ^ (18 - length f))
unfolding exact decimal_of
exact-of negative w f =
    signed-kept negative (value_of w + value_of f) _ λ z.
    let v : value_of w ≡ 0 = omega arith in
    let u : value_of f ≡ 0 = omega arith in
    rw (v, u) (omega arith)

-- digits and a point in front: the number of all digits together
joined : (w f : List ℕ) → Digits f → length f ≤ 18 → value_of w * unit + value_of f * 10 ^ (18 - length f) ≡ value_of (w ++ f) * 10 ^ (18 - length f)
joined w f h k =
    let p = 10 ^ (18 - length f) in
    sym
    (rw (
      value-both w f h,
      add-mul (value_of w * 10 ^ length f) (value_of f) p,
      mul_assoc (value_of w) (10 ^ length f) p,
      power_split (length f) k,
    ))

module _ (negative : Bool) (w : List ℕ) (hw : Digits w) (kw : length w ≤ 12) where
  spelled : (f : List ℕ) → length f ≤ 18 → formed negative w f ≡ Some (decimal_of negative w f)
  unfolding formed
  spelled f kf = rw (le-leb (length w) 12 kw, le-leb (length f) 18 kf)

  point-of : (f : List ℕ) → Digits f → length f ≤ 18 → behind_whole negative (digits (w ++ 0x2e ∷ f)) ≡ Some (decimal_of negative w f)
  unfolding behind_whole behind_point
  point-of f hf kf =
      rw (digits_of w (0x2e ∷ f) hw (front-other 0x2e f (unfold digit within in refl)), whole-text f hf) (spelled f kf)

  whole_of : behind_whole negative (digits w) ≡ Some (decimal_of negative w [])
  unfolding behind_whole
  whole_of = rw (whole-text w hw) (spelled [] (omega arith))

-- the sign in front of what begins with none
signed_of : (negative : Bool) (b : ℕ) (r : List ℕ) → (b ≡ 0x2d → ⊥) → number_of (after negative (b ∷ r)) ≡ behind_whole negative (digits (b ∷ r))
unfolding number_of
signed_of true b r h = refl
signed_of false b r h = rw (ne_eqb b 0x2d h)

no_minus : (b : ℕ) → digit b ≡ true → b ≡ 0x2d → ⊥
no_minus b h e = omega (arith, digit-range b h)

point-signed : (negative : Bool) (w f : List ℕ) → Digits w → number_of (after negative (w ++ 0x2e ∷ f)) ≡ behind_whole negative (digits (w ++ 0x2e ∷ f))
point-signed negative [] f h = signed_of negative 0x2e f (omega arith)
point-signed negative (b ∷ w) f h = signed_of negative b (w ++ 0x2e ∷ f) (no_minus b h.0)

-- with a point
pub means : (negative : Bool) (w f : List ℕ) → Digits w → Digits f → length w ≤ 12 → length f ≤ 18 →
    Spells (after negative (w ++ 0x2e ∷ f)) (signed negative (value_of (w ++ f) * 10 ^ (18 - length f)))
means negative w f hw hf kw kf =
    record {
      decimal = decimal_of negative w f;
      reads = point-signed negative w f hw ∙ point-of negative w hw kw f hf kf;
      value = exact-of negative w f ∙ ap (signed negative) (joined w f hf kf);
    }

-- without one
pub means_whole : (negative : Bool) (b : ℕ) (w : List ℕ) → Digits (b ∷ w) → length (b ∷ w) ≤ 12 →
    Spells (after negative (b ∷ w)) (signed negative (value_of (b ∷ w) * unit))
means_whole negative b w h k =
    record {
      decimal = decimal_of negative (b ∷ w) [];
      reads = signed_of negative b w (no_minus b h.0) ∙ whole_of negative (b ∷ w) h k;
      value = exact-of negative (b ∷ w) [] ∙ ap (signed negative) (unfold value_of number number_from in omega arith);
    }
