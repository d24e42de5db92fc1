-- The spelling of a number against the code's way through it, an equation for each way. A run over the first twelve bytes is the whole
-- run unless there are more digits, and then the byte after it is a digit: so no such spelling is let through.
use mathlib.Core.Bool.{Bool, true, false, not}
use mathlib.Core.List.{List, [], ◌∷◌}
use mathlib.Core.Path.{◌≡◌, refl, sym, ap, ◌∙◌}
use Prim.Native.Nat.{ℕ, suc, ◌+◌, ◌-◌, ◌*◌, ◌^◌, ◌<◌, ◌≤◌, min}
use native.Mathlib.Nat.{pow-succ', mul_assoc, mul-one}
use native.Mathlib.Decide.{dec_le, ℕ_discrete}
use native.Mathlib.Omega.{arith}
use lib.Dec.{eqb}
use lib.ListN.{length, get_or, take, drop, drop_of_length-le, length-take, length-drop}
use lib.Seq.{take_all}
use borrow.Author.Tests.{eq-eqb, ne_eqb, le-leb, lt-leb}
use Rattle.std.specs.List.{list_any}
use Rattle.notation.proofs.Booleans.{either-is}
use Rattle.notation.specs.Choice.{◌⇒◌else◌, ◌and◌}
use Rattle.notation.proofs.Lists.{at_cons}
use Rattle.radix.specs.Radix.{number_from}
use Rattle.lexeme.specs.Read.{Read}
use Rattle.lexeme.specs.Read.Read.{done, bad}
use Rattle.lexeme.specs.Numbers.{digits}
use Rattle.decimal.specs.declared.Decimal.{Decimal}
use Rattle.decimal.specs.declared.spelling.Run.{Run}
use Rattle.decimal.specs.Decimals.{decimal_of, formed, behind_point, behind_whole, number_of, has_point}
use Rattle.decimal.specs.inner.Spelling.{front, value_from, run_from, made, fraction_of}
use Rattle.decimal.specs.inner.Formed.{IsNumber}
use Rattle.decimal.proofs.Runs.{digit-range, digits-front, front_length, front_at, front-all, front-take, value-from, run_count, run_value}
use Rattle.std.specs.Prelude.{Option, Some, None}

no_value : {A : Type 0} {d : Decimal} → None ≡ Some d → A
no_value e = let z : ◌≡◌ {A = ℕ} 0 1 = cc in absurd (omega arith)

-- a sign counts only where the number is not 0
pub sign_kept : (negative : Bool) (n : ℕ) → (n ≡ 0 → ⊥) → negative ≡ (negative and not (eqb n 0))
sign_kept true n h = rw (ne_eqb n 0 h)
sign_kept false n h = refl

pub sign-lost : (negative : Bool) (n : ℕ) → n ≡ 0 → false ≡ (negative and not (eqb n 0))
sign-lost true n h = rw (eq-eqb n 0 h)
sign-lost false n h = refl

pub ruleset sign_rules = (sign_kept, sign-lost)

-- scaling, digit by digit
pub scale_next : (v n : ℕ) → n < 18 → v * 10 * 10 ^ (18 - (n + 1)) ≡ v * 10 ^ (18 - n)
scale_next v n h = let e : 18 - n ≡ suc (18 - (n + 1)) = omega arith in rw (e, pow-succ' 10 (18 - (n + 1)), mul_assoc)

pub scale_end : (v n : ℕ) → 18 ≤ n → v ≡ v * 10 ^ (18 - n)
scale_end v n h = let z : 18 - n ≡ 0 = omega arith in rw z (sym (mul-one v))

-- the fraction's bytes: too many, not digits to the end, digits to the end
module _ (negative : Bool) (whole : ℕ) (l : List ℕ) where
  pub fraction-long : 18 < length l → None ≡ fraction_of negative whole l
  unfolding fraction_of
  fraction-long h = rw (lt-leb (length l) 18 h)

  module _ (h : length l ≤ 18) where
    pub fraction-other : (length (front l) ≡ length l → ⊥) → None ≡ fraction_of negative whole l
    unfolding fraction_of
    fraction-other n = rw (le-leb (length l) 18 h, ne_eqb (length (front l)) (length l) n)

    pub fraction-digits : length (front l) ≡ length l → Some (made negative whole (value_from 0 (front l)) (length l)) ≡ fraction_of negative whole l
    unfolding fraction_of
    fraction-digits q = rw (le-leb (length l) 18 h, eq-eqb (length (front l)) (length l) q)

-- a fraction by the run that the code found
module _ (negative : Bool) (whole : ℕ) (l : List ℕ) (h : length l ≤ 18) (r : Run) (e : r ≡ run_from 0 0 l) where
  fraction-count : r.count ≡ length (front l)
  fraction-count = ap (λ (x : Run). x.count) e ∙ run_count l

  pub fraction_run_other : (r.count ≡ length l → ⊥) → None ≡ fraction_of negative whole l
  fraction_run_other n = fraction-other negative whole l h (λ q. n (fraction-count ∙ q))

  pub fraction_run_digits : r.count ≡ length l → Some (made negative whole r.value r.count) ≡ fraction_of negative whole l
  fraction_run_digits q =
      rw (q, ap (λ (x : Run). x.value) e, run_value l) (fraction-digits negative whole l h (sym fraction-count ∙ q))

-- the form's definition against the code's
pub formed-long : (negative : Bool) (before behind : List ℕ) → 12 < length before → formed negative before behind ≡ None
unfolding formed
formed-long negative before behind h = rw (lt-leb (length before) 12 h)

point-long : (negative : Bool) (before : List ℕ) (o : Read (List ℕ)) → 12 < length before → behind_point negative before o ≡ None
unfolding behind_point
point-long negative before (done behind []) h = formed-long negative before behind h
point-long negative before (done behind (b ∷ r)) h = refl
point-long negative before (bad k r) h = refl

same_arms : (t : Bool) {x : Option Decimal} → x ≡ None → (t ⇒ x else None) ≡ None
same_arms true e = e
same_arms false e = refl

-- a digit too many
whole_long : (negative : Bool) (before r : List ℕ) → 12 < length before → behind_whole negative (done before r) ≡ None
unfolding behind_whole
whole_long negative before [] h = formed-long negative before [] h
whole_long negative before (b ∷ r) h = same_arms (eqb b 0x2e) (point-long negative before (digits r) h)

-- no digit too many: the code's number is the definition's
pub formed-is : (negative : Bool) (before behind : List ℕ) → length before ≤ 12 → length behind ≤ 18 →
    formed negative before behind ≡ Some (made negative (value_from 0 before) (value_from 0 behind) (length behind))
unfolding formed decimal_of made
formed-is negative before behind h k = rw (le-leb (length before) 12 h, le-leb (length behind) 18 k, value-from before, value-from behind)

pub formed-deep : (negative : Bool) (before behind : List ℕ) → length before ≤ 12 → 18 < length behind → formed negative before behind ≡ None
unfolding formed
formed-deep negative before behind h k = rw (le-leb (length before) 12 h, lt-leb (length behind) 18 k)

-- behind the point stand digits to the end, or something else
module _ (negative : Bool) (before t : List ℕ) where
  point-all : length (front t) ≡ length t → behind_point negative before (digits t) ≡ formed negative before t
  unfolding behind_point
  point-all q =
      let z : length t ≤ length (front t) = omega arith in
      rw (digits-front t, drop_of_length-le t z, front-all t q)

  point-some : length (front t) < length t → behind_point negative before (digits t) ≡ None
  unfolding behind_point
  point-some a = rw (digits-front t, at_cons t (length (front t)) a)

  point-is : length before ≤ 12 → behind_point negative before (digits t) ≡ fraction_of negative (value_from 0 before) t
  point-is h = go (dec_le (length t) 18) (dec_le (length t) (length (front t)))
    where
      w : ℕ
      w = value_from 0 before

      go : Dec (length t ≤ 18) → Dec (length t ≤ length (front t)) → behind_point negative before (digits t) ≡ fraction_of negative w t
      go (yes k) (yes a) =
          let q : length (front t) ≡ length t = omega (arith, front_length t) in
          point-all q ∙ formed-is negative before t h k ∙ rw (front-all t q) at (fraction-digits negative w t k q)
      go (yes k) (no a) = point-some (omega arith) ∙ fraction-other negative w t k (omega arith)
      go (no k) (yes a) =
          let q : length (front t) ≡ length t = omega (arith, front_length t) in
          point-all q ∙ formed-deep negative before t h (omega arith) ∙ fraction-long negative w t (omega arith)
      go (no k) (no a) = point-some (omega arith) ∙ fraction-long negative w t (omega arith)

-- the code's run over at most twelve bytes
module _ (negative : Bool) (l : List ℕ) (r : Run) (e : r ≡ run_from 0 0 (take (min 12 (length l)) l)) where
  abbrev m : ℕ
  m = min 12 (length l)

  -- it is the run of all digits, cut to twelve
  counted : r.count ≡ min 12 (length (front l))
  counted =
      let q : length (front (take m l)) ≡ min m (length (front l)) = ap length (front-take m l) ∙ length-take m (front l) in
      ap (λ (x : Run). x.count) e ∙ run_count (take m l) ∙ q ∙ omega (arith, front_length l)

  valued : length (front l) ≤ 12 → r.value ≡ value_from 0 (front l)
  valued h =
      let k : length (front l) ≤ m = omega (arith, front_length l) in
      ap (λ (x : Run). x.value) e ∙ run_value (take m l) ∙ ap (value_from 0) (front-take m l ∙ take_all m (front l) k)

  pub whole-only : length l ≤ r.count → Some (made negative r.value 0 0) ≡ behind_whole negative (digits l)
  unfolding behind_whole value_from number_from
  whole-only h =
      let q : length (front l) ≡ length l = omega (arith, counted, front_length l) in
      let k : length (front l) ≤ 12 = omega (arith, counted, front_length l) in
      let z : length l ≤ length (front l) = omega arith in
      rw (valued k, digits-front l, drop_of_length-le l z) (sym (formed-is negative (front l) [] k (omega arith)))

  module _ (h : r.count < length l) where
    no_more : (length (front l) ≤ 12 → ⊥) → behind_whole negative (digits l) ≡ None
    no_more n = rw (digits-front l) (whole_long negative (front l) _ (omega arith))

    here : length (front l) ≤ 12 → r.count ≡ length (front l)
    here k = omega (arith, counted)

    rest : length (front l) ≤ 12 → digits l ≡ done (front l) (get_or l r.count 0 ∷ drop (r.count + 1) l)
    rest k = digits-front l ∙ ap (done (front l)) (rw (here k) (at_cons l (length (front l)) (rw (here k) at h)))

    pub no-point : (get_or l r.count 0 ≡ 0x2e → ⊥) → None ≡ behind_whole negative (digits l)
    unfolding behind_whole
    no-point n = elim (dec_le (length (front l)) 12) [
      | yes k ↦ rw (rest k, ne_eqb (get_or l r.count 0) 0x2e n)
      | no k ↦ sym (no_more k)
    ]

    pub point : get_or l r.count 0 ≡ 0x2e → fraction_of negative r.value (drop (r.count + 1) l) ≡ behind_whole negative (digits l)
    unfolding behind_whole
    point p = elim (dec_le (length (front l)) 12) [
      | yes k ↦ rw (rest k, eq-eqb (get_or l r.count 0) 0x2e p, valued k) (sym (point-is negative (front l) (drop (r.count + 1) l) k))
      | no k ↦ absurd (omega (arith, p, digit-range (get_or l r.count 0) (front_at l r.count (omega (arith, counted)))))
    ]

    -- a spelling in the form: the point is there, and behind it stand digits to the end
    module _ (v : IsNumber (behind_whole negative (digits l))) where
      point-there : get_or l r.count 0 ≡ 0x2e
      point-there = elim (ℕ_discrete (get_or l r.count 0) 0x2e) [ yes p ↦ p | no n ↦ no_value (no-point n ∙ v.1) ]

      fraction-there : fraction_of negative r.value (drop (r.count + 1) l) ≡ Some v.0
      fraction-there = point point-there ∙ v.1

      pub part-short : length (drop (r.count + 1) l) ≤ 18
      part-short = elim (dec_le (length (drop (r.count + 1) l)) 18) [
        | yes k ↦ k
        | no k ↦ no_value (fraction-long negative r.value (drop (r.count + 1) l) (omega arith) ∙ fraction-there)
      ]

      pub part-digits : (q : Run) → q ≡ run_from 0 0 (drop (r.count + 1) l) → Some (made negative r.value q.value q.count) ≡ behind_whole negative (digits l)
      part-digits q w = elim (ℕ_discrete q.count (length (drop (r.count + 1) l))) [
        | yes k ↦ fraction_run_digits negative r.value (drop (r.count + 1) l) part-short q w k ∙ point point-there
        | no k ↦ no_value (fraction_run_other negative r.value (drop (r.count + 1) l) part-short q w k ∙ fraction-there)
      ]

-- the sign
pub number-none : (s : List ℕ) → length s ≡ 0 → None ≡ number_of s
unfolding number_of
number-none [] h = refl
number-none (b ∷ s) h = absurd (omega arith)

pub number-some : (s : List ℕ) → IsNumber (number_of s) → length s ≡ 0 → ⊥
number-some s v h = no_value (number-none s h ∙ v.1)

pub number-minus : (s : List ℕ) → (length s ≡ 0 → ⊥) → get_or s 0 0 ≡ 0x2d → behind_whole true (digits (drop 1 s)) ≡ number_of s
unfolding number_of
number-minus [] h e = absurd (h refl)
number-minus (b ∷ s) h e = rw (eq-eqb b 0x2d e)

pub number-plain : (s : List ℕ) → (length s ≡ 0 → ⊥) → (get_or s 0 0 ≡ 0x2d → ⊥) → behind_whole false (digits s) ≡ number_of s
unfolding number_of
number-plain [] h e = absurd (h refl)
number-plain (b ∷ s) h e = rw (ne_eqb b 0x2d e)

-- the search for a point
pub point_any : (s : List ℕ) → list_any (λ b. eqb b 0x2e) s ≡ has_point s
unfolding has_point
point_any [] = refl
point_any (b ∷ s) = either-is (eqb b 0x2e) _ ∙ ap (λ t. eqb b 0x2e ⇒ true else t) (point_any s)

-- what a part from place k to the end is
pub part-from : (l : List ℕ) (k : ℕ) → take (length l - k) (drop k l) ≡ drop k l
part-from l k = let h : length (drop k l) ≤ length l - k = simp length-drop (omega arith) in take_all (length l - k) (drop k l) h
