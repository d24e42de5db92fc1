-- Numbers in a date go by two digits: the tens and the ones, and the year's four are a hundred times the first two, and the others. Eleven bytes of a text
-- tell whether it is a date, since those of a date are ten.
use mathlib.Core.Bool.{true, false}
use mathlib.Core.List.{List, [], ◌∷◌}
use mathlib.Core.Path.{◌≡◌, refl, sym, ap, ◌∙◌}
use Prim.Native.Nat.{ℕ, ◌+◌, ◌-◌, ◌*◌, ◌≤◌}
use native.Mathlib.Omega.{arith}
use lib.ListN.{length, take, drop, length-drop}
use lib.Seq.{take_all, get_or-drop}
use Rattle.notation.specs.Ascii.{bytes}
use Rattle.radix.specs.Radix.{number, number_from}
use Rattle.lexeme.specs.Character.{byte}
use Rattle.lexeme.specs.Numbers.{digit}
use Rattle.lexeme.proofs.Rests.{first_byte}
use Rattle.notation.proofs.Booleans.{true-false, and_both}
use Rattle.decimal.specs.Decimals.{value_of}
use Rattle.decimal.proofs.Runs.{digit-range}
use Rattle.calendar.specs.Calendar.{real_date}
use Rattle.calendar.specs.Written.{admits, has_form, date_form, date_in, is_date}
use Rattle.calendar.proofs.Forms.{form_length, form_front}

-- two digits at a place
pub record TwoDigits (s : List ℕ) (at : ℕ) : Type 0 where
  pub inside : at + 2 ≤ length s
  pub tens : (0x30 ≤ byte s at) × (byte s at ≤ 0x39)
  pub ones : (0x30 ≤ byte s (at + 1)) × (byte s (at + 1) ≤ 0x39)
  pub value : value_of (take 2 (drop at s)) ≡ (byte s at - 0x30) * 10 + (byte s (at + 1) - 0x30)

two-first : (s : List ℕ) → has_form (bytes "00") (take 2 s) ≡ true → TwoDigits s 0
unfolding has_form admits value_of number number_from
two-first [] e = true-false e refl
two-first (a ∷ []) e = true-false (and_both (digit a) false e).1 refl
two-first (a ∷ b ∷ s) e =
    let t = and_both (digit a) _ e in
    let o = and_both (digit b) true t.1 in
    record { inside = omega arith; tens = digit-range a t.0; ones = digit-range b o.0; value = omega arith }

pub two_at : (s : List ℕ) (at : ℕ) → has_form (bytes "00") (take 2 (drop at s)) ≡ true → TwoDigits s at
two_at s at e =
    let d = two-first (drop at s) e in
    let t : byte (drop at s) 0 ≡ byte s at = sym (first_byte s at) in
    let o : byte (drop at s) 1 ≡ byte s (at + 1) = get_or-drop at s 1 0 in
    record {
      inside = omega (arith, d.inside, length-drop at s);
      tens = omega (arith, d.tens, t);
      ones = omega (arith, d.ones, o);
      value = d.value ∙ rw (t, o);
    }

-- four digits as two and two
pub four-first : (s : List ℕ) → 4 ≤ length s → value_of (take 4 s) ≡ value_of (take 2 s) * 100 + value_of (take 2 (drop 2 s))
unfolding value_of number number_from
four-first [] h = absurd (omega arith)
four-first (a ∷ []) h = absurd (omega arith)
four-first (a ∷ b ∷ []) h = absurd (omega arith)
four-first (a ∷ b ∷ c ∷ []) h = absurd (omega arith)
four-first (a ∷ b ∷ c ∷ d ∷ s) h = omega arith

-- the first eleven bytes of a text
module _ (t : List ℕ) {s : List ℕ} (e : s ≡ take 11 t) where
  same_form : has_form date_form t ≡ has_form date_form s
  same_form = sym (ap (has_form date_form) e ∙ form_front 11 date_form t (omega arith))

  pub date-not : has_form date_form s ≡ false → false ≡ is_date t
  unfolding is_date
  date-not h = rw (same_form ∙ h, is_date)

  pub date-is : has_form date_form s ≡ true → real_date (date_in s).year (date_in s).month (date_in s).day ≡ is_date t
  unfolding is_date
  date-is h =
      let f = same_form ∙ h in
      let all : s ≡ t = e ∙ take_all 11 t (omega (arith, form_length date_form t f)) in
      rw (all, f, is_date)
