-- A text read into an array: at every step the bytes in the array and those that are left, one behind the other, are the whole text. So the array's
-- first n bytes are the text's, and what is left is the text without them. Where nothing is left, asking for more than n bytes gives these n.
use mathlib.Core.List.{List, [], ◌∷◌, ◌++◌, append_assoc}
use mathlib.Core.Path.{◌≡◌, refl, sym, ap, ◌∙◌}
use Prim.Native.Nat.{ℕ, ◌+◌, ◌≤◌, ◌<◌}
use native.Mathlib.Numerals.{add-one}
use native.Mathlib.Omega.{arith}
use lib.ListN.{length, take, drop, set, length-take, length-set, length-append, drop_of_length-le}
use lib.Seq.{take-suc-set, take_at, drop_at, take_all}
use Rattle.text.specs.declared.Cursor.{Cursor}
use Rattle.text.specs.declared.Front.{Front}
use Rattle.text.specs.inner.Walk.{left, Fronted}

-- n bytes of a text are in an array, and `rest` is left of it
pub record Filled (whole bytes rest : List ℕ) (n : ℕ) : Type 0 where
  pub size : length bytes ≡ 32
  pub few : n ≤ 32
  pub joined : take n bytes ++ rest ≡ whole

pub filled_none : (whole bytes : List ℕ) → length bytes ≡ 32 → Filled whole bytes whole 0
filled_none whole bytes e = record { size = e; few = omega arith; joined = refl }

pub filled_next : {whole bytes rest later : List ℕ} {n b : ℕ} → n < 32 → Filled whole bytes rest n → rest ≡ b ∷ later
    → Filled whole (set bytes n b) later (n + 1)
filled_next {whole} {bytes} {rest} {later} {n} {b} h f e =
    record {
      size = length-set bytes n b ∙ f.size;
      few = omega arith;
      joined =
          ap (λ (k : ℕ). take k (set bytes n b) ++ later) (add-one n)
          ∙ ap (λ (l : List ℕ). l ++ later) (take-suc-set bytes n b (omega (arith, f.size)))
          ∙ append_assoc (take n bytes) (b ∷ []) later ∙ ap (λ (l : List ℕ). take n bytes ++ l) (sym e) ∙ f.joined;
    }

module _ {whole bytes rest : List ℕ} {n : ℕ} (f : Filled whole bytes rest n) where
  count-is : length (take n bytes) ≡ n
  count-is = length-take n bytes ∙ omega (arith, f.size, f.few)

  first-bytes : take n bytes ≡ take n whole
  first-bytes = sym (ap (take n) (sym f.joined) ∙ take_at (take n bytes) rest n count-is)

  behind : rest ≡ drop n whole
  behind = sym (ap (drop n) (sym f.joined) ∙ drop_at (take n bytes) rest n count-is)

  -- a text that has ended is no longer than what was read
  pub ended-length : rest ≡ [] → length whole ≤ n
  ended-length e = omega (arith, ap length f.joined, length-append (take n bytes) rest, count-is, ap length e)

-- what is read is the front that was asked for, where asking for `most` bytes is asking for those that were read
pub fronted : {s : List ℕ} {c : Cursor} {most : ℕ} (r : Front) → Filled (left s c) r.bytes (left s r.after) r.count
    → take r.count (left s c) ≡ take most (left s c) → drop r.count (left s c) ≡ drop most (left s c) → Fronted s c most r
fronted r f e g =
    record { bytes = first-bytes f ∙ e; count = ap length (sym e) ∙ ap length (sym (first-bytes f)) ∙ count-is f; after = behind f ∙ g }

module _ (l : List ℕ) (n most : ℕ) (h : length l ≤ n) (i : n ≤ most) where
  pub take_more : take n l ≡ take most l
  take_more = take_all n l h ∙ sym (take_all most l (omega arith))

  pub drop_more : drop n l ≡ drop most l
  drop_more = drop_of_length-le l h ∙ sym (drop_of_length-le l {i = most} (omega arith))

-- a front's array has the bytes that it counts
pub front-count : {s : List ℕ} {c : Cursor} {most : ℕ} {r : Front} → Fronted s c most r → r.count ≡ length (take r.count r.bytes)
front-count f = sym f.count ∙ ap length (sym f.bytes)
