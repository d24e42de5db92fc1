-- File after file, by induction on how many are left: what holds of each file's outcome holds of the first that breaks a rule, and outcomes that agree have the
-- same first. A loop over the files may go from one to the next: its invariant is `Reached`, and it cites `reached_start`, `reached_here` where a file breaks a
-- rule, `reached_more` where it does not, and `reached_end` past the last.
use mathlib.Core.Path.{◌≡◌, refl, sym, ap, ap₂, ◌∙◌}
use Prim.Native.Nat.{ℕ, zero, suc, ◌+◌, ◌-◌, ◌≤◌, ◌<◌}
use native.Mathlib.Omega.{arith}
use Rattle.word.specs.declared.Parts.{Parts}
use Rattle.fault.specs.Outcome.{file_count, or_next, Outcome, unbroken}
use Rattle.cross.specs.inner.Stage.{from_file, first_of}
use Rattle.std.specs.Prelude.{Err, Ok}

-- what holds of each outcome
module _ (P : Outcome → Type 0) (n : P unbroken) (told : ℕ → Outcome) where
  either : (x y : Outcome) → P x → P y → P (or_next x y)
  either (Ok _) y h k = k
  either (Err p) y h k = h

  from_all : (file left : ℕ) → ((k : ℕ) → file ≤ k → k < file + left → P (told k)) → P (from_file told file left)
  unfolding from_file
  from_all file zero h = n
  from_all file (suc left) h = either (told file) _ (h file (omega arith) (omega arith)) (from_all (file + 1) left (λ k i j. h k (omega arith) (omega arith)))

  pub first-all : ((k : ℕ) → 1 ≤ k → k ≤ file_count → P (told k)) → P (first_of told)
  first-all h = from_all 1 file_count (λ k i j. h k i (omega arith))

-- outcomes that agree
module _ (told other : ℕ → Outcome) where
  from-same : (file left : ℕ) → ((k : ℕ) → file ≤ k → k < file + left → told k ≡ other k) → from_file told file left ≡ from_file other file left
  unfolding from_file
  from-same file zero h = refl
  from-same file (suc left) h = ap₂ or_next (h file (omega arith) (omega arith)) (from-same (file + 1) left (λ k i j. h k (omega arith) (omega arith)))

  pub first-same : ((k : ℕ) → 1 ≤ k → k ≤ file_count → told k ≡ other k) → first_of told ≡ first_of other
  first-same h = from-same 1 file_count (λ k i j. h k i (omega arith))

-- A loop over the files.
module _ (told : ℕ → Outcome) where
  -- from a file on, to the last
  abbrev ahead : ℕ → Outcome
  ahead file = from_file told file (file_count + 1 - file)

  -- what is told first from this file on is what is told first of all
  pub record Reached (file : ℕ) : Type 0 where
    pub least : 1 ≤ file
    pub most : file ≤ file_count + 1
    is : ahead file ≡ first_of told

  pub reached_start : Reached 1
  reached_start = record { least = omega arith; most = omega arith; is = refl }

module _ {told : ℕ → Outcome} {file : ℕ} (w : Reached told file) where
  pub reached_end : file_count < file → unbroken ≡ first_of told
  unfolding from_file
  reached_end h = let z : file_count + 1 - file ≡ 0 = omega arith in sym (ap (from_file told file) z) ∙ w.is

  -- the next file, of which x is told
  module _ (h : file ≤ file_count) {x : Outcome} (e : x ≡ told file) where
    next : {y : Outcome} → x ≡ y → or_next y (ahead told (file + 1)) ≡ first_of told
    unfolding from_file
    next k =
        let z : file_count + 1 - file ≡ suc (file_count + 1 - (file + 1)) = omega arith in
        ap (λ y. or_next y (ahead told (file + 1))) (sym k ∙ e) ∙ sym (ap (from_file told file) z) ∙ w.is

    pub reached_here : {p : Parts} → x ≡ Err p → Err p ≡ first_of told
    reached_here k = next k

    pub reached_more : x ≡ unbroken → Reached told (file + 1)
    reached_more k = record { least = omega (arith, w.least); most = omega arith; is = next k }
