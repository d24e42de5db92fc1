-- The bytes of a price, one by one: the ways of a byte, and that the values stay within their digits, so that no sum wraps.
use mathlib.Core.Bool.{Bool, true, false}
use mathlib.Core.List.{List, [], ◌∷◌}
use mathlib.Core.Path.{◌≡◌, refl, sym, ap, subst, ◌∙◌}
use Prim.Native.Nat.{ℕ, ◌+◌, ◌-◌, ◌*◌, ◌^◌, ◌<◌, ◌≤◌, min}
use native.Mathlib.Omega.{arith}
use lib.Dec.{eqb, leb, ltb}
use borrow.Author.Tests.{eq-eqb, ne_eqb, leb-true, ltb-true, ltb-false, lt-ltb, le-ltb}
use Rattle.notation.specs.Choice.{◌⇒◌else◌, ◌and◌}
use Rattle.radix.proofs.Digits.{one_more_lem}
use Rattle.lexeme.specs.Numbers.{digit}
use Rattle.decimal.specs.declared.Decimal.{Decimal}
use Rattle.decimal.specs.declared.spelling.Run.{Run}
use Rattle.decimal.specs.declared.quoted.Phase.{Phase}
use Rattle.decimal.specs.declared.quoted.Phase.TheVariants.{Start, Zero, Whole, Part, Lost}
use Rattle.decimal.specs.declared.quoted.Progress.{Progress}
use Rattle.decimal.specs.inner.Priced.{longer, lost, start, on_digit, on_point, step, steps, price_so, finished, Held}
use Rattle.decimal.specs.inner.Spelling.{made}
use Rattle.decimal.proofs.Runs.{digit-range}
use Rattle.std.specs.Prelude.{Ok, Err}
use Rattle.decimal.specs.declared.PriceError.TheVariants.{Unformed, NoNumber}

-- one digit more, within the most digits and past them
module _ (most : ℕ) (r : Run) (b : ℕ) where
  pub longer-more : r.count < most → record { value = r.value * 10 + (b - 0x30); count = r.count + 1 } ≡ longer most r b
  unfolding longer
  longer-more h = rw (lt-ltb r.count most h)

  pub longer-full : most ≤ r.count → record { value = r.value; count = most + 1 } ≡ longer most r b
  unfolding longer
  longer-full h = rw (le-ltb r.count most h)

  longer-held : digit b ≡ true → r.value < 10 ^ min r.count most → (longer most r b).value < 10 ^ min (longer most r b).count most
  longer-held e h = go (ltb r.count most) refl
    where
      go : (t : Bool) → ltb r.count most ≡ t → (longer most r b).value < 10 ^ min (longer most r b).count most
      go true q =
          let l : r.count < most = ltb-true r.count most q in
          let m : min r.count most ≡ r.count = omega arith in
          let n : min (r.count + 1) most ≡ r.count + 1 = omega arith in
          rw (← longer-more l, n) (one_more_lem 10 r.count (rw m at h) (omega (arith, digit-range b e)))
      go false q =
          let l : most ≤ r.count = ltb-false r.count most q in
          let m : min r.count most ≡ most = omega arith in
          let n : min (most + 1) most ≡ most = omega arith in
          rw (← longer-full l, n) (rw m at h)

-- a byte by the code's tests
module _ (p : Progress) (b : ℕ) where
  pub step-digit : digit b ≡ true → on_digit p b p.phase ≡ step p b
  unfolding step
  step-digit e = rw e

  module _ (n : digit b ≡ false) where
    pub step-point : eqb b 0x2e ≡ true → on_point p p.phase ≡ step p b
    unfolding step
    step-point e = rw (n, e)

    pub step_other : eqb b 0x2e ≡ false → lost ≡ step p b
    unfolding step
    step_other e = rw (n, e)

lost-held : Held lost
lost-held = record { whole = omega arith; part = omega arith }

pub start-held : Held start
start-held = record { whole = omega arith; part = omega arith }

module _ (p : Progress) (h : Held p) where
  on-digit-held : (b : ℕ) (f : Phase) → digit b ≡ true → Held (on_digit p b f)
  unfolding on_digit
  on-digit-held b Start e = record { whole = longer-held 12 p.whole b e h.whole; part = h.part }
  on-digit-held b Zero e = lost-held
  on-digit-held b Whole e = record { whole = longer-held 12 p.whole b e h.whole; part = h.part }
  on-digit-held b Part e = record { whole = h.whole; part = longer-held 18 p.part b e h.part }
  on-digit-held b Lost e = lost-held

  on-point-held : (f : Phase) → Held (on_point p f)
  unfolding on_point
  on-point-held Start = lost-held
  on-point-held Zero = record { whole = h.whole; part = h.part }
  on-point-held Whole = record { whole = h.whole; part = h.part }
  on-point-held Part = lost-held
  on-point-held Lost = lost-held

  pub step-held : (b : ℕ) → Held (step p b)
  step-held b = go (digit b) refl (eqb b 0x2e) refl
    where
      go : (d : Bool) → digit b ≡ d → (e : Bool) → eqb b 0x2e ≡ e → Held (step p b)
      go true q e r = subst Held (step-digit p b q) (on-digit-held b p.phase q)
      go false q true r = subst Held (step-point p b q r) (on-point-held p.phase)
      go false q false r = subst Held (step_other p b q r) lost-held

pub steps-held : (l : List ℕ) (p : Progress) → Held p → Held (steps p l)
unfolding steps
steps-held [] p h = h
steps-held (b ∷ l) p h = steps-held l (step p b) (step-held p h b)

-- no byte is left, and those that were left led to x
pub steps-end : (p x : Progress) (l : List ℕ) → l ≡ [] → steps p l ≡ x → p ≡ x
unfolding steps
steps-end p x l e h = ap (steps p) (sym e) ∙ h

-- one byte, and then those that follow it
pub steps_next : (p : Progress) {l : List ℕ} {b : ℕ} {r : List ℕ} → l ≡ b ∷ r → steps (step p b) r ≡ steps p l
unfolding steps
steps_next p e = sym (ap (steps p) e)

-- where the text ends behind the point
pub part_none : (p : Progress) → p.part.count ≡ 0 → Err NoNumber ≡ finished p Part
unfolding finished
part_none p e = rw (eq-eqb p.part.count 0 e)

pub part-some : (p : Progress) → (p.part.count ≡ 0 → ⊥) → price_so p ≡ finished p Part
unfolding finished
part-some p n = rw (ne_eqb p.part.count 0 n)

-- a price in the form: it has no more digits behind the point than it may, and is the number of its digits
no_value : {A : Type 0} {d : Decimal} → Err NoNumber ≡ Ok d → A
no_value e = let z : ◌≡◌ {A = ℕ} 0 1 = cc in absurd (omega arith)

module _ (p : Progress) (d : Decimal) where
  price_so_lem : (f : Phase) → finished p f ≡ Ok d → price_so p ≡ Ok d
  unfolding finished
  price_so_lem Start e = no_value e
  price_so_lem Zero e = e
  price_so_lem Whole e = e
  price_so_lem Part e = go (eqb p.part.count 0) e
    where
      go : (t : Bool) → (t ⇒ Err NoNumber else price_so p) ≡ Ok d → price_so p ≡ Ok d
      go true e = no_value e
      go false e = e
  price_so_lem Lost e = no_value e

  pub price-digits : finished p p.phase ≡ Ok d
      → (p.part.count ≤ 18) × (made false p.whole.value p.part.value p.part.count ≡ d)
  unfolding price_so
  price-digits e = go (leb p.whole.count 12) (leb p.part.count 18) refl (price_so_lem p.phase e)
    where
      go : (a b : Bool) → leb p.part.count 18 ≡ b
          → (a and b ⇒ Ok (made false p.whole.value p.part.value p.part.count) else Err Unformed) ≡ Ok d
          → (p.part.count ≤ 18) × (made false p.whole.value p.part.value p.part.count ≡ d)
      go true true h e = (leb-true _ _ h, cc)
      go true false h e = let z : ◌≡◌ {A = ℕ} 0 1 = cc in absurd (omega arith)
      go false b h e = let z : ◌≡◌ {A = ℕ} 0 1 = cc in absurd (omega arith)
