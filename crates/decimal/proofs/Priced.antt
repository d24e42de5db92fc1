-- Reading byte by byte finds the price of the whole text. The whole digits and the fraction are runs, and the bytes after a run decide
-- the rest; a text that is lost stays lost, and the grammar has refused it at the same byte.
use mathlib.Core.Bool.{Bool, true, false}
use mathlib.Core.List.{List, [], ◌∷◌, ◌++◌}
use mathlib.Core.Path.{◌≡◌, refl, sym, ap, ◌∙◌}
use Prim.Native.Nat.{ℕ, suc, ◌+◌, ◌-◌, ◌*◌, ◌<◌, ◌≤◌}
use native.Mathlib.Decide.{dec_le}
use native.Mathlib.Omega.{arith}
use lib.Dec.{eqb}
use lib.ListN.{length}
use borrow.Author.Tests.{ne_eqb, le-leb}
use Rattle.notation.specs.Choice.{◌⇒◌else◌}
use Rattle.radix.specs.Radix.{number_from}
use Rattle.lexeme.specs.Read.{Read, then, made as changed}
use Rattle.lexeme.specs.Read.Read.{done, bad}
use Rattle.lexeme.specs.Character.{within}
use Rattle.lexeme.specs.Numbers.{digit, digits, some_digits, optional, both, integer, fraction}
use Rattle.decimal.specs.declared.spelling.Run.{Run}
use Rattle.decimal.specs.declared.quoted.Phase.{Phase}
use Rattle.decimal.specs.declared.quoted.Phase.TheVariants.{Zero, Whole, Part}
use Rattle.decimal.specs.declared.quoted.Progress.{Progress}
use Rattle.decimal.specs.Decimals.{formed, behind_point, behind_whole, number_of, unsigned, priced_as, price_of}
use Rattle.decimal.specs.inner.Spelling.{front, value_from}
use Rattle.decimal.specs.inner.Priced.{none, longer, beginning, progress, start, lost, on_digit, on_point, step, steps, price_so, finished}
use Rattle.decimal.proofs.Runs.{digit-range, beyond, digits-front, front-digit, front-other}
use Rattle.decimal.proofs.Spelled.{number-plain, formed-long, formed-is, formed-deep}
use Rattle.decimal.proofs.Progress.{longer-more, longer-full, step-digit, step-point, step_other}
use Rattle.std.specs.Prelude.{Result, Err}
use Rattle.decimal.specs.declared.Decimal.{Decimal}
use Rattle.decimal.specs.declared.PriceError.{PriceError}
use Rattle.decimal.specs.declared.PriceError.TheVariants.{NoNumber}

-- the price where the text ends
abbrev verdict : Progress → Result Decimal PriceError
verdict p = finished p p.phase

-- a run with more digits
lengthened : ℕ → Run → List ℕ → Run
lengthened most r [] = r
lengthened most r (b ∷ ds) = lengthened most (longer most r b) ds

abbrev run : ℕ → ℕ → Run
run v n = record { value = v; count = n }

lengthened_within : (most : ℕ) (ds : List ℕ) (v n : ℕ) → n + length ds ≤ most → lengthened most (run v n) ds ≡ run (value_from v ds) (n + length ds)
unfolding lengthened value_from number_from
lengthened_within most [] v n h = let z : n ≡ n + 0 = omega arith in ap (run v) z
lengthened_within most (b ∷ ds) v n h =
    let q : n + 1 + length ds ≡ n + suc (length ds) = omega arith in
    rw (← longer-more most (run v n) b (omega arith)) (lengthened_within most ds (v * 10 + (b - 0x30)) (n + 1) (omega arith) ∙ ap (run _) q)

lengthened_past : (most : ℕ) (ds : List ℕ) (v n : ℕ) → n ≤ most + 1 → most < n + length ds → (lengthened most (run v n) ds).count ≡ most + 1
unfolding lengthened
lengthened_past most [] v n h k = omega arith
lengthened_past most (b ∷ ds) v n h k = go (dec_le most n) (lengthened_past most ds)
  where
    go : Dec (most ≤ n) → ((v n : ℕ) → n ≤ most + 1 → most < n + length ds → (lengthened most (run v n) ds).count ≡ most + 1) →
        (lengthened most (longer most (run v n) b) ds).count ≡ most + 1
    go (yes l) ih = rw (← longer-full most (run v n) b l) (ih v (most + 1) (omega arith) (omega arith))
    go (no l) ih = rw (← longer-more most (run v n) b (omega arith)) (ih (v * 10 + (b - 0x30)) (n + 1) (omega arith) (omega arith))

-- from no digit on
all_digits : (most : ℕ) (ds : List ℕ) → length ds ≤ most → lengthened most none ds ≡ run (value_from 0 ds) (length ds)
all_digits most ds h =
    let z : 0 + length ds ≡ length ds = omega arith in
    lengthened_within most ds 0 0 (omega arith) ∙ ap (run (value_from 0 ds)) z

too_many : (most : ℕ) (ds : List ℕ) → most < length ds → (lengthened most none ds).count ≡ most + 1
too_many most ds h = lengthened_past most ds 0 0 (omega arith) (omega arith)

some-digits : (most b : ℕ) (ds : List ℕ) → (lengthened most none (b ∷ ds)).count ≡ 0 → ⊥
some-digits most b ds e = go (dec_le (length (b ∷ ds)) most)
  where
    go : Dec (length (b ∷ ds) ≤ most) → ⊥
    go (yes h) = let q = ap (λ (r : Run). r.count) (all_digits most (b ∷ ds) h) in omega arith
    go (no h) = let q = too_many most (b ∷ ds) (omega arith) in omega arith

-- the digits' price is that of the form
priced-digits : (f : Phase) (ds fs : List ℕ)
    → price_so (progress f (lengthened 12 none ds) (lengthened 18 none fs)) ≡ priced_as (formed false ds fs)
unfolding price_so
priced-digits f ds fs = go (dec_le (length ds) 12) (dec_le (length fs) 18)
  where
    go : Dec (length ds ≤ 12) → Dec (length fs ≤ 18)
        → price_so (progress f (lengthened 12 none ds) (lengthened 18 none fs)) ≡ priced_as (formed false ds fs)
    go (yes h) (yes k) =
        rw (all_digits 12 ds h, all_digits 18 fs k, le-leb (length ds) 12 h, le-leb (length fs) 18 k, formed-is false ds fs h k)
    go (yes h) (no k) =
        rw (all_digits 12 ds h, le-leb (length ds) 12 h, too_many 18 fs (omega arith), formed-deep false ds fs h (omega arith))
    go (no h) k = rw (too_many 12 ds (omega arith), formed-long false ds fs (omega arith))

-- what is lost stays lost
lost-step : (b : ℕ) → step lost b ≡ lost
unfolding step on_digit on_point
lost-step b = go (digit b) (eqb b 0x2e)
  where
    go : (s t : Bool) → (s ⇒ lost else t ⇒ lost else lost) ≡ lost
    go true t = refl
    go false true = refl
    go false false = refl

lost-steps : (l : List ℕ) → steps lost l ≡ lost
unfolding steps
lost-steps [] = refl
lost-steps (b ∷ l) = rw (lost-step b) (lost-steps l)

lost-from : (p : Progress) (b : ℕ) (l : List ℕ) → step p b ≡ lost → verdict (steps p (b ∷ l)) ≡ Err NoNumber
unfolding steps finished
lost-from p b l e =
    let q : steps p (b ∷ l) ≡ lost = rw e (lost-steps l) in
    ap (λ (x : Progress). verdict x) q

-- In a phase where every digit lengthens a run, the digits at the front go into it.
module _ (most : ℕ) (phase : Run → Progress) (next : (r : Run) (b : ℕ) → digit b ≡ true → step (phase r) b ≡ phase (longer most r b)) where
  run_steps : (l : List ℕ) (r : Run) → steps (phase r) l ≡ steps (phase (lengthened most r (front l))) (beyond l)
  unfolding lengthened steps
  run_steps [] r = unfold front in refl
  run_steps (b ∷ l) r = go (digit b) refl (run_steps l (longer most r b))
    where
      go : (t : Bool) → digit b ≡ t
          → steps (phase (longer most r b)) l ≡ steps (phase (lengthened most (longer most r b) (front l))) (beyond l)
          → steps (phase r) (b ∷ l) ≡ steps (phase (lengthened most r (front (b ∷ l)))) (beyond (b ∷ l))
      go true e ih = rw (front-digit b l e, next r b e) ih
      go false e ih = rw (front-other b l e)

whole-steps : (l : List ℕ) (w : Run) → steps (progress Whole w none) l ≡ steps (progress Whole (lengthened 12 w (front l)) none) (beyond l)
unfolding on_digit
whole-steps = run_steps 12 (λ r. progress Whole r none) (λ r b e. sym (step-digit (progress Whole r none) b e))

part-steps : (w : Run) (l : List ℕ) (r : Run) → steps (progress Part w r) l ≡ steps (progress Part w (lengthened 18 r (front l))) (beyond l)
unfolding on_digit
part-steps w = run_steps 18 (λ r. progress Part w r) (λ r b e. sym (step-digit (progress Part w r) b e))

-- what follows the digits at the front is the end, or begins with no digit
data Follows : List ℕ → Type 0 where
  ends : Follows []
  other : {b : ℕ} {r : List ℕ} → digit b ≡ false → Follows (b ∷ r)

follows : (l : List ℕ) → Follows (beyond l)
follows [] = unfold front in ends
follows (b ∷ l) = go (digit b) refl (follows l)
  where
    go : (t : Bool) → digit b ≡ t → Follows (beyond l) → Follows (beyond (b ∷ l))
    go true e ih = rw (front-digit b l e) ih
    go false e ih = rw (front-other b l e) (other e)

-- Behind the point: digits to the end, at least one.
abbrev pointed : List ℕ → List ℕ → Result Decimal PriceError
pointed ds t = unsigned (some_digits t) ⇒ priced_as (behind_point false ds (digits t)) else Err NoNumber

unsigned-made : (g : List ℕ → List ℕ) (o : Read (List ℕ)) → unsigned (changed g o) ≡ unsigned o
unfolding unsigned changed
unsigned-made g (done x []) = refl
unsigned-made g (done x (b ∷ r)) = refl
unsigned-made g (bad k r) = refl

some_is : (c : ℕ) (u : List ℕ) → digit c ≡ true → some_digits (c ∷ u) ≡ digits (c ∷ u)
unfolding some_digits digits
some_is c u e = rw (e, digits)

part-lost : (w r : Run) (b : ℕ) → digit b ≡ false → step (progress Part w r) b ≡ lost
unfolding step on_point
part-lost w r b e = go (eqb b 0x2e) refl
  where
    go : (t : Bool) → eqb b 0x2e ≡ t → step (progress Part w r) b ≡ lost
    go true q = rw (e, q)
    go false q = rw (e, q)

module _ (ds : List ℕ) where
  part_end : (c : ℕ) (fs q : List ℕ) → Follows q → verdict (steps (progress Part (lengthened 12 none ds) (lengthened 18 none (c ∷ fs))) q)
      ≡ (unsigned (done (c ∷ fs) q) ⇒ priced_as (behind_point false ds (done (c ∷ fs) q)) else Err NoNumber)
  unfolding steps unsigned behind_point finished
  part_end c fs [] ends = rw (ne_eqb _ 0 (some-digits 18 c fs)) (priced-digits Part ds (c ∷ fs))
  part_end c fs (b ∷ r) (other e) = lost-from _ b r (part-lost _ _ b e)

  point-steps : (t : List ℕ) → verdict (steps (progress Part (lengthened 12 none ds) none) t) ≡ pointed ds t
  unfolding steps finished some_digits unsigned
  point-steps [] = refl
  point-steps (c ∷ u) = go (digit c) refl
    where
      w : Run
      w = lengthened 12 none ds

      go : (t : Bool) → digit c ≡ t → verdict (steps (progress Part w none) (c ∷ u)) ≡ pointed ds (c ∷ u)
      go true e =
          ap (λ (x : Progress). verdict x) (part-steps w (c ∷ u) none)
          ∙ rw (some_is c u e, digits-front (c ∷ u), front-digit c u e) (part_end c (front u) (beyond u) (follows u))
      go false e = lost-from (progress Part w none) c u (part-lost w none c e) ∙ rw e

-- Behind the whole digits: the end, or a point.
abbrev tail : List ℕ → List ℕ → Result Decimal PriceError
tail ds r = unsigned (fraction r) ⇒ priced_as (behind_whole false (done ds r)) else Err NoNumber

module _ (ds : List ℕ) (b : ℕ) (t : List ℕ) where
  tail-point : eqb b 0x2e ≡ true → pointed ds t ≡ tail ds (b ∷ t)
  unfolding fraction optional behind_whole
  tail-point e = rw (e, unsigned-made (λ y. b ∷ y) (some_digits t))

  tail-other : eqb b 0x2e ≡ false → Err NoNumber ≡ tail ds (b ∷ t)
  unfolding fraction optional unsigned
  tail-other e = rw e

-- a phase of whole digits, where the text may end and a point may follow
module _ (f : Phase)
    (price : (p : Progress) → finished p f ≡ price_so p)
    (point : (p : Progress) → on_point p f ≡ progress Part p.whole p.part) where
  whole-end : (ds r : List ℕ) → Follows r → verdict (steps (progress f (lengthened 12 none ds) none) r) ≡ tail ds r
  unfolding steps
  whole-end ds [] ends = price _ ∙ (unfold lengthened fraction optional unsigned behind_whole in priced-digits f ds [])
  whole-end ds (b ∷ t) (other e) = go (eqb b 0x2e) refl
    where
      p : Progress
      p = progress f (lengthened 12 none ds) none

      go : (q : Bool) → eqb b 0x2e ≡ q → verdict (steps p (b ∷ t)) ≡ tail ds (b ∷ t)
      go true q = ap (λ (x : Progress). verdict (steps x t)) (sym (step-point p b e q) ∙ point p) ∙ point-steps ds t ∙ tail-point ds b t q
      go false q = lost-from p b t (sym (step_other p b e q)) ∙ tail-other ds b t q

whole-tail : (ds r : List ℕ) → Follows r → verdict (steps (progress Whole (lengthened 12 none ds) none) r) ≡ tail ds r
unfolding finished on_point
whole-tail = whole-end Whole (λ p. refl) (λ p. refl)

-- a digit is no point
digit-point : (b : ℕ) → digit b ≡ true → eqb b 0x2e ≡ false
digit-point b e = ne_eqb b 0x2e (λ q. omega (arith, digit-range b e))

zero-lost : (w : Run) (b : ℕ) → digit b ≡ true → step (progress Zero w none) b ≡ lost
unfolding step on_digit
zero-lost w b e = rw e

zero-tail : (ds r : List ℕ) → verdict (steps (progress Zero (lengthened 12 none ds) none) r) ≡ tail ds r
unfolding finished on_point
zero-tail ds [] = whole-end Zero (λ p. refl) (λ p. refl) ds [] ends
zero-tail ds (b ∷ t) = go (digit b) refl
  where
    go : (q : Bool) → digit b ≡ q → verdict (steps (progress Zero (lengthened 12 none ds) none) (b ∷ t)) ≡ tail ds (b ∷ t)
    go true q = lost-from _ b t (zero-lost _ b q) ∙ tail-other ds b t (digit-point b q)
    go false q = whole-end Zero (λ p. refl) (λ p. refl) ds (b ∷ t) (other q)

-- the definition, by the whole digits x and what follows them
module _ (s x r : List ℕ) (e : integer s ≡ done x r) where
  price-tail : number_of s ≡ behind_whole false (done x r) → tail x r ≡ price_of s
  unfolding price_of both then
  price-tail q = rw (e, unsigned-made (λ y. x ++ y) (fraction r), q)

  price-none : unsigned (fraction r) ≡ false → Err NoNumber ≡ price_of s
  unfolding price_of both then
  price-none q = rw (e, unsigned-made (λ y. x ++ y) (fraction r), q)

number_digits : (b : ℕ) (r : List ℕ) → digit b ≡ true → number_of (b ∷ r) ≡ behind_whole false (digits (b ∷ r))
number_digits b r e = sym (number-plain (b ∷ r) (omega arith) (λ q. omega (arith, digit-range b e)))

start-lost : (b : ℕ) → digit b ≡ false → step start b ≡ lost
unfolding step on_point
start-lost b e = go (eqb b 0x2e) refl
  where
    go : (t : Bool) → eqb b 0x2e ≡ t → step start b ≡ lost
    go true q = rw (e, q)
    go false q = rw (e, q)

begins-zero : (b : ℕ) → digit b ≡ true → eqb b 0x30 ≡ true → step start b ≡ progress Zero (lengthened 12 none (b ∷ [])) none
unfolding step on_digit beginning lengthened
begins-zero b e z = rw (e, z)

begins_run : (b : ℕ) → digit b ≡ true → eqb b 0x30 ≡ false → step start b ≡ progress Whole (longer 12 none b) none
unfolding step on_digit beginning
begins_run b e z = rw (e, z)

-- a text that begins with no digit
zero-digit : (b : ℕ) → b ≡ 0x30 → digit b ≡ true
unfolding digit within
zero-digit b q = rw q

price-other : (b : ℕ) (r : List ℕ) → digit b ≡ false → Err NoNumber ≡ price_of (b ∷ r)
unfolding price_of both then integer some_digits unsigned
price-other b r e =
    let n : eqb b 0x30 ≡ false = ne_eqb b 0x30 (λ q. let z : ◌≡◌ {A = ℕ} 0 1 = cc (zero-digit b q) in omega arith) in rw (n, e)

follows_none : (r : List ℕ) → Follows r → front r ≡ []
follows_none [] ends = unfold front in refl
follows_none (b ∷ r) (other e) = front-other b r e

fraction-no : (b : ℕ) (t : List ℕ) → eqb b 0x2e ≡ false → unsigned (fraction (b ∷ t)) ≡ false
unfolding fraction optional unsigned
fraction-no b t e = rw e

module _ (b : ℕ) (e : digit b ≡ true) where
  digits-begun : (r : List ℕ) → digits (b ∷ r) ≡ done (b ∷ front r) (beyond r)
  digits-begun r = digits-front (b ∷ r) ∙ rw (front-digit b r e)

  -- one that begins with 0: its whole digits are at an end
  module _ (z : eqb b 0x30 ≡ true) where
    integer-zero : (r : List ℕ) → integer (b ∷ r) ≡ done (b ∷ []) r
    unfolding integer
    integer-zero r = rw z

    price-zero-end : (r : List ℕ) → Follows r → tail (b ∷ []) r ≡ price_of (b ∷ r)
    price-zero-end r f =
        let q : digits (b ∷ r) ≡ done (b ∷ []) r = rw (follows_none r f) at (digits-begun r) in
        price-tail (b ∷ r) (b ∷ []) r (integer-zero r) (number_digits b r e ∙ ap (behind_whole false) q)

    price-zero : (r : List ℕ) → tail (b ∷ []) r ≡ price_of (b ∷ r)
    price-zero [] = price-zero-end [] ends
    price-zero (c ∷ t) = go (digit c) refl
      where
        go : (q : Bool) → digit c ≡ q → tail (b ∷ []) (c ∷ t) ≡ price_of (b ∷ c ∷ t)
        go true q =
            let n = digit-point c q in
            sym (tail-other (b ∷ []) c t n) ∙ price-none (b ∷ c ∷ t) (b ∷ []) (c ∷ t) (integer-zero (c ∷ t)) (fraction-no c t n)
        go false q = price-zero-end (c ∷ t) (other q)

  -- one that begins with another digit: all digits are its whole digits
  module _ (z : eqb b 0x30 ≡ false) (r : List ℕ) where
    integer_run : integer (b ∷ r) ≡ done (b ∷ front r) (beyond r)
    unfolding integer
    integer_run = rw z (some_is b r e ∙ digits-begun r)

    price_run : tail (b ∷ front r) (beyond r) ≡ price_of (b ∷ r)
    price_run =
        price-tail (b ∷ r) (b ∷ front r) (beyond r) integer_run
        (number_digits b r e ∙ ap (behind_whole false) (digits-begun r))

-- the price of a text is what reading it byte by byte finds
pub priced : (s : List ℕ) → verdict (steps start s) ≡ price_of s
unfolding steps finished price_of both then integer unsigned lengthened
priced [] = refl
priced (b ∷ r) = go (digit b) refl (eqb b 0x30) refl
  where
    w : Run
    w = longer 12 none b

    go : (d : Bool) → digit b ≡ d → (z : Bool) → eqb b 0x30 ≡ z → verdict (steps (step start b) r) ≡ price_of (b ∷ r)
    go true e true z = ap (λ (x : Progress). verdict (steps x r)) (begins-zero b e z) ∙ zero-tail (b ∷ []) r ∙ price-zero b e z r
    go true e false z =
        ap (λ (x : Progress). verdict (steps x r)) (begins_run b e z)
        ∙ ap (λ (x : Progress). verdict x) (whole-steps r w)
        ∙ whole-tail (b ∷ front r) (beyond r) (follows r)
        ∙ price_run b e z r
    go false e z q = lost-from start b r (start-lost b e) ∙ price-other b r e
