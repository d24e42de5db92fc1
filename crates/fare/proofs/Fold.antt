-- A loop over the segments of a list: what was folded so far and the charges that are left make the whole (`Makes`), from the first segment on to the last.
use mathlib.Core.List.{List, [], ◌∷◌}
use mathlib.Core.Path.{◌≡◌, refl, sym, ap, ◌∙◌}
use Prim.Native.Nat.{ℕ}
use lib.IntN.{ℤ, ◌+ℤ◌, +ℤ_assoc, +ℤ_idr}
use Rattle.decimal.specs.declared.Amount.{Amount}
use Rattle.decimal.specs.Exact.{ten_thousandths}
use Rattle.fare.specs.declared.Minutes.{Minutes}
use Rattle.fare.specs.declared.Kilometres.{Kilometres}
use Rattle.fare.specs.declared.Segment.{Segment}
use Rattle.fare.specs.declared.Sum.{Sum}
use Rattle.fare.specs.Charges.{charge, charges, sum}
use Rattle.fare.specs.inner.Folds.{worth, of_price, with_charge, with_charges}
use Rattle.fare.proofs.Worth.{worth-price, worth-charge}

-- the sum and the charges of what is left make z
abbrev pub Makes : ℤ → ℕ → Sum → List Segment → Type 0
Makes z ride sum l = worth sum +ℤ charges l ride ≡ z

pub makes_start : (sum : Sum) (l : List Segment) (ride : ℕ) → Makes (worth sum +ℤ charges l ride) ride sum l
makes_start sum l ride = refl

pub makes_next : (z : ℤ) (ride : ℕ) (sum : Sum) (s : Segment) (l : List Segment) → Makes z ride sum (s ∷ l) → Makes z ride (with_charge sum s ride) l
unfolding charges
makes_next z ride sum s l h = rw (worth-charge sum s ride) (+ℤ_assoc (worth sum) (charge s ride) (charges l ride) ∙ h)

pub makes_end : (z : ℤ) (ride : ℕ) (sum : Sum) → Makes z ride sum [] → worth sum ≡ z
unfolding charges
makes_end z ride sum h = sym (+ℤ_idr (worth sum)) ∙ h

-- all charges of a list, and of a plan
makes_all : (z : ℤ) (ride : ℕ) (l : List Segment) (sum : Sum) → Makes z ride sum l → worth (with_charges sum l ride) ≡ z
makes_all z ride [] sum h = makes_end z ride sum h
makes_all z ride (s ∷ l) sum h = makes_all z ride l (with_charge sum s ride) (makes_next z ride sum s l h)

pub charges_summed : (sum : Sum) (l : List Segment) (ride : ℕ) → worth (with_charges sum l ride) ≡ worth sum +ℤ charges l ride
charges_summed sum l ride = makes_all _ ride l sum (makes_start sum l ride)

pub sum_kept : (price : Amount) (per_minute per_kilometre : List Segment) (minutes : Minutes) (kilometres : Kilometres)
    → worth (with_charges (with_charges (of_price price) per_minute minutes.count) per_kilometre kilometres.count)
    ≡ sum (ten_thousandths price) per_minute per_kilometre minutes kilometres
unfolding sum
sum_kept price per_minute per_kilometre minutes kilometres =
    charges_summed _ per_kilometre kilometres.count
    ∙ ap (λ (z : ℤ). z +ℤ charges per_kilometre kilometres.count)
    (charges_summed (of_price price) per_minute minutes.count ∙ ap (λ (z : ℤ). z +ℤ charges per_minute minutes.count) (worth-price price))
