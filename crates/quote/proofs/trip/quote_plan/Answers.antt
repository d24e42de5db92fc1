-- Both sorts one after the other, each with room for its charges; what they come to is the plan's quote.
use mathlib.Core.List.{List}
use mathlib.Core.Path.{◌≡◌, sym, ap, ap₂, subst, ◌∙◌}
use Prim.Native.Nat.{ℕ, ◌-◌, ◌^◌, ◌<◌}
use native.Mathlib.Omega.{arith}
use lib.IntN.{ℤ}
use lib.Signed.{mag}
use mir.Syntax.{w64}
use mir.ValLaws.{to_z-of_z}
use Rattle.fare.specs.declared.Segment.{Segment}
use Rattle.fare.specs.declared.Sum.{Sum}
use Rattle.fare.specs.declared.Minutes.{Minutes}
use Rattle.fare.specs.declared.Kilometres.{Kilometres}
use Rattle.fare.specs.declared.Charged.{Charged}
use Rattle.fare.specs.Charges.{minutes_of, kilometres_of}
use Rattle.fare.specs.inner.Folds.{with_all}
use Rattle.fare.proofs.Worth.{clamped-difference}
use Rattle.fare.proofs.Bound.{minutes-short, kilometres-short}
use Rattle.quote.specs.Quote.{priced}
use Rattle.quote.proofs.Fields.{minutes-clear, kilometres-clear}
use Rattle.quote.proofs.Trips.{price, by_minute, by_kilometre, timed_room, minutes_chargeable, kilometres_chargeable, amount-room, plan-quoted}
use Rattle.quote.proofs.trip.quote_plan.Goals as goal

-- what the per-minute segments came to, and behind them the others
timed_is : (p : List ℕ) (seconds : ℕ) (x : Sum) (l : List Segment) (m : Minutes) {r : Charged} → r ≡ with_all x l m.count → x ≡ price p → l ≡ by_minute p
    → m ≡ minutes_of seconds → r ≡ with_all (price p) (by_minute p) (minutes_of seconds).count
timed_is p seconds x l m e u v w =
    e ∙ ap₂ (λ (x : Sum) (l : List Segment). with_all x l m.count) u v ∙ ap (λ (m : Minutes). with_all (price p) (by_minute p) m.count) w

all_is : (p : List ℕ) (seconds metres : ℕ) (t : Charged) (l : List Segment) (k : Kilometres) {r : Charged} → r ≡ with_all t.sum l k.count
    → t ≡ with_all (price p) (by_minute p) (minutes_of seconds).count → l ≡ by_kilometre p → k ≡ kilometres_of metres
    → r ≡ with_all (with_all (price p) (by_minute p) (minutes_of seconds).count).sum (by_kilometre p) (kilometres_of metres).count
all_is p seconds metres t l k e u v w =
    e ∙ ap₂ (λ (x : Charged) (l : List Segment). with_all x.sum l k.count) u v
    ∙ ap (λ (k : Kilometres). with_all (with_all (price p) (by_minute p) (minutes_of seconds).count).sum (by_kilometre p) k.count) w

pub segments_of-by_minute-requires : goal.segments_of-by_minute-requires
segments_of-by_minute-requires c = let k = c.requires.2 in (k.whole, minutes-clear k)

pub with_minutes-timed-requires : goal.with_minutes-timed-requires
with_minutes-timed-requires c =
    let a = c.args in
    rw (c.price_of-price.ensures, c.of_seconds-minutes.ensures, c.as_slice.ensures, c.segments_of-by_minute.ensures)
    (minutes_chargeable c.requires.2 (minutes_of a.seconds).count (minutes-short a.seconds c.requires.0))

pub segments_of-by_kilometre-requires : goal.segments_of-by_kilometre-requires
segments_of-by_kilometre-requires c = let k = c.requires.2 in (k.whole, kilometres-clear k)

pub with_kilometres-all-requires : goal.with_kilometres-all-requires
with_kilometres-all-requires c =
    let a = c.args in
    let timed = timed_is a.p.now a.seconds _ _ _ c.with_minutes-timed.ensures c.price_of-price.ensures (c.as_slice.ensures ∙ c.segments_of-by_minute.ensures) c.of_seconds-minutes.ensures in
    rw (timed, c.of_metres-kilometres.ensures, c.as_slice-2.ensures, c.segments_of-by_kilometre.ensures)
    (kilometres_chargeable c.requires.2 (minutes_of a.seconds).count (kilometres_of a.metres).count
    (minutes-short a.seconds c.requires.0) (kilometres-short a.metres c.requires.1))

-- either sum comes to a number of 63 bits, so that the amount alone tells which is asked for
pub amount-requires : goal.amount-requires
amount-requires c =
    let a = c.args in
    let timed = timed_is a.p.now a.seconds _ _ _ c.with_minutes-timed.ensures c.price_of-price.ensures (c.as_slice.ensures ∙ c.segments_of-by_minute.ensures) c.of_seconds-minutes.ensures in
    let all = all_is a.p.now a.seconds a.metres _ _ _ c.with_kilometres-all.ensures timed (c.as_slice-2.ensures ∙ c.segments_of-by_kilometre.ensures) c.of_metres-kilometres.ensures in
    let room_timed : c.with_minutes-timed.result.sum.added - c.with_minutes-timed.result.sum.taken < 2 ^ 63 =
    rw timed (omega (arith, (timed_room c.requires.2 (minutes_of a.seconds).count (minutes-short a.seconds c.requires.0)).added)) in
    let room_all : c.with_kilometres-all.result.sum.added - c.with_kilometres-all.result.sum.taken < 2 ^ 63 =
    rw all (amount-room c.requires.2 a.seconds a.metres c.requires.0 c.requires.1) in
    omega (arith, room_timed, room_all)

pub returns : goal.returns
returns c =
    let a = c.args in
    let timed = timed_is a.p.now a.seconds _ _ _ c.with_minutes-timed.ensures c.price_of-price.ensures (c.as_slice.ensures ∙ c.segments_of-by_minute.ensures) c.of_seconds-minutes.ensures in
    let all = all_is a.p.now a.seconds a.metres _ _ _ c.with_kilometres-all.ensures timed (c.as_slice-2.ensures ∙ c.segments_of-by_kilometre.ensures) c.of_metres-kilometres.ensures in
    let room_timed : c.with_minutes-timed.result.sum.added - c.with_minutes-timed.result.sum.taken < 2 ^ 63 =
    rw timed (omega (arith, (timed_room c.requires.2 (minutes_of a.seconds).count (minutes-short a.seconds c.requires.0)).added)) in
    let room_all : c.with_kilometres-all.result.sum.added - c.with_kilometres-all.result.sum.taken < 2 ^ 63 =
    rw all (amount-room c.requires.2 a.seconds a.metres c.requires.0 c.requires.1) in
    let fits : mag c.amount.result < 2 ^ 63 = subst (λ (z : ℤ). mag z < 2 ^ 63) (sym (c.amount.ensures ∙ clamped-difference _ _)) (omega (arith, room_timed, room_all)) in
    ap (λ (z : ℤ). priced z c.with_minutes-timed.result.past c.with_kilometres-all.result.past) (to_z-of_z w64 c.amount.result (record { sfits = fits }))
    ∙ rw (c.amount.ensures, all, timed) (plan-quoted c.requires.2 a.seconds a.metres)
