-- How large a plan's price and charges can be, by the ceilings on money, segments, minutes and kilometres.
use Rattle.std.specs.Prelude.{ℕ, ◌+◌, ◌*◌}
use Rattle.limits.specs.Ceilings.{segments}

-- money at its most, in ten-thousandths
abbrev pub most_money : ℕ
most_money = 10_000_000_000

-- the longest ride: 2,678,400 seconds in minutes, and 1,000,000 metres in kilometres
abbrev pub most_minutes : ℕ
most_minutes = 44_640

abbrev pub most_kilometres : ℕ
most_kilometres = 1_000

-- the most that one segment charges: its rate at every moment from 0 to the ride's length
abbrev pub most_charge : ℕ → ℕ
most_charge ride = most_money * (ride + 1)

-- the most that a plan's price and all its charges come to, on either side of zero
abbrev pub most_sum : ℕ
most_sum = most_money + segments * most_charge most_minutes + segments * most_charge most_kilometres
