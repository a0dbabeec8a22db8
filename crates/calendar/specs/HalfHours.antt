-- The half hours, which begin at 00 and at 30 minutes.
use Rattle.std.specs.Prelude.{◌≡◌, ℕ, zero, suc, ◌+◌, ◌-◌, ◌*◌, ◌/◌, ◌≤◌, true, cond, Some, None, Option, MatchOption, nat_lt}
use Rattle.calendar.specs.Moment.{Moment, moment, exists, same_moment}
use Rattle.calendar.specs.Carry.{hour_on}
use Rattle.calendar.specs.Elapsed.{seconds_since_2000, century}

-- the minute of its hour at which the half hour of a minute begins
abbrev pub half_of : ℕ → ℕ
half_of minute = cond (nat_lt minute 30) 0 30

-- the start of the half hour that contains a moment
unfoldable pub half_hour_of : Moment → Moment
half_hour_of m = moment m.year m.month m.day m.hour (half_of m.minute) 0

-- thirty minutes on
abbrev pub half_hour_on : Moment → Moment
half_hour_on m =
    cond (nat_lt m.minute 30)
    (moment m.year m.month m.day m.hour (m.minute + 30) m.second)
    (hour_on (moment m.year m.month m.day m.hour (m.minute - 30) m.second))

abbrev pub last_half_hour : Moment
last_half_hour = moment 99 12 31 23 30 0

-- the start of the half hour after the one that contains a moment; there is none after 2099
unfoldable pub next_half_hour : Moment → Option Moment
next_half_hour m =
    cond (same_moment (half_hour_of m) last_half_hour) None (Some (half_hour_on (half_hour_of m)))

abbrev pub then_next : Option Moment → Option Moment
then_next None = None
then_next (Some m) = next_half_hour m

-- the start of the half hour that is n after the one that contains a moment
abbrev pub half_hours_on : ℕ → Moment → Option Moment
half_hours_on zero m = Some (half_hour_of m)
half_hours_on (suc n) m = then_next (half_hours_on n m)

-- a half hour begins at a multiple of 1800 seconds, and no later than what it contains
abbrev pub HalfHourRoundsDown : Type 0
HalfHourRoundsDown =
    (m : Moment)
    → exists m ≡ true
    → seconds_since_2000 (half_hour_of m) ≡ seconds_since_2000 m / 1800 * 1800

-- successive half hours are 1800 seconds apart, and end with the century
abbrev pub HalfHoursEndWithTheCentury : Type 0
HalfHoursEndWithTheCentury =
    (n : ℕ) (m : Moment)
    → exists m ≡ true
    → MatchOption (half_hours_on n m) (century ≤ seconds_since_2000 (half_hour_of m) + n * 1800)
    (λ r. (exists r ≡ true) × (seconds_since_2000 r ≡ seconds_since_2000 (half_hour_of m) + n * 1800))
