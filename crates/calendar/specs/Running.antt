-- What holds of a clock that goes on second by second.
use Rattle.std.specs.Prelude.{◌≡◌, ℕ, zero, suc, ◌+◌, ◌%◌, true}
use Rattle.calendar.specs.Moment.{Moment, moment, first, exists}
use Rattle.calendar.specs.Carry.{second_on}
use Rattle.calendar.specs.Elapsed.{seconds_since_2000, century}

abbrev pub SecondOnExists : Type 0
SecondOnExists = (m : Moment) → exists m ≡ true → exists (second_on m) ≡ true

-- one second on is one second more since 2000, modulo the century
abbrev pub SecondOnIsOneMore : Type 0
SecondOnIsOneMore =
    (m : Moment) → exists m ≡ true → seconds_since_2000 (second_on m) ≡ (seconds_since_2000 m + 1) % century

abbrev pub seconds_on : ℕ → Moment → Moment
seconds_on zero m = m
seconds_on (suc n) m = second_on (seconds_on n m)

-- n seconds on is n seconds more since 2000, modulo the century
abbrev pub SecondsOnAreAsManyMore : Type 0
SecondsOnAreAsManyMore =
    (n : ℕ) (m : Moment)
    → exists m ≡ true
    → seconds_since_2000 (seconds_on n m) ≡ (seconds_since_2000 m + n) % century

-- 2000 is a leap year
abbrev pub February29FollowsIn2000 : Type 0
February29FollowsIn2000 = second_on (moment 0 2 28 23 59 59) ≡ moment 0 2 29 0 0 0

abbrev pub March1FollowsIn2001 : Type 0
March1FollowsIn2001 = second_on (moment 1 2 28 23 59 59) ≡ moment 1 3 1 0 0 0

-- the last second of 2099 is followed by the first of 2000
abbrev pub CenturyBeginsAnew : Type 0
CenturyBeginsAnew = second_on (moment 99 12 31 23 59 59) ≡ first
