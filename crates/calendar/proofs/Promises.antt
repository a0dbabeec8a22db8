-- What the public functions promise of every moment.
use Rattle.std.proofs.Common.{refl}
use Rattle.calendar.specs.Carry.{second_on}
use Rattle.calendar.specs.Elapsed.{SecondsTellTimesApart}
use Rattle.calendar.specs.HalfHours.{HalfHourRoundsDown, HalfHoursEndWithTheCentury}
use Rattle.calendar.specs.Running.{SecondOnExists, SecondOnIsOneMore, SecondsOnAreAsManyMore, February29FollowsIn2000, March1FollowsIn2001, CenturyBeginsAnew}
use Rattle.calendar.proofs.Moments.{exists_parts, exists_from, time_exists}
use Rattle.calendar.proofs.Century.{second_later, seconds_later, seconds_tell}
use Rattle.calendar.proofs.Halves.{rounds_down, half_hours_end}

pub second_on_exists : SecondOnExists
second_on_exists m e = exists_from _ (second_later m (exists_parts m e)).there

pub one_more : SecondOnIsOneMore
one_more m e = (second_later m (exists_parts m e)).later

pub as_many_more : SecondsOnAreAsManyMore
as_many_more n m e = (seconds_later n m (exists_parts m e)).later

pub tells_times_apart : SecondsTellTimesApart
tells_times_apart m n e f = seconds_tell m n (exists_parts m e) (exists_parts n f)

pub leap_day : February29FollowsIn2000
unfolding second_on
leap_day = refl

pub no_leap_day : March1FollowsIn2001
unfolding second_on
no_leap_day = refl

pub begins_anew : CenturyBeginsAnew
unfolding second_on
begins_anew = refl

pub ruleset running = (time_exists, second_on_exists, one_more, as_many_more, tells_times_apart, leap_day, no_leap_day, begins_anew)

pub half_hour_rounds_down : HalfHourRoundsDown
half_hour_rounds_down m e = rounds_down m (exists_parts m e)

pub half_hours_end_with_the_century : HalfHoursEndWithTheCentury
half_hours_end_with_the_century n m e = half_hours_end n m (exists_parts m e)
