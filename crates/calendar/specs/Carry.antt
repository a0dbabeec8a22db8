-- One second on, carry by carry. What is too large begins anew, and what stands before it goes on by one.
use Rattle.std.specs.Prelude.{◌+◌, cond, nat_lt}
use Rattle.calendar.specs.Calendar.{days_of_month}
use Rattle.calendar.specs.Moment.{Moment, moment}

-- January 1 of the year after, at the same time of day; 2000 comes after 2099
abbrev pub year_on : Moment → Moment
year_on m = moment (cond (nat_lt m.year 99) (m.year + 1) 0) 1 1 m.hour m.minute m.second

-- the first of the month after, at the same time of day
abbrev pub month_on : Moment → Moment
month_on m =
    cond (nat_lt m.month 12)
    (moment m.year (m.month + 1) 1 m.hour m.minute m.second)
    (year_on m)

abbrev pub day_on : Moment → Moment
day_on m =
    cond (nat_lt m.day (days_of_month m.year m.month))
    (moment m.year m.month (m.day + 1) m.hour m.minute m.second)
    (month_on m)

abbrev pub hour_on : Moment → Moment
hour_on m =
    cond (nat_lt m.hour 23)
    (moment m.year m.month m.day (m.hour + 1) m.minute m.second)
    (day_on (moment m.year m.month m.day 0 m.minute m.second))

abbrev pub minute_on : Moment → Moment
minute_on m =
    cond (nat_lt m.minute 59)
    (moment m.year m.month m.day m.hour (m.minute + 1) m.second)
    (hour_on (moment m.year m.month m.day m.hour 0 m.second))

unfoldable pub second_on : Moment → Moment
second_on m =
    cond (nat_lt m.second 59)
    (moment m.year m.month m.day m.hour m.minute (m.second + 1))
    (minute_on (moment m.year m.month m.day m.hour m.minute 0))
