-- How long a moment is after the start of 2000.
use Rattle.std.specs.Prelude.{◌≡◌, ℕ, zero, suc, ◌+◌, ◌-◌, ◌*◌, true, cond}
use Rattle.calendar.specs.Calendar.{leap, days_of_month}
use Rattle.calendar.specs.Moment.{Moment, exists}

-- f 0 + f 1 + .. + f (n - 1)
abbrev pub total : (ℕ → ℕ) → ℕ → ℕ
total f zero = 0
total f (suc n) = total f n + f n

abbrev pub days_of_year : ℕ → ℕ
days_of_year year = cond (leap year) 366 365

abbrev pub days_before_year : ℕ → ℕ
days_before_year year = total days_of_year year

-- the days of the year before the first of a month; month k + 1 stands at k
abbrev pub days_before_month : ℕ → ℕ → ℕ
days_before_month year month = total (λ k. days_of_month year (k + 1)) (month - 1)

-- how many days after 2000-01-01 a date is
unfoldable pub days_since_2000 : ℕ → ℕ → ℕ → ℕ
days_since_2000 year month day = days_before_year year + days_before_month year month + (day - 1)

unfoldable pub seconds_since_2000 : Moment → ℕ
seconds_since_2000 m =
    ((days_since_2000 m.year m.month m.day * 24 + m.hour) * 60 + m.minute) * 60 + m.second

-- the seconds of the hundred years: 36,525 days of 86,400 seconds
abbrev pub century : ℕ
century = 36525 * 86400

-- no two times are as many seconds after the start of 2000
abbrev pub SecondsTellTimesApart : Type 0
SecondsTellTimesApart =
    (m n : Moment)
    → exists m ≡ true
    → exists n ≡ true
    → seconds_since_2000 m ≡ seconds_since_2000 n
    → m ≡ n
