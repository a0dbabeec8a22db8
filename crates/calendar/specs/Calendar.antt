-- The calendar of the years 2000 to 2099, which are numbered 0 to 99.
use Rattle.std.specs.Prelude.{ℕ, ◌%◌, Bool, cond, ◌||◌, ◌==◌}

abbrev pub leap : ℕ → Bool
leap year = year % 4 == 0

-- the months of thirty days: April, June, September, November
abbrev pub of_thirty : ℕ → Bool
of_thirty month = month == 4 || (month == 6 || (month == 9 || month == 11))

abbrev pub days_of_february : ℕ → ℕ
days_of_february year = cond (leap year) 29 28

-- how many days a month of a year has; month 1 is January
abbrev pub days_of_month : ℕ → ℕ → ℕ
days_of_month year month = cond (month == 2) (days_of_february year) (cond (of_thirty month) 30 31)
