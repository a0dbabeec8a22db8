-- A date and time as plain numbers, whether or not it exists.
use Rattle.std.specs.Prelude.{◌≡◌, ℕ, Bool, true, cond, ◌&&◌, Some, None, Option, ◌==◌, nat_le, nat_lt}
use Rattle.calendar.specs.Calendar.{days_of_month}
use Rattle.calendar.specs.declared.date_time.DateTime.{DateTime}

pub record Moment : Type 0 where
  pub year : ℕ
  pub month : ℕ
  pub day : ℕ
  pub hour : ℕ
  pub minute : ℕ
  pub second : ℕ

abbrev pub moment : ℕ → ℕ → ℕ → ℕ → ℕ → ℕ → Moment
moment y mo d h mi s = record { year = y; month = mo; day = d; hour = h; minute = mi; second = s }

-- what a value of the type says
abbrev pub moment_of : DateTime → Moment
moment_of t = moment t.year t.month t.day t.hour t.minute t.second

-- the first second of 2000
abbrev pub first : Moment
first = moment 0 1 1 0 0 0

abbrev pub is_date : ℕ → ℕ → ℕ → Bool
is_date year month day =
    nat_lt year 100 && (nat_le 1 month && (nat_le month 12 && (nat_le 1 day && nat_le day (days_of_month year month))))

abbrev pub is_time : ℕ → ℕ → ℕ → Bool
is_time hour minute second = nat_lt hour 24 && (nat_lt minute 60 && nat_lt second 60)

-- whether there is such a time in 2000 to 2099
unfoldable pub exists : Moment → Bool
exists m = is_date m.year m.month m.day && is_time m.hour m.minute m.second

-- the type has only times that exist
abbrev pub EveryTimeExists : Type 0
EveryTimeExists = (t : DateTime) → exists (moment_of t) ≡ true

-- a moment, if it exists
abbrev pub existing : Moment → Option Moment
existing m = cond (exists m) (Some m) None

-- whether two moments are the same
unfoldable pub same_moment : Moment → Moment → Bool
same_moment m n =
    (m.year == n.year)
    && (m.month == n.month
    && (m.day == n.day
    && (m.hour == n.hour && (m.minute == n.minute && m.second == n.second))))
