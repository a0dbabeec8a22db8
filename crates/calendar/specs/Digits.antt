-- A moment as twelve decimal digits, YYMMDDhhmmss, in ASCII.
use Rattle.std.specs.Prelude.{◌≡◌, ℕ, ◌+◌, ◌-◌, ◌*◌, ◌/◌, ◌%◌, Bool, true, cond, ◌&&◌, List, [], ◌∷◌, ◌++◌, length, Some, None, Ok, Err, Option, Result, ◌==◌, nat_le, slice_index}
use Rattle.calendar.specs.declared.time_fault.TimeFault.{TimeFault}
use Rattle.calendar.specs.declared.time_fault.TimeFault.TheVariants.{NotDigits, NoSuchTime}
use Rattle.calendar.specs.Moment.{Moment, moment, exists, existing}

-- '0' is 48 and '9' is 57
abbrev pub two_digits : ℕ → List ℕ
two_digits n = (48 + n / 10) ∷ (48 + n % 10) ∷ []

unfoldable pub digits_of : Moment → List ℕ
digits_of m =
    two_digits m.year
    ++ (two_digits m.month
    ++ (two_digits m.day ++ (two_digits m.hour ++ (two_digits m.minute ++ two_digits m.second))))

abbrev pub is_digit : ℕ → Bool
is_digit c = nat_le 48 c && nat_le c 57

abbrev pub all_digits : List ℕ → Bool
all_digits [] = true
all_digits (c ∷ cs) = is_digit c && all_digits cs

abbrev pub twelve_digits : List ℕ → Bool
twelve_digits cs = length cs == 12 && all_digits cs

-- the number that the two digits at k and k + 1 write
abbrev pub number_at : List ℕ → ℕ → ℕ
number_at cs k = (slice_index cs k - 48) * 10 + (slice_index cs (k + 1) - 48)

-- the number that two digits write
unfoldable pub number_of : ℕ → ℕ → Result ℕ TimeFault
number_of tens ones = cond (is_digit tens && is_digit ones) (Ok ((tens - 48) * 10 + (ones - 48))) (Err NotDigits)

-- the moment that twelve digits write
abbrev pub moment_at : List ℕ → Moment
moment_at cs = moment (number_at cs 0) (number_at cs 2) (number_at cs 4) (number_at cs 6) (number_at cs 8) (number_at cs 10)

-- a time, or that there is no such time
abbrev pub found : Option Moment → Result Moment TimeFault
found (Some m) = Ok m
found None = Err NoSuchTime

-- what octets are read as
unfoldable pub read_of : List ℕ → Result Moment TimeFault
read_of cs = cond (twelve_digits cs) (found (existing (moment_at cs))) (Err NotDigits)

-- reading what was written gives the same time
abbrev pub ReadsWhatWasWritten : Type 0
ReadsWhatWasWritten = (m : Moment) → exists m ≡ true → read_of (digits_of m) ≡ Ok m
