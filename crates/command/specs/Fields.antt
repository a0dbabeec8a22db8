-- The fields of a bulk write that are numbers, and the clock. A field that holds F everywhere leaves what it stands for as it is.
use Rattle.std.specs.Prelude.{ℕ, ◌+◌, ◌-◌, ◌*◌, Bool, cond, List, [], ◌∷◌, Some, None, Ok, Err, Option, Result, ◌==◌}
use Rattle.std.specs.List.{between, list_all}
use Rattle.calendar.specs.declared.date_time.DateTime.{DateTime}
use Rattle.calendar.specs.declared.time_fault.TimeFault.{TimeFault}
use Rattle.calendar.specs.declared.time_fault.TimeFault.TheVariants.{NotDigits, NoSuchTime as no_such_time}
use Rattle.calendar.specs.Moment.{Moment, moment_of}
use Rattle.calendar.specs.Digits.{read_of}
use Rattle.frame.specs.Digits.{value_of}
use Rattle.command.specs.declared.fault.Fault.{Fault}
use Rattle.command.specs.declared.fault.Fault.TheVariants.{WrongOctets, WrongValue, NoSuchTime}
use Rattle.command.specs.declared.setting.Setting.{Setting}
use Rattle.command.specs.Table.{allows}

-- the octets of a field: the data begin at position 8
abbrev pub field_at : ℕ → ℕ → List ℕ → List ℕ
field_at position width content = between (position - 8) (position - 8 + width) content

-- whether a field holds F everywhere
abbrev pub all_f : List ℕ → Bool
all_f xs = list_all (λ b. b == 70) xs

abbrev pub with_digit : Option ℕ → (ℕ → Option ℕ) → Option ℕ
with_digit (Some d) f = f d
with_digit None f = None

-- the number that hexadecimal digits write behind those of n, if all are digits
abbrev pub hex_number : ℕ → List ℕ → Option ℕ
hex_number n [] = Some n
hex_number n (b ∷ bs) = with_digit (value_of b) (λ d. hex_number (n * 16 + d) bs)

-- what a number sets: it has to be one, and an allowed one
abbrev pub value_asked : Setting → Option ℕ → Result (Option ℕ) Fault
value_asked s (Some n) = cond (allows s.allowed n) (Ok (Some n)) (Err (WrongValue s.position))
value_asked s None = Err (WrongOctets s.position)

abbrev pub number_asked : Setting → List ℕ → Result (Option ℕ) Fault
number_asked s xs = cond (all_f xs) (Ok None) (value_asked s (hex_number 0 xs))

abbrev pub number_field : List ℕ → Setting → Result (Option ℕ) Fault
number_field content s = number_asked s (field_at s.position s.width content)

-- the clock without what its type says of it
abbrev pub clock_view : Option DateTime → Option Moment
clock_view (Some t) = Some (moment_of t)
clock_view None = None

-- the fault of a clock that is not read as a time
abbrev pub clock_fault : TimeFault → Fault
clock_fault NotDigits = WrongOctets 8
clock_fault no_such_time = NoSuchTime

abbrev pub clock_asked : Result Moment TimeFault → Result (Option Moment) Fault
clock_asked (Ok m) = Ok (Some m)
clock_asked (Err e) = Err (clock_fault e)

-- the time that the clock is set to, if any
abbrev pub clock_field : List ℕ → Result (Option Moment) Fault
clock_field xs = cond (all_f xs) (Ok None) (clock_asked (read_of xs))
