-- How the fields of a command are asked, one after another.
use Rattle.std.specs.Prelude.{ℕ, cond, List, length, Some, None, Ok, Err, Option, Result, ◌==◌, slice_index}
use Rattle.frame.specs.Digits.{octet_of}
use Rattle.command.specs.declared.fault.Fault.{Fault}
use Rattle.command.specs.declared.fault.Fault.TheVariants.{WrongLength, WrongOctets}
use Rattle.command.specs.declared.field.StartCount.{StartCount}

-- what follows where all is well so far; a fault is passed on
abbrev pub then : {X Y : Type 0} → Result X Fault → (X → Result Y Fault) → Result Y Fault
then (Ok x) f = f x
then (Err e) f = Err e

-- the number of two digits in the field at a position
abbrev pub number_or : ℕ → Option ℕ → Result ℕ Fault
number_or p (Some n) = Ok n
number_or p None = Err (WrongOctets p)

abbrev pub number_at : ℕ → ℕ → ℕ → Result ℕ Fault
number_at p high low = number_or p (octet_of high low)

-- the data of a reading: a start point and a count, two digits each
abbrev pub start_count_of : List ℕ → Result StartCount Fault
start_count_of xs =
    cond (length xs == 4)
    (then (number_at 8 (slice_index xs 0) (slice_index xs 1)) (λ start.
    then (number_at 10 (slice_index xs 2) (slice_index xs 3)) (λ count. Ok (record { start = start; count = count }))))
    (Err WrongLength)
