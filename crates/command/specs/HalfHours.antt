-- What reading half hours asks for and shows.
use Rattle.std.specs.Prelude.{ℕ, Bool, cond, ◌&&◌, List, [], ◌∷◌, ◌++◌, length, Some, None, Ok, Err, Option, Result, ◌==◌, slice_index}
use Rattle.std.specs.List.{range_with_len, flat_map}
use Rattle.calendar.specs.declared.time_fault.TimeFault.{TimeFault}
use Rattle.calendar.specs.declared.time_fault.TimeFault.TheVariants.{NotDigits, NoSuchTime as no_such_time}
use Rattle.calendar.specs.Moment.{Moment, moment_of, same_moment}
use Rattle.calendar.specs.Digits.{read_of}
use Rattle.calendar.specs.HalfHours.{half_hours_on}
use Rattle.command.specs.declared.fault.Fault.{Fault}
use Rattle.command.specs.declared.fault.Fault.TheVariants.{WrongLength, WrongOctets, WrongValue, NoSuchTime}
use Rattle.command.specs.declared.half_hour.HalfHour.{HalfHour}
use Rattle.command.specs.Points.{octets_of}
use Rattle.command.specs.Questions.{then}

-- the minutes and seconds of YYMMDDhhmmss are zero; '0' is 48
abbrev pub on_the_hour : List ℕ → Bool
on_the_hour xs = slice_index xs 8 == 48 && (slice_index xs 9 == 48 && (slice_index xs 10 == 48 && slice_index xs 11 == 48))

-- twelve digits are asked for first, then minutes and seconds of zero, then that there is such a time
abbrev pub hour_fault : Bool → TimeFault → Fault
hour_fault whole NotDigits = WrongOctets 8
hour_fault whole no_such_time = cond whole NoSuchTime (WrongValue 16)

abbrev pub hour_of : Bool → Result Moment TimeFault → Result Moment Fault
hour_of whole (Ok m) = cond whole (Ok m) (Err (WrongValue 16))
hour_of whole (Err f) = Err (hour_fault whole f)

-- the time from which half hours are asked for: the data are YYMMDDhh0000
abbrev pub half_hours_asked : List ℕ → Result Moment Fault
half_hours_asked xs = cond (length xs == 12) (hour_of (on_the_hour xs) (read_of xs)) (Err WrongLength)

-- the demand known of a half hour after one more record: that of the record, if it is of this half hour
abbrev pub demand_with : Moment → Option ℕ → HalfHour → Option ℕ
demand_with m d r = cond (same_moment m (moment_of r.start)) (Some r.demand) d

-- the demand of the last record that starts at a moment; d, where there is none
abbrev pub newest_demand_or : Moment → Option ℕ → List HalfHour → Option ℕ
newest_demand_or m d [] = d
newest_demand_or m d (r ∷ rs) = newest_demand_or m (demand_with m d r) rs

-- the demand of the last record that starts at a moment, of records oldest first
abbrev pub newest_demand : Moment → List HalfHour → Option ℕ
newest_demand m rs = newest_demand_or m None rs

-- a half hour after 2099 is missing
abbrev pub demand_of : Option Moment → List HalfHour → Option ℕ
demand_of (Some m) rs = newest_demand m rs
demand_of None rs = None

-- the n-th half hour from a moment on, of records oldest first: its demand as a point
abbrev pub half_hour_octets : Moment → List HalfHour → ℕ → List ℕ
half_hour_octets start rs n = octets_of (demand_of (half_hours_on n start) rs)

-- the answer: the time as received, and 24 successive half hours from it on
abbrev pub half_hours_shown : List ℕ → Moment → List HalfHour → List ℕ
half_hours_shown xs start rs = xs ++ flat_map (half_hour_octets start rs) (range_with_len 0 24)

-- the half hours that the data ask for, of those that a share holds, oldest first
abbrev pub half_hours_reading : List ℕ → List HalfHour → Result (List ℕ) Fault
half_hours_reading xs held = then (half_hours_asked xs) (λ start. Ok (half_hours_shown xs start held))
