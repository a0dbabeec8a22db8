-- The half hours of an answer while the records are walked.
use Rattle.std.specs.Prelude.{ℕ, List, [], ◌∷◌, map, Some, None, Option}
use Rattle.std.specs.Option.{option_map}
use Rattle.calendar.specs.Moment.{Moment, moment_of}
use Rattle.calendar.specs.HalfHours.{half_hours_on}
use Rattle.command.specs.declared.half_hour.HalfHour.{HalfHour}
use Rattle.command.specs.declared.half_hours.Slot.{Slot}
use Rattle.command.specs.HalfHours.{demand_with}
use Rattle.command.specs.Points.{octets_of}

-- a slot as plain values: when its half hour begins, and the demand known so far
pub record SlotView : Type 0 where
  pub start : Option Moment
  pub demand : Option ℕ

abbrev pub slot_view : Slot → SlotView
slot_view s = record { start = option_map moment_of s.start; demand = s.demand }

-- the slot of the n-th half hour from a moment on, before any record
abbrev pub slot_on : Moment → ℕ → SlotView
slot_on m n = record { start = half_hours_on n m; demand = None }

-- the demand known of a slot after one more record
abbrev pub slot_demand : Option Moment → Option ℕ → HalfHour → Option ℕ
slot_demand (Some m) d r = demand_with m d r
slot_demand None d r = d

abbrev pub noted : HalfHour → Slot → Slot
noted r s = record { start = s.start; demand = slot_demand (option_map moment_of s.start) s.demand r }

-- slots after records, one after another
abbrev pub slots_after : List Slot → List HalfHour → List Slot
slots_after ss [] = ss
slots_after ss (r ∷ rs) = slots_after (map (noted r) ss) rs

abbrev pub slot_octets : Slot → List ℕ
slot_octets s = octets_of s.demand
