use Rattle.std.proofs.Common.{◌≡◌, map, take}
use Rattle.std.specs.List.{range_with_len}
use Rattle.std.specs.Option.{option_map}
use Rattle.calendar.specs.Moment.{Moment, moment_of}
use Rattle.calendar.specs.HalfHours.{half_hours_on}
use Rattle.command.specs.Slots.{slot_view, slot_on}
use Rattle.command.proofs.half_hours.slots_from.Given as goal

abbrev pub invariant-loop-slot : goal.invariant-loop-slot
invariant-loop-slot l =
    (m : Moment)
    → option_map moment_of l.initial.next ≡ half_hours_on 0 m
    → (option_map moment_of l.next ≡ half_hours_on l.slot-index m)
    × (map slot_view (take l.slot-index l.slot-items) ≡ map (slot_on m) (range_with_len 0 l.slot-index))
