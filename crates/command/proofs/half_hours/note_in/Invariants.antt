use Rattle.std.proofs.Common.{◌≡◌, ◌++◌, map, take, drop}
use Rattle.command.specs.Slots.{noted}
use Rattle.command.proofs.half_hours.note_in.Given as goal

abbrev pub invariant-loop-slot : goal.invariant-loop-slot
invariant-loop-slot l = l.slots ≡ map (noted l.held) (take l.slot-index l.initial.slots) ++ drop l.slot-index l.initial.slots
