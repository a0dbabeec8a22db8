use Rattle.std.proofs.Common.{◌≡◌, ◌+◌, ◌*◌, ◌++◌, take}
use Rattle.std.specs.List.{flat_map}
use Rattle.arrayvec.specs.ArrayVec.{array_vec_len}
use Rattle.command.specs.Gathered.{gathered}
use Rattle.command.specs.Slots.{slot_octets}
use Rattle.command.proofs.half_hours.push_slots.Given as goal

abbrev pub invariant-loop-slot : goal.invariant-loop-slot
invariant-loop-slot l =
    (gathered l.content ≡ gathered l.initial.content ++ flat_map slot_octets (take l.slot-index l.slots))
    × (array_vec_len l.content ≡ array_vec_len l.initial.content + 4 * l.slot-index)
