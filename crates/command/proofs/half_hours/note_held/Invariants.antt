use Rattle.std.proofs.Common.{◌≡◌}
use Rattle.book.specs.Lent.{left_in}
use Rattle.command.specs.Slots.{slots_after}
use Rattle.command.proofs.half_hours.note_held.Given as goal

-- what is left to note gives what all records give
abbrev pub invariant-loop-held : goal.invariant-loop-held
invariant-loop-held l = slots_after l.slots (left_in l.held-iterator) ≡ slots_after l.initial.slots (left_in l.initial.held-iterator)
