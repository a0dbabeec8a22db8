use Rattle.std.proofs.Common.{◌≡◌, ℕ, List, [], ◌++◌, map, ap, ◌∙◌}
use Rattle.std.specs.List.{range_with_len, flat_map}
use Rattle.book.specs.Lent.{held_in}
use Rattle.calendar.specs.Moment.{Moment, moment_of}
use Rattle.command.specs.declared.half_hour.HalfHour.{HalfHour}
use Rattle.command.specs.declared.half_hours.Slot.{Slot}
use Rattle.command.specs.HalfHours.{half_hours_shown}
use Rattle.command.specs.Slots.{slot_view, slot_on, slots_after, slot_octets}
use Rattle.command.proofs.Slotting.{slots_show}
use Rattle.command.proofs.half_hours.show_half_hours.Goals as goal

-- the time as received, and behind it the slots
shown : (received none head all : List ℕ) (m : Moment) (rs : List HalfHour) (first ss : List Slot)
    → none ≡ [] → head ≡ none ++ received → all ≡ head ++ flat_map slot_octets ss → ss ≡ slots_after first rs → map slot_view first ≡ map (slot_on m) (range_with_len 0 24)
    → all ≡ half_hours_shown received m rs
shown received none head all m rs first ss p q r s t =
    r ∙ ap (λ (xs : List ℕ). xs ++ flat_map slot_octets ss) (q ∙ ap (λ (xs : List ℕ). xs ++ received) p)
    ∙ ap (λ (xs : List ℕ). received ++ xs) (ap (flat_map slot_octets) s ∙ slots_show m rs (range_with_len 0 24) first t)

pub returns : goal.returns
returns c =
    shown c.args.received.now _ _ _ (moment_of c.args.start) (held_in c.args.records.now) c.slots_from-slots.result c.note_held.new.slots
    c.new-content.ensures c.push_octets.ensures c.push_slots.ensures c.note_held.ensures c.slots_from-slots.ensures
