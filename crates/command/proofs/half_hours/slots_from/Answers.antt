use Rattle.std.proofs.Common.{◌≡◌, ℕ, ◌+◌, ◌<◌, List, [], ◌∷◌, ◌++◌, map, length, take, set, Some, None, Option, sym, ap, ◌∙◌, add-one, arith}
use Rattle.std.specs.List.{range_with_len}
use Rattle.std.proofs.lemmas.List.{take_more_set, take_all, map_push}
use Rattle.std.proofs.lemmas.List.FromFn.{map-range_with_len_more}
use Rattle.calendar.specs.Moment.{Moment, moment_of}
use Rattle.calendar.specs.HalfHours.{then_next, half_hours_on}
use Rattle.command.specs.declared.half_hours.Slot.{Slot}
use Rattle.command.specs.Slots.{SlotView, slot_view, slot_on}
use Rattle.command.proofs.half_hours.slots_from.Goals as goal

-- one half hour more
next_on : (m : Moment) (i : ℕ) (o p : Option Moment) → o ≡ half_hours_on i m → p ≡ then_next o → p ≡ half_hours_on (i + 1) m
next_on m i o p inv e = e ∙ ap then_next inv ∙ ap (λ (n : ℕ). half_hours_on n m) (sym (add-one i))

slot_next : (m : Moment) (i : ℕ) (o : Option Moment) → o ≡ half_hours_on i m → ◌≡◌ {A = SlotView} (record { start = o; demand = None }) (slot_on m i)
slot_next m i o e = ap (λ (x : Option Moment). record { start = x; demand = None }) e

more : (m : Moment) (i : ℕ) (xs : List Slot) (s : Slot) → i < length xs → slot_view s ≡ slot_on m i → map slot_view (take i xs) ≡ map (slot_on m) (range_with_len 0 i) → map slot_view (take (i + 1) (set xs i s)) ≡ map (slot_on m) (range_with_len 0 (i + 1))
more m i xs s h e inv =
    ap (map slot_view) (take_more_set xs i s h) ∙ map_push slot_view (take i xs) s
    ∙ ap (λ (t : List SlotView). t ++ slot_view s ∷ []) inv ∙ ap (λ (v : SlotView). map (slot_on m) (range_with_len 0 i) ++ v ∷ []) e
    ∙ sym (map-range_with_len_more (slot_on m) 0 i i (omega arith))

all : (m : Moment) (i : ℕ) (xs : List Slot) → i ≡ 24 → length xs ≡ 24 → map slot_view (take i xs) ≡ map (slot_on m) (range_with_len 0 i) → map slot_view xs ≡ map (slot_on m) (range_with_len 0 24)
all m i xs e n inv =
    ap (map slot_view) (sym (take_all i xs (omega arith))) ∙ inv ∙ ap (λ (k : ℕ). map (slot_on m) (range_with_len 0 k)) e

pub loop-slot-preserved : goal.loop-slot-preserved
loop-slot-preserved c =
    λ m e.
    let inv = c.loop-slot.invariant m e in (
      next_on m c.loop-slot.slot-index _ _ inv.0 c.following-next.ensures,
      more m c.loop-slot.slot-index c.loop-slot.slot-items _ (omega arith) (slot_next m c.loop-slot.slot-index _ inv.0) inv.1,
    )

pub returns : goal.returns
returns c =
    let m = moment_of c.args.start in
    let first : ◌≡◌ {A = Option Moment} (Some (moment_of c.half_hour.result)) (half_hours_on 0 m) = ap Some c.half_hour.ensures.value in
    all m c.loop-slot.slot-index c.loop-slot.slot-items (omega arith) c.loop-slot-test.array_long (c.loop-slot.invariant m first).1
