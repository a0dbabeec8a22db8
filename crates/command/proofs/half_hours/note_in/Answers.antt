use Rattle.std.proofs.Common.{◌≡◌, ℕ, ◌+◌, ◌<◌, ◌≤◌, List, ◌++◌, map, length, get_or, take, drop, set, sym, ap, ◌∙◌, arith}
use Rattle.std.proofs.lemmas.List.Edits.{map_over_more}
use Rattle.std.proofs.lemmas.List.{take_all, drop_all, append-nil}
use Rattle.command.specs.declared.half_hours.Slot.{Slot}
use Rattle.command.specs.Slots.{noted}
use Rattle.command.proofs.half_hours.note_in.Goals as goal

-- one slot more
more : (f : Slot → Slot) (xs ys : List Slot) (i : ℕ) (x y : Slot) → i < length xs → ys ≡ map f (take i xs) ++ drop i xs → x ≡ get_or ys i x → y ≡ f (get_or ys i x) → set ys i y ≡ map f (take (i + 1) xs) ++ drop (i + 1) xs
more f xs ys i x y h inv at e = ap (set ys i) (e ∙ ap f (sym at)) ∙ map_over_more f xs ys i x h inv at

all : (f : Slot → Slot) (xs ys : List Slot) (i : ℕ) → length xs ≤ i → ys ≡ map f (take i xs) ++ drop i xs → ys ≡ map f xs
all f xs ys i h inv =
    inv ∙ ap (λ (t : List Slot). map f t ++ drop i xs) (take_all i xs h) ∙ ap (λ (t : List Slot). map f xs ++ t) (drop_all i xs h) ∙ append-nil (map f xs)

pub loop-slot-preserved : goal.loop-slot-preserved
loop-slot-preserved c =
    more (noted c.args.held) c.args.slots.now c.loop-slot.slots c.loop-slot.slot-index c.slot-item.result _ (omega arith) c.loop-slot.invariant c.slot-item.is c.note.ensures

pub returns : goal.returns
returns c = all (noted c.args.held) c.args.slots.now c.loop-slot.slots c.loop-slot.slot-index (omega arith) c.loop-slot.invariant
