use Rattle.std.proofs.Common.{◌≡◌, ℕ, ◌+◌, ◌<◌, List, ◌++◌, length, get_or, take, sym, ap, ◌∙◌, arith}
use Rattle.std.specs.List.{flat_map}
use Rattle.std.proofs.lemmas.Grind.{common_steps}
use Rattle.std.proofs.lemmas.List.{flat_map_more, take_more, take_all}
use Rattle.command.specs.declared.half_hours.Slot.{Slot}
use Rattle.command.specs.Gathered.{gathered}
use Rattle.command.specs.Slots.{slot_octets}
use Rattle.command.proofs.half_hours.push_slots.Goals as goal

-- one slot more
more : (xs : List Slot) (i : ℕ) (x : Slot) (start old new : List ℕ) → i < length xs → x ≡ get_or xs i x → old ≡ start ++ flat_map slot_octets (take i xs) → new ≡ old ++ slot_octets (get_or xs i x) → new ≡ start ++ flat_map slot_octets (take (i + 1) xs)
more xs i x start old new h at inv e =
    e ∙ ap (λ (t : List ℕ). t ++ slot_octets (get_or xs i x)) inv
    ∙ flat_map_more slot_octets start (take i xs) (get_or xs i x)
    ∙ ap (λ (t : List Slot). start ++ flat_map slot_octets t) (sym (take_more xs i x h))

pub loop-slot-preserved : goal.loop-slot-preserved
loop-slot-preserved c = (
  more c.args.slots.now c.loop-slot.slot-index c.slot-item.result _ _ _ (omega arith) c.slot-item.is c.loop-slot.invariant.0 (c.push_octets.ensures ∙ ap (λ (t : List ℕ). gathered c.loop-slot.content ++ t) c.point_octets.ensures),
  grind (arith, common_steps),
)

pub returns : goal.returns
returns c =
    c.loop-slot.invariant.0
    ∙ ap (λ (t : List Slot). gathered c.args.content.now ++ flat_map slot_octets t) (take_all c.loop-slot.slot-index c.args.slots.now (omega arith))
