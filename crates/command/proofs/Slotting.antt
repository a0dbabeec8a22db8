-- The half hours of an answer, record by record.
use Rattle.std.proofs.Common.{◌≡◌, ℕ, List, [], ◌∷◌, ◌++◌, map, Some, None, Option, sym, refl, ap, ◌∙◌}
use Rattle.std.specs.Option.{option_map}
use Rattle.std.specs.List.{flat_map}
use Rattle.calendar.specs.Moment.{Moment, moment_of}
use Rattle.calendar.specs.HalfHours.{half_hours_on}
use Rattle.command.specs.declared.half_hour.HalfHour.{HalfHour}
use Rattle.command.specs.declared.half_hours.Slot.{Slot}
use Rattle.command.specs.HalfHours.{newest_demand_or, demand_of, half_hour_octets}
use Rattle.command.specs.Points.{octets_of}
use Rattle.command.specs.Slots.{SlotView, slot_view, slot_on, slot_demand, noted, slots_after, slot_octets}

-- the demand known of a slot after records
abbrev slot_demand_after : Option Moment → Option ℕ → List HalfHour → Option ℕ
slot_demand_after (Some m) d rs = newest_demand_or m d rs
slot_demand_after None d rs = d

one_on : (o : Option Moment) (d : Option ℕ) (r : HalfHour) (rs : List HalfHour) → slot_demand_after o (slot_demand o d r) rs ≡ slot_demand_after o d (r ∷ rs)
one_on (Some m) d r rs = refl
one_on None d r rs = refl

abbrev view_octets : List HalfHour → SlotView → List ℕ
view_octets rs v = octets_of (slot_demand_after v.start v.demand rs)

none_on : (o : Option Moment) (d : Option ℕ) → slot_demand_after o d [] ≡ d
none_on (Some m) d = refl
none_on None d = refl

joined_none : (ss : List Slot) → flat_map slot_octets ss ≡ flat_map (view_octets []) (map slot_view ss)
joined_none [] = refl
joined_none (s ∷ ss) =
    ap (λ (d : Option ℕ). octets_of d ++ flat_map slot_octets ss) (sym (none_on (option_map moment_of s.start) s.demand))
    ∙ ap (λ (t : List ℕ). view_octets [] (slot_view s) ++ t) (joined_none ss)

joined_one : (r : HalfHour) (rs : List HalfHour) (ss : List Slot) → flat_map (view_octets rs) (map slot_view (map (noted r) ss)) ≡ flat_map (view_octets (r ∷ rs)) (map slot_view ss)
joined_one r rs [] = refl
joined_one r rs (s ∷ ss) =
    ap (λ (d : Option ℕ). octets_of d ++ flat_map (view_octets rs) (map slot_view (map (noted r) ss))) (one_on (option_map moment_of s.start) s.demand r rs)
    ∙ ap (λ (t : List ℕ). view_octets (r ∷ rs) (slot_view s) ++ t) (joined_one r rs ss)

-- what slots show after records, by what they were before
joined_after : (rs : List HalfHour) (ss : List Slot) → flat_map slot_octets (slots_after ss rs) ≡ flat_map (view_octets rs) (map slot_view ss)
joined_after [] ss = joined_none ss
joined_after (r ∷ rs) ss = joined_after rs (map (noted r) ss) ∙ joined_one r rs ss

slot_demand_on : (o : Option Moment) (rs : List HalfHour) → slot_demand_after o None rs ≡ demand_of o rs
slot_demand_on (Some m) rs = refl
slot_demand_on None rs = refl

joined_on : (m : Moment) (rs : List HalfHour) (ns : List ℕ) → flat_map (view_octets rs) (map (slot_on m) ns) ≡ flat_map (half_hour_octets m rs) ns
joined_on m rs [] = refl
joined_on m rs (n ∷ ns) =
    ap (λ (d : Option ℕ). octets_of d ++ flat_map (view_octets rs) (map (slot_on m) ns)) (slot_demand_on (half_hours_on n m) rs)
    ∙ ap (λ (t : List ℕ). half_hour_octets m rs n ++ t) (joined_on m rs ns)

-- slots made for half hours show, after records, the newest demand of each
pub slots_show : (m : Moment) (rs : List HalfHour) (ns : List ℕ) (ss : List Slot) → map slot_view ss ≡ map (slot_on m) ns → flat_map slot_octets (slots_after ss rs) ≡ flat_map (half_hour_octets m rs) ns
slots_show m rs ns ss e = joined_after rs ss ∙ ap (flat_map (view_octets rs)) e ∙ joined_on m rs ns
