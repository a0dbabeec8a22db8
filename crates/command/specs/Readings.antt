-- What the reading commands ask for and what a page shows.
use Rattle.std.specs.Prelude.{ℕ, ◌+◌, ◌-◌, Bool, cond, ◌||◌, List, [], ◌∷◌, ◌++◌, map, length, Ok, Err, Result, ◌==◌, nat_lt, Some, None, slice_index}
use Rattle.std.specs.List.{between}
use Rattle.book.specs.Ranked.{ranked}
use Rattle.command.specs.declared.fault.Fault.{Fault}
use Rattle.command.specs.declared.fault.Fault.TheVariants.{WrongPoints, NotYetBuilt}
use Rattle.command.specs.declared.known.Command.{Command}
use Rattle.command.specs.declared.known.Command.TheVariants.{ReadLimits, ReadTimers, ReadPresent, ReadEvents, ReadContract, Reset, ReadHalfHours, WriteSettings}
use Rattle.command.specs.declared.points.Chosen.{Chosen}
use Rattle.command.specs.Table.{contract_octet}
use Rattle.command.specs.Points.{Point, octets_of}
use Rattle.command.specs.Questions.{then, start_count_of}
use Rattle.command.specs.Resets.{reset_of}
use Rattle.command.specs.Stations.{Holding}
use Rattle.command.specs.History.{history_reading}
use Rattle.command.specs.HalfHours.{half_hours_reading}

-- count points from start on, of so many that are listed: points count from 1; none, or one not listed, is a fault
abbrev pub picked : ℕ → ℕ → ℕ → Result Chosen Fault
picked start count listed =
    cond (start == 0 || (count == 0 || nat_lt listed (start - 1 + count))) (Err WrongPoints)
    (Ok (record { first = start - 1; count = count }))

-- the points that the data of a reading ask for
abbrev pub chosen_of : List ℕ → ℕ → Result Chosen Fault
chosen_of xs listed = then (start_count_of xs) (λ x. picked x.start x.count listed)

abbrev pub all_octets : List Point → List ℕ
all_octets [] = []
all_octets (p ∷ ps) = octets_of p ++ all_octets ps

-- cells of a page: of the demand mode's two settings for a limit, the first is for two stages, the other for three
abbrev pub two_stages : List ℕ → Bool
two_stages page = slice_index page 2 == 1

abbrev pub caution : List ℕ → ℕ
caution page = cond (two_stages page) (slice_index page 19) (slice_index page 22)

abbrev pub limit : List ℕ → ℕ
limit page = cond (two_stages page) (slice_index page 20) (slice_index page 24)

abbrev pub mask : List ℕ → ℕ
mask page = cond (two_stages page) (slice_index page 21) (slice_index page 25)

-- 0C: CT ratio, caution, limit, mask, meter day, 0, sync type, maximum reset
abbrev pub limits : List ℕ → List Point
limits page =
    Some (slice_index page 14) ∷ Some (caution page) ∷ Some (limit page) ∷ Some (mask page)
    ∷ Some (slice_index page 17) ∷ Some 0 ∷ Some (slice_index page 1) ∷ Some (slice_index page 3) ∷ []

-- 0F: ON hold, OFF hold, no-pulse wait, combined ratio, and six points of spaces
abbrev pub timers : List ℕ → List Point
timers page =
    Some (slice_index page 26) ∷ Some (slice_index page 27) ∷ Some (slice_index page 18) ∷ Some (slice_index page 15)
    ∷ None ∷ None ∷ None ∷ None ∷ None ∷ None ∷ []

-- a character of the contract number as it is sent: another one is sent as a space
abbrev pub sent_octet : ℕ → ℕ
sent_octet v = cond (contract_octet v) v 32

-- 19: the contract number, cells 4 to 13
abbrev pub contract : List ℕ → List ℕ
contract page = map sent_octet (between 4 14 page)

abbrev pub points_shown : List Point → Chosen → Result (List ℕ) Fault
points_shown ps x = Ok (all_octets (between x.first (x.first + x.count) ps))

-- the points that a reading asks for, of a list
abbrev pub reading : List ℕ → List Point → Result (List ℕ) Fault
reading content ps = then (chosen_of content (length ps)) (points_shown ps)

-- the contract number is the one point of its list
abbrev pub contract_reading : List ℕ → List ℕ → Result (List ℕ) Fault
contract_reading content page = then (chosen_of content 1) (λ x. Ok (contract page))

-- what this box does not carry out yet: every request is answered abnormally
abbrev pub not_yet_built : Result (List ℕ) Fault
not_yet_built = Err NotYetBuilt

-- 16: demand, predicted power, and the limit of 0C
abbrev pub present : ℕ → ℕ → List ℕ → List Point
present demand predicted page = Some demand ∷ Some predicted ∷ Some (limit page) ∷ []

-- the data of the answer to a command with its data, by what the station holds
abbrev pub content_for : Command → List ℕ → Holding → Result (List ℕ) Fault
content_for ReadLimits content h = reading content (limits h.page)
content_for ReadTimers content h = reading content (timers h.page)
content_for ReadPresent content h = reading content (present h.station.demand h.station.predicted h.page)
content_for ReadEvents content h = history_reading content (ranked h.station.events h.events)
content_for ReadContract content h = contract_reading content h.page
content_for Reset content h = then (reset_of content) (λ r. Ok [])
content_for ReadHalfHours content h = half_hours_reading content (ranked h.station.half_hours h.half_hours)
content_for WriteSettings content h = not_yet_built
