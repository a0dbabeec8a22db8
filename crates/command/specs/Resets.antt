-- What command 54 asks for, and what it leaves.
use Rattle.std.specs.Prelude.{ℕ, ◌/◌, ◌%◌, cond, ◌||◌, List, length, Ok, Err, Result, ◌==◌, nat_le, nat_lt, slice_index}
use Rattle.book.specs.Ranked.{empty}
use Rattle.memory.specs.Model.{restored}
use Rattle.command.specs.declared.fault.Fault.{Fault}
use Rattle.command.specs.declared.fault.Fault.TheVariants.{WrongLength, WrongValue, WrongPoints}
use Rattle.command.specs.declared.reset.Reset.{Reset}
use Rattle.command.specs.Questions.{then, number_at}
use Rattle.command.specs.Stations.{StationView, Holding, holding}
use Rattle.command.specs.Table.{initial_page}

-- the first of the four digits is the sum of 8 (settings), 2 (events) and 1 (half hours); the others are 0
abbrev pub effects : ℕ → Reset
effects digit = record { settings = nat_le 8 digit; events = nat_le 2 (digit % 4); half_hours = (digit % 2 == 1) }

abbrev pub effects_of : ℕ → ℕ → Result Reset Fault
effects_of high low =
    cond (nat_lt 0 low || (nat_lt 0 (high % 16) || nat_lt 3 (high / 16 % 8))) (Err (WrongValue 10)) (Ok (effects (high / 16)))

-- the point is 01
abbrev pub pointed : ℕ → Reset → Result Reset Fault
pointed point r = cond (point == 1) (Ok r) (Err WrongPoints)

-- the data: a point of two digits at 8, and four digits at 10; the point is asked last
abbrev pub reset_of : List ℕ → Result Reset Fault
reset_of xs =
    cond (length xs == 6)
    (then (number_at 8 (slice_index xs 0) (slice_index xs 1)) (λ point.
    then (number_at 10 (slice_index xs 2) (slice_index xs 3)) (λ high.
    then (number_at 10 (slice_index xs 4) (slice_index xs 5)) (λ low.
    then (effects_of high low) (pointed point)))))
    (Err WrongLength)

-- the station afterwards: events emptied, half hours emptied and present values 0, as asked; number and clock stay
abbrev pub station_after : Reset → StationView → StationView
station_after r s = record {
  number = s.number;
  clock = s.clock;
  demand = cond r.half_hours 0 s.demand;
  predicted = cond r.half_hours 0 s.predicted;
  events = cond r.events (empty s.events.capacity) s.events;
  half_hours = cond r.half_hours (empty s.half_hours.capacity) s.half_hours;
}

-- the page afterwards: as at first, if asked
abbrev pub page_after : Reset → List ℕ → List ℕ
page_after r page = cond r.settings initial_page page

-- the memory afterwards
abbrev pub pages_after : Reset → List (List ℕ) → ℕ → List (List ℕ)
pages_after r pages k = cond r.settings (restored pages k initial_page) pages

-- all that the station holds, afterwards: records stay in their places
abbrev pub held_after : Result Reset Fault → Holding → Holding
held_after (Ok r) h = holding (station_after r h.station) (page_after r h.page) h.events h.half_hours
held_after (Err f) h = h

-- the station and the memory after a request that may be at fault
abbrev pub station_reset : Result Reset Fault → StationView → StationView
station_reset (Ok r) s = station_after r s
station_reset (Err f) s = s

abbrev pub pages_reset : Result Reset Fault → List (List ℕ) → ℕ → List (List ℕ)
pages_reset (Ok r) pages k = pages_after r pages k
pages_reset (Err f) pages k = pages
