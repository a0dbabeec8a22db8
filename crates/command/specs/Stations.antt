-- A station as plain values, without what their types say of them.
use Rattle.std.specs.Prelude.{ℕ, min, List}
use Rattle.book.specs.Ranked.{RingView, view_of}
use Rattle.calendar.specs.Moment.{Moment, moment_of, first}
use Rattle.calendar.specs.Carry.{second_on}
use Rattle.command.specs.declared.event.Event.{Event}
use Rattle.command.specs.declared.event_kind.EventKind.{EventKind}
use Rattle.command.specs.declared.half_hour.HalfHour.{HalfHour}
use Rattle.command.specs.declared.station.Station.{Station}
use Rattle.command.specs.Records.{EventView}

pub record StationView : Type 0 where
  pub number : ℕ
  pub clock : Moment
  pub demand : ℕ
  pub predicted : ℕ
  pub events : RingView
  pub half_hours : RingView

abbrev pub station_view : Station → StationView
station_view s = record {
  number = s.number.value;
  clock = moment_of s.clock;
  demand = s.demand;
  predicted = s.predicted;
  events = view_of s.events;
  half_hours = view_of s.half_hours;
}

-- a station as it is enrolled, with its rings
abbrev pub as_enrolled : ℕ → RingView → RingView → StationView
as_enrolled n events half_hours = record {
  number = n;
  clock = first;
  demand = 0;
  predicted = 0;
  events = events;
  half_hours = half_hours;
}

abbrev pub with_time : Moment → StationView → StationView
with_time m s = record {
  number = s.number;
  clock = m;
  demand = s.demand;
  predicted = s.predicted;
  events = s.events;
  half_hours = s.half_hours;
}

abbrev pub with_present : ℕ → ℕ → StationView → StationView
with_present d p s = record {
  number = s.number;
  clock = s.clock;
  demand = d;
  predicted = p;
  events = s.events;
  half_hours = s.half_hours;
}

abbrev pub with_events : RingView → StationView → StationView
with_events g s = record {
  number = s.number;
  clock = s.clock;
  demand = s.demand;
  predicted = s.predicted;
  events = g;
  half_hours = s.half_hours;
}

-- a power is kept as at most 9,999 kW
abbrev pub kept : ℕ → ℕ
kept n = min n 9999

-- present values as they are measured
abbrev pub measured : ℕ → ℕ → StationView → StationView
measured d p s = with_present (kept d) (kept p) s

-- the clock one second on
abbrev pub ticked : StationView → StationView
ticked s = with_time (second_on s.clock) s

-- an event of a kind, with the station's clock and present values
abbrev pub event_now : EventKind → StationView → EventView
event_now kind s = record { time = s.clock; kind = kind; demand = s.demand; predicted = s.predicted }

-- all that a station holds: itself, its page, and the places of its two shares
pub record Holding : Type 0 where
  pub station : StationView
  pub page : List ℕ
  pub events : List Event
  pub half_hours : List HalfHour

abbrev pub holding : StationView → List ℕ → List Event → List HalfHour → Holding
holding s page events half_hours = record { station = s; page = page; events = events; half_hours = half_hours }
