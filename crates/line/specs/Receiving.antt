-- What receiving one signal tells, and how it leaves the line and the answer buffer.
use Rattle.std.specs.Prelude.{ℕ, ◌*◌, cond, ◌&&◌, List, [], ◌++◌, length, drop, Some, None, Ok, Err, Option, Result, ◌==◌, nat_lt, position, ok_or, slice_index_or, slice_set}
use Rattle.frame.specs.declared.fault.Fault.{Fault}
use Rattle.frame.specs.declared.fault.Fault.TheVariants.{UnknownStation}
use Rattle.frame.specs.declared.signal.Signal.{Signal}
use Rattle.frame.specs.declared.station_number.StationNumber.{StationNumber}
use Rattle.frame.specs.Reception.{Link, Told, step}
use Rattle.frame.specs.Requests.{Asked, opened}
use Rattle.frame.specs.Answers.{answer_of}
use Rattle.command.specs.declared.fault.Fault.{Fault as CommandFault}
use Rattle.command.specs.declared.respond.Reply.{Reply}
use Rattle.book.specs.Ranked.{share, empty}
use Rattle.command.specs.declared.event.Event.{Event}
use Rattle.command.specs.declared.half_hour.HalfHour.{HalfHour}
use Rattle.command.specs.Stations.{StationView, as_enrolled, Holding, holding}
use Rattle.command.specs.Replies.{Saying, said, fault_in, replied, left_of}
use Rattle.line.specs.declared.reception.Reception.{Reception}
use Rattle.line.specs.declared.reception.Reception.TheVariants.{Nothing, Dropped, Answered}
use Rattle.line.specs.declared.refusal.Refusal.{Refusal}
use Rattle.line.specs.declared.refusal.Refusal.TheVariants.{NotEnrolled, PagesMissing, WrongBookLength, ShortAnswerBuffer}
use Rattle.line.specs.declared.shares.Shares.{Shares}
use Rattle.line.specs.Lines.{LineView}
use Rattle.line.specs.Enrolling.{Verdict, unless, next, after}

-- 10: the line is enrolled
abbrev pub enrolled_asked : LineView → Verdict
enrolled_asked l = unless (length l.stations == 0) NotEnrolled

-- 11: the memory has a page for each station
abbrev pub pages_present_asked : LineView → ℕ → Verdict
pages_present_asked l pages = unless (nat_lt pages (length l.stations)) PagesMissing

-- 12: both books have their enrolled length
abbrev pub books_asked : LineView → ℕ → ℕ → Verdict
books_asked l events half_hours =
    cond (events == length l.stations * l.event_share && half_hours == length l.stations * l.half_hour_share)
    (Ok tt) (Err WrongBookLength)

-- 13: the answer buffer has at least 567 octets
abbrev pub room_asked : ℕ → Verdict
room_asked room = unless (nat_lt room 567) ShortAnswerBuffer

-- the questions of receiving, in their order
abbrev pub receiving_asked : LineView → ℕ → ℕ → ℕ → ℕ → Verdict
receiving_asked l pages events half_hours room =
    next (enrolled_asked l) (next (pages_present_asked l pages) (next (books_asked l events half_hours) (room_asked room)))

-- the first place of a station's number
abbrev pub place_in : ℕ → List StationView → Option ℕ
place_in n ss = position (λ s. s.number == n) ss

abbrev pub known : Option ℕ → Result ℕ Fault
known o = ok_or o UnknownStation

-- 25: the place of the station that an address names; an address that is no number names none
abbrev pub place_of : Option StationNumber → List StationView → Result ℕ Fault
place_of (Some n) ss = known (place_in n.value ss)
place_of None ss = Err UnknownStation

-- a station that is none, for places past the last
abbrev pub nobody : StationView
nobody = as_enrolled 0 (empty 1) (empty 1)

-- what is told of a frame, and how buffer, stations and memory are left
pub record Outcome : Type 0 where
  pub told : Result (Option Reply) Fault
  pub answer : List ℕ
  pub stations : List StationView
  pub pages : List (List ℕ)

abbrev pub outcome : Result (Option Reply) Fault → List ℕ → List StationView → List (List ℕ) → Outcome
outcome t buffer stations pages = record { told = t; answer = buffer; stations = stations; pages = pages }

-- the octets of an answer
abbrev pub octets_of : Asked → Saying → List ℕ
octets_of a s = answer_of a.address s.code s.content

-- an answer is told by its length and its fault
abbrev pub told_of : List ℕ → Result Saying CommandFault → Result (Option Reply) Fault
told_of octets r = Ok (Some (record { length = length octets; fault = fault_in r }))

-- it stands at the front of the buffer; all else of the buffer stays
abbrev pub fronted_by : List ℕ → List ℕ → List ℕ
fronted_by octets buffer = octets ++ drop (length octets) buffer

-- the stations of a line, and all that is lent to them: the memory's pages and both books, with the sizes of their shares
pub record Lent : Type 0 where
  pub stations : List StationView
  pub pages : List (List ℕ)
  pub events : List Event
  pub event_share : ℕ
  pub half_hours : List HalfHour
  pub half_hour_share : ℕ

-- what the station at place k holds: page k, and share k of each book
abbrev pub held_at : Lent → ℕ → Holding
held_at x k = holding (slice_index_or x.stations k nobody) (slice_index_or x.pages k []) (share x.event_share k x.events) (share x.half_hour_share k x.half_hours)

-- what a frame is answered by: a table of stations, a memory and the shares of both books
abbrev pub lent : List StationView → List (List ℕ) → Shares Event → Shares HalfHour → Lent
lent stations pages events half_hours = record {
  stations = stations;
  pages = pages;
  events = events.book.now;
  event_share = events.size;
  half_hours = half_hours.book.now;
  half_hour_share = half_hours.size;
}

-- nothing but a fault, or nothing at all, is told: all stays
abbrev pub silent : Result (Option Reply) Fault → Lent → List ℕ → Outcome
silent t x buffer = outcome t buffer x.stations x.pages

-- the station at place k answers by what it holds, and of that only its own is left otherwise
abbrev pub answered_at : Asked → Lent → List ℕ → ℕ → Outcome
answered_at a x buffer k =
    outcome (told_of (octets_of a (said (replied a (held_at x k)))) (replied a (held_at x k)))
    (fronted_by (octets_of a (said (replied a (held_at x k)))) buffer)
    (slice_set x.stations k (left_of a (held_at x k)).station)
    (slice_set x.pages k (left_of a (held_at x k)).page)

abbrev pub served : Asked → Lent → List ℕ → Result ℕ Fault → Outcome
served a x buffer (Ok k) = answered_at a x buffer k
served a x buffer (Err e) = silent (Err e) x buffer

-- a frame that was taken apart
abbrev pub dispatched : Lent → List ℕ → Result Asked Fault → Outcome
dispatched x buffer (Ok a) = served a x buffer (place_of a.named x.stations)
dispatched x buffer (Err e) = silent (Err e) x buffer

-- what reception told: nothing yet, a whole frame, or a fault
abbrev pub followed : Lent → List ℕ → Told → Outcome
followed x buffer (Ok None) = silent (Ok None) x buffer
followed x buffer (Ok (Some xs)) = dispatched x buffer (opened xs)
followed x buffer (Err e) = silent (Err e) x buffer

abbrev pub reception_of : Result (Option Reply) Fault → Reception
reception_of (Ok None) = Nothing
reception_of (Ok (Some r)) = Answered r.length r.fault
reception_of (Err e) = Dropped e

-- what a caller lends to a call: the memory's pages and both books
pub record Loan : Type 0 where
  pub pages : List (List ℕ)
  pub events : List Event
  pub half_hours : List HalfHour

abbrev pub loan : List (List ℕ) → List Event → List HalfHour → Loan
loan pages events half_hours = record { pages = pages; events = events; half_hours = half_hours }

abbrev pub lent_to : LineView → Loan → Lent
lent_to l x = record {
  stations = l.stations;
  pages = x.pages;
  events = x.events;
  event_share = l.event_share;
  half_hours = x.half_hours;
  half_hour_share = l.half_hour_share;
}

-- what an admitted signal comes to
abbrev pub heard : LineView → Signal → Loan → List ℕ → Outcome
heard l s x buffer = followed (lent_to l x) buffer (step l.link s).told

abbrev pub with_stations : LineView → Link → List StationView → LineView
with_stations l k ss = record { link = k; stations = ss; event_share = l.event_share; half_hour_share = l.half_hour_share }

-- the line afterwards
abbrev pub line_heard : LineView → Signal → Loan → List ℕ → LineView
line_heard l s x buffer = with_stations l (step l.link s).next (heard l s x buffer).stations

-- the questions of receiving, of what is lent
abbrev pub asked_of : LineView → Loan → List ℕ → Verdict
asked_of l x buffer = receiving_asked l (length x.pages) (length x.events) (length x.half_hours) (length buffer)

-- what receiving tells: a refusal, or what the signal comes to
abbrev pub told_after : Verdict → Reception → Result Reception Refusal
told_after (Ok u) r = Ok r
told_after (Err e) r = Err e

abbrev pub reception_after : LineView → Signal → Loan → List ℕ → Result Reception Refusal
reception_after l s x buffer = told_after (asked_of l x buffer) (reception_of (heard l s x buffer).told)

abbrev pub line_after : LineView → Signal → Loan → List ℕ → LineView
line_after l s x buffer = after (asked_of l x buffer) l (line_heard l s x buffer)

abbrev pub answer_after : LineView → Signal → Loan → List ℕ → List ℕ
answer_after l s x buffer = after (asked_of l x buffer) buffer (heard l s x buffer).answer

abbrev pub pages_after : LineView → Signal → Loan → List ℕ → List (List ℕ)
pages_after l s x buffer = after (asked_of l x buffer) x.pages (heard l s x buffer).pages
