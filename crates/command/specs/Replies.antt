-- What a station answers to a request, and how that leaves the buffer.
use Rattle.std.specs.Prelude.{ℕ, Bool, cond, ◌&&◌, List, [], length, Some, None, Ok, Err, Option, Result, ◌==◌, nat_le, slice_set}
use Rattle.frame.specs.declared.answer.NoRoom.{NoRoom}
use Rattle.frame.specs.Requests.{Asked}
use Rattle.frame.specs.Answers.{counted, fronted}
use Rattle.memory.specs.declared.MemoryRefusal.{MemoryRefusal}
use Rattle.command.specs.declared.event.Event.{Event}
use Rattle.command.specs.declared.fault.Fault.{Fault}
use Rattle.command.specs.declared.half_hour.HalfHour.{HalfHour}
use Rattle.command.specs.declared.known.Command.{Command}
use Rattle.command.specs.declared.known.Command.TheVariants.{ReadLimits, ReadTimers, ReadPresent, ReadEvents, ReadContract, Reset, ReadHalfHours, WriteSettings}
use Rattle.command.specs.declared.respond.Composed.{Composed}
use Rattle.command.specs.declared.respond.Reply.{Reply}
use Rattle.command.specs.declared.respond.Unanswered.{Unanswered}
use Rattle.command.specs.declared.respond.Unanswered.TheVariants.{NoPage, WrongShare, NoRoom as no_room}
use Rattle.command.specs.Commands.{command_of, answer_code, abnormal_code}
use Rattle.command.specs.Gathered.{gathered}
use Rattle.command.specs.Stations.{StationView, Holding, holding}
use Rattle.command.specs.Questions.{then}
use Rattle.command.specs.Resets.{reset_of, held_after, pages_reset}
use Rattle.command.specs.Readings.{content_for}

-- what stands in an answer beside the station's number: the command octets and the data
pub record Saying : Type 0 where
  pub code : List ℕ
  pub content : List ℕ

abbrev pub saying : List ℕ → List ℕ → Saying
saying code content = record { code = code; content = content }

-- the normal answer of a station to a request, or the fault of the abnormal one
abbrev pub replied_as : Command → List ℕ → Holding → Result Saying Fault
replied_as c content h = then (content_for c content h) (λ shown. Ok (saying (answer_code c) shown))

abbrev pub replied : Asked → Holding → Result Saying Fault
replied a h = then (command_of a.command) (λ c. replied_as c a.content h)

-- what a command leaves of what the station holds: a reading leaves all as it is
abbrev pub left_by : Command → List ℕ → Holding → Holding
left_by ReadLimits content h = h
left_by ReadTimers content h = h
left_by ReadPresent content h = h
left_by ReadEvents content h = h
left_by ReadContract content h = h
left_by Reset content h = held_after (reset_of content) h
left_by ReadHalfHours content h = h
left_by WriteSettings content h = h

-- the memory after a command on page k
abbrev pub pages_by : Command → List ℕ → List (List ℕ) → ℕ → List (List ℕ)
pages_by ReadLimits content pages k = pages
pages_by ReadTimers content pages k = pages
pages_by ReadPresent content pages k = pages
pages_by ReadEvents content pages k = pages
pages_by ReadContract content pages k = pages
pages_by Reset content pages k = pages_reset (reset_of content) pages k
pages_by ReadHalfHours content pages k = pages
pages_by WriteSettings content pages k = pages

abbrev pub pages_with : Result Command Fault → List ℕ → List (List ℕ) → ℕ → List (List ℕ)
pages_with (Ok c) content pages k = pages_by c content pages k
pages_with (Err f) content pages k = pages

abbrev pub pages_of : Asked → List (List ℕ) → ℕ → List (List ℕ)
pages_of a pages k = pages_with (command_of a.command) a.content pages k

abbrev pub left_with : Result Command Fault → List ℕ → Holding → Holding
left_with (Ok c) content h = left_by c content h
left_with (Err f) content h = h

-- what a request leaves of what the station holds
abbrev pub left_of : Asked → Holding → Holding
left_of a h = left_with (command_of a.command) a.content h

-- what is said: the abnormal answer has command FF and no data
abbrev pub said : Result Saying Fault → Saying
said (Ok s) = s
said (Err f) = saying abnormal_code []

abbrev pub fault_in : Result Saying Fault → Option Fault
fault_in (Ok s) = None
fault_in (Err f) = Some f

-- the length of the answer and its fault, or that there is no room
abbrev pub told_with : Option Fault → Result ℕ NoRoom → Result Reply Unanswered
told_with f (Ok n) = Ok (record { length = n; fault = f })
told_with f (Err e) = Err no_room

abbrev pub told : ℕ → Result Saying Fault → Result Reply Unanswered
told room r = told_with (fault_in r) (counted room (said r).content)

-- a station's shares have as many places as their rings
abbrev pub shares_fit : StationView → List Event → List HalfHour → Bool
shares_fit s events half_hours = length events == s.events.capacity && length half_hours == s.half_hours.capacity

-- what a station needs to answer: a page, shares that fit, and a buffer with room for the longest answer
abbrev pub held_by : StationView → List Event → List HalfHour → Result (List ℕ) MemoryRefusal → ℕ → Result Holding Unanswered
held_by s events half_hours (Ok page) room =
    cond (shares_fit s events half_hours) (cond (nat_le 567 room) (Ok (holding s page events half_hours)) (Err no_room)) (Err WrongShare)
held_by s events half_hours (Err e) room = Err NoPage

-- what the station tells of a request, in a buffer of so many octets
abbrev pub responded : Asked → Result Holding Unanswered → ℕ → Result Reply Unanswered
responded a (Ok h) room = told room (replied a h)
responded a (Err e) room = Err e

abbrev pub written : Asked → Saying → List ℕ → List ℕ
written a s buffer = fronted a.address s.code s.content buffer

-- the buffer: the answer at its front, all else as it was
abbrev pub answer_left : Asked → Result Holding Unanswered → List ℕ → List ℕ
answer_left a (Ok h) buffer = written a (said (replied a h)) buffer
answer_left a (Err e) buffer = buffer

-- the station afterwards
abbrev pub station_left : Asked → Result Holding Unanswered → StationView → StationView
station_left a (Ok h) s = (left_of a h).station
station_left a (Err e) s = s

-- the memory afterwards: the station's page, and every other as it was
abbrev pub pages_left : Asked → Result Holding Unanswered → List (List ℕ) → ℕ → List (List ℕ)
pages_left a (Ok h) pages k = slice_set pages k (left_of a h).page
pages_left a (Err e) pages k = pages

-- what the code composes
abbrev pub composed_of : Result Composed Fault → Result Saying Fault
composed_of (Ok x) = Ok (saying x.code (gathered x.content))
composed_of (Err e) = Err e
