-- What enrolling tells, and how it leaves the line and the memory.
use Rattle.std.specs.Prelude.{ℕ, ◌*◌, Bool, cond, ◌&&◌, ◌||◌, List, [], ◌∷◌, ◌++◌, map, length, take, drop, Ok, Err, Result, ◌==◌, nat_le, nat_lt}
use Rattle.std.specs.List.{list_all, list_any}
use Rattle.frame.specs.declared.station_number.StationNumber.{StationNumber}
use Rattle.frame.specs.Reception.{idle}
use Rattle.book.specs.Ranked.{RingView, empty}
use Rattle.command.specs.Stations.{StationView, as_enrolled}
use Rattle.command.specs.Table.{initial_page}
use Rattle.line.specs.declared.refusal.Refusal.{Refusal}
use Rattle.line.specs.declared.refusal.Refusal.TheVariants.{NotNew, WrongStationCount, WrongStationNumber, RepeatedNumber, TooFewPages, WrongEventBook, WrongHalfHourBook}
use Rattle.line.specs.Lines.{LineView}

-- a question's answer
abbrev pub Verdict : Type 0
Verdict = Result (Unit {0}) Refusal

abbrev pub unless : Bool → Refusal → Verdict
unless b e = cond b (Err e) (Ok tt)

-- questions are put in turn: the next one where the first is passed
abbrev pub next : Verdict → Verdict → Verdict
next (Ok u) q = q
next (Err e) q = Err e

-- 1: the line is new
abbrev pub new_asked : LineView → Verdict
new_asked l = unless (nat_lt 0 (length l.stations)) NotNew

-- 2: there are 1 to 32 numbers
abbrev pub count_asked : ℕ → Verdict
count_asked n = unless (n == 0 || nat_lt 32 n) WrongStationCount

-- 3: each is 1 to 4,095
abbrev pub numbered : ℕ → Bool
numbered n = nat_lt 0 n && nat_lt n 4096

abbrev pub all_numbered : List StationNumber → Bool
all_numbered ns = list_all (λ n. numbered n.value) ns

abbrev pub numbers_asked : List StationNumber → Verdict
numbers_asked ns = cond (all_numbered ns) (Ok tt) (Err WrongStationNumber)

-- 4: all are different
abbrev pub has : ℕ → List StationNumber → Bool
has v ns = list_any (λ n. n.value == v) ns

abbrev pub different_asked : List StationNumber → Verdict
different_asked [] = Ok tt
different_asked (n ∷ ns) = cond (has n.value ns) (Err RepeatedNumber) (different_asked ns)

-- 5: the memory has a page for each
abbrev pub pages_asked : ℕ → ℕ → Verdict
pages_asked n pages = unless (nat_lt pages n) TooFewPages

-- 6 and 7: a book's length is the count of stations × the share, and the share is within bounds
abbrev pub fits : ℕ → ℕ → ℕ → ℕ → ℕ → Bool
fits least most n places share = nat_le least share && (nat_le share most && places == n * share)

abbrev pub fit_asked : ℕ → ℕ → Refusal → ℕ → ℕ → ℕ → Verdict
fit_asked least most wrong n places share = cond (fits least most n places share) (Ok tt) (Err wrong)

abbrev pub event_book_asked : ℕ → ℕ → ℕ → Verdict
event_book_asked n places share = fit_asked 2 5000 WrongEventBook n places share

abbrev pub half_hour_book_asked : ℕ → ℕ → ℕ → Verdict
half_hour_book_asked n places share = fit_asked 1 3000 WrongHalfHourBook n places share

-- a book as it is lent: how many places, and how many of them for each station
pub record Book : Type 0 where
  pub places : ℕ
  pub share : ℕ

abbrev pub book : ℕ → ℕ → Book
book p c = record { places = p; share = c }

-- the questions of enrolling, in their order
abbrev pub enrolling_asked : LineView → List StationNumber → ℕ → Book → Book → Verdict
enrolling_asked l ns pages events half_hours =
    next (new_asked l)
    (next (count_asked (length ns))
    (next (numbers_asked ns)
    (next (different_asked ns)
    (next (pages_asked (length ns) pages)
    (next (event_book_asked (length ns) events.places events.share)
    (half_hour_book_asked (length ns) half_hours.places half_hours.share))))))

-- a station as it is enrolled, with the rings of its shares
abbrev pub enrolled_with : RingView → RingView → StationNumber → StationView
enrolled_with events half_hours n = as_enrolled n.value events half_hours

-- all shares are empty
abbrev pub enrolled_line : List StationNumber → ℕ → ℕ → LineView
enrolled_line ns e h = record { link = idle; stations = map (enrolled_with (empty e) (empty h)) ns; event_share = e; half_hour_share = h }

-- the first n pages as they are at first, the others as they were
abbrev pub initial_pages : ℕ → List (List ℕ) → List (List ℕ)
initial_pages n ps = map (λ _. initial_page) (take n ps) ++ drop n ps

-- what follows the questions: a refusal leaves things as they were
abbrev pub after : {X : Type 0} → Verdict → X → X → X
after (Ok u) old new = new
after (Err e) old new = old

abbrev pub line_after_enrolling : LineView → List StationNumber → ℕ → Book → Book → LineView
line_after_enrolling l ns pages events half_hours =
    after (enrolling_asked l ns pages events half_hours) l (enrolled_line ns events.share half_hours.share)

abbrev pub pages_after_enrolling : LineView → List StationNumber → List (List ℕ) → Book → Book → List (List ℕ)
pages_after_enrolling l ns ps events half_hours =
    after (enrolling_asked l ns (length ps) events half_hours) ps (initial_pages (length ns) ps)
