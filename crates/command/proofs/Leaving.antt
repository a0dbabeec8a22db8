-- What a request leaves, of a station and of the memory.
use Rattle.std.proofs.Common.{◌≡◌, ℕ, ◌<◌, Bool, true, false, cond, ltb, leb, List, [], length, get_or, set, Ok, Err, Result, sym, refl, ap, ◌∙◌, inl, inr, arith}
use Rattle.std.proofs.lemmas.List.{set-get_or}
use Rattle.std.proofs.lemmas.Bool.{cond-true, cond-false, lt-ltb, le-ltb, cases_lt}
use Rattle.memory.specs.Model.{loaded}
use Rattle.book.specs.Ranked.{RingView, empty}
use Rattle.frame.specs.Requests.{Asked}
use Rattle.memory.specs.declared.MemoryRefusal.{MemoryRefusal}
use Rattle.command.specs.declared.event.Event.{Event}
use Rattle.command.specs.declared.fault.Fault.{Fault}
use Rattle.command.specs.declared.half_hour.HalfHour.{HalfHour}
use Rattle.command.specs.declared.known.Command.{Command}
use Rattle.command.specs.declared.known.Command.TheVariants.{ReadLimits, ReadTimers, ReadPresent, ReadEvents, ReadContract, Reset, ReadHalfHours, WriteSettings}
use Rattle.command.specs.declared.reset.Reset.{Reset as Effects}
use Rattle.command.specs.declared.respond.Unanswered.TheVariants.{WrongShare, NoRoom}
use Rattle.command.specs.Commands.{command_of}
use Rattle.command.specs.Replies.{left_by, left_with, left_of, pages_by, pages_with, pages_of, shares_fit, held_by}
use Rattle.command.specs.Resets.{reset_of, station_reset, held_after, pages_reset}
use Rattle.command.specs.Stations.{StationView, Holding, holding}
use Rattle.command.specs.Table.{initial_page}

pub station_held : (r : Result Effects Fault) (h : Holding) → station_reset r h.station ≡ (held_after r h).station
station_held (Ok r) h = refl
station_held (Err f) h = refl

module _ (s : StationView) (events : List Event) (half_hours : List HalfHour) (pages : List (List ℕ)) (k : ℕ) (within : k < length pages) where
  abbrev here : Holding
  here = holding s (get_or pages k []) events half_hours

  same : pages ≡ set pages k (get_or pages k [])
  same = sym (set-get_or pages k [])

  page_restored : (b : Bool) → cond b (cond (ltb k (length pages)) (set pages k initial_page) pages) pages ≡ set pages k (cond b initial_page (get_or pages k []))
  page_restored true = cond-true _ _ _ (lt-ltb k (length pages) within)
  page_restored false = same

  by_reset : (r : Result Effects Fault) → pages_reset r pages k ≡ set pages k (held_after r here).page
  by_reset (Ok r) = page_restored r.settings
  by_reset (Err f) = same

  by_command : (c : Command) (content : List ℕ) → pages_by c content pages k ≡ set pages k (left_by c content here).page
  by_command ReadLimits content = same
  by_command ReadTimers content = same
  by_command ReadPresent content = same
  by_command ReadEvents content = same
  by_command ReadContract content = same
  by_command Reset content = by_reset (reset_of content)
  by_command ReadHalfHours content = same
  by_command WriteSettings content = same

  by_any : (c : Result Command Fault) (content : List ℕ) → pages_with c content pages k ≡ set pages k (left_with c content here).page
  by_any (Ok c) content = by_command c content
  by_any (Err f) content = same

  -- the memory afterwards has the station's page as it is left, and every other as it was
  pub pages_are : (a : Asked) → pages_of a pages k ≡ set pages k (left_of a here).page
  pages_are a = by_any (command_of a.command) a.content

pub held_ok : (s : StationView) (events : List Event) (half_hours : List HalfHour) (l : Result (List ℕ) MemoryRefusal) (page : List ℕ) (room : ℕ)
    → l ≡ Ok page → shares_fit s events half_hours ≡ true → leb 567 room ≡ true → held_by s events half_hours l room ≡ Ok (holding s page events half_hours)
held_ok s events half_hours l page room e fit roomy =
    ap (λ x. held_by s events half_hours x room) e
    ∙ cond-true (shares_fit s events half_hours) (cond (leb 567 room) (Ok (holding s page events half_hours)) (Err NoRoom)) (Err WrongShare) fit
    ∙ cond-true (leb 567 room) (Ok (holding s page events half_hours)) (Err NoRoom) roomy

clash : {X : Type 0} → ◌≡◌ {A = ℕ} 0 1 → X
clash z = absurd (let no_way : ⊥ = omega arith in no_way)

-- a page that was loaded is there
pub loaded_ok : (ps : List (List ℕ)) (k : ℕ) (cells : List ℕ) → Ok cells ≡ loaded ps k → (k < length ps) × (cells ≡ get_or ps k [])
loaded_ok ps k cells e = elim (cases_lt k (length ps)) [
  | inl h ↦ (h, let f = e ∙ cond-true _ _ _ (lt-ltb k (length ps) h) in cc)
  | inr h ↦ let f = e ∙ cond-false _ _ _ (le-ltb k (length ps) h) in clash (cc)
]

-- a request leaves the sizes of a station's rings
reset_sizes : (r : Result Effects Fault) (h : Holding) → ((held_after r h).station.events.capacity ≡ h.station.events.capacity) × ((held_after r h).station.half_hours.capacity ≡ h.station.half_hours.capacity)
reset_sizes (Err f) h = (refl, refl)
reset_sizes (Ok r) h = (sized_cond r.events h.station.events, sized_cond r.half_hours h.station.half_hours)
  where
    sized_cond : (b : Bool) (v : RingView) → (cond b (empty v.capacity) v).capacity ≡ v.capacity
    sized_cond true v = refl
    sized_cond false v = refl

command_sizes : (c : Command) (content : List ℕ) (h : Holding) → ((left_by c content h).station.events.capacity ≡ h.station.events.capacity) × ((left_by c content h).station.half_hours.capacity ≡ h.station.half_hours.capacity)
command_sizes ReadLimits content h = (refl, refl)
command_sizes ReadTimers content h = (refl, refl)
command_sizes ReadPresent content h = (refl, refl)
command_sizes ReadEvents content h = (refl, refl)
command_sizes ReadContract content h = (refl, refl)
command_sizes Reset content h = reset_sizes (reset_of content) h
command_sizes ReadHalfHours content h = (refl, refl)
command_sizes WriteSettings content h = (refl, refl)

with_sizes : (c : Result Command Fault) (content : List ℕ) (h : Holding) → ((left_with c content h).station.events.capacity ≡ h.station.events.capacity) × ((left_with c content h).station.half_hours.capacity ≡ h.station.half_hours.capacity)
with_sizes (Ok c) content h = command_sizes c content h
with_sizes (Err f) content h = (refl, refl)

pub left_sizes : (a : Asked) (h : Holding) → ((left_of a h).station.events.capacity ≡ h.station.events.capacity) × ((left_of a h).station.half_hours.capacity ≡ h.station.half_hours.capacity)
left_sizes a h = with_sizes (command_of a.command) a.content h

pub sizes_kept : (v : StationView) (a : Asked) (h : Holding) → v ≡ (left_of a h).station
    → (v.events.capacity ≡ h.station.events.capacity) × (v.half_hours.capacity ≡ h.station.half_hours.capacity)
sizes_kept v a h e = (ap (λ w. w.events.capacity) e ∙ (left_sizes a h).0, ap (λ w. w.half_hours.capacity) e ∙ (left_sizes a h).1)
