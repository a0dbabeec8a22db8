-- One frame that a station answers, as the definitions have it.
use Rattle.std.proofs.Common.{◌≡◌, ℕ, ◌+◌, ◌-◌, ◌*◌, ◌<◌, ◌≤◌, true, cond, ltb, leb, List, [], ◌++◌, length, get_or, take, drop, set, Some, Ok, Err, Result, sym, refl, ap, ◌∙◌, inl, inr, arith}
use Rattle.std.proofs.lemmas.List.{length-append}
use Rattle.std.proofs.lemmas.Bool.{cases_Bool, cond-true, cond-false, lt-ltb, le-leb, eq-eqb, and_from}
use Rattle.frame.specs.declared.fault.Fault.{Fault}
use Rattle.frame.specs.Requests.{Asked, verified, asked_by, after_verifying, opened}
use Rattle.frame.specs.Answers.{answer_of, room, fronted}
use Rattle.memory.specs.Model.{loaded}
use Rattle.book.specs.Ranked.{share}
use Rattle.command.specs.declared.event.Event.{Event}
use Rattle.command.specs.declared.fault.Fault.{Fault as CommandFault}
use Rattle.command.specs.declared.half_hour.HalfHour.{HalfHour}
use Rattle.command.specs.declared.known.Command.{Command}
use Rattle.command.specs.declared.respond.Reply.{Reply}
use Rattle.command.specs.declared.respond.Unanswered.{Unanswered}
use Rattle.command.specs.declared.respond.Unanswered.TheVariants.{WrongShare, NoRoom as no_room}
use Rattle.command.specs.Stations.{StationView, Holding, holding}
use Rattle.command.specs.Commands.{command_of, answer_code}
use Rattle.command.specs.Questions.{then}
use Rattle.command.specs.Readings.{content_for}
use Rattle.command.specs.Replies.{Saying, saying, said, fault_in, replied, left_of, told_with, told, shares_fit, held_by, responded, answer_left}
use Rattle.line.proofs.Parts.{length-share}
use Rattle.line.specs.Receiving.{place_of, nobody, Lent, held_at, outcome, octets_of, told_of, fronted_by, served, dispatched}

-- a frame that was taken apart has four octets of a number
verified_four : (v : Result (Unit {0}) Fault) (body : List ℕ) (a : Asked) → Ok a ≡ after_verifying v body → length a.address ≡ 4
verified_four (Ok u) body a e = let same : a ≡ asked_by body = cc in ap (λ (x : Asked). length x.address) same
verified_four (Err f) body a e = cc

address_four : (xs : List ℕ) (a : Asked) → Ok a ≡ opened xs → length a.address ≡ 4
address_four xs a e = elim (cases_Bool (ltb (length xs) 8)) [
  | inl short ↦ let no = e ∙ cond-true _ _ _ short in cc
  | inr long ↦ verified_four (verified (take (length xs - 2) xs) (drop (length xs - 2) xs)) (take (length xs - 2) xs) a (e ∙ cond-false _ _ _ long)
]

-- an answer's command has two octets
content_two : (c : Command) (r : Result (List ℕ) CommandFault) → length (said (then r (λ content. Ok (saying (answer_code c) content)))).code ≡ 2
content_two c (Ok content) = refl
content_two c (Err f) = refl

command_two : (a : Asked) (h : Holding) (r : Result Command CommandFault) → length (said (then r (λ c. then (content_for c a.content h) (λ content. Ok (saying (answer_code c) content))))).code ≡ 2
command_two a h (Ok c) = content_two c (content_for c a.content h)
command_two a h (Err f) = refl

code_two : (a : Asked) (h : Holding) → length (said (replied a h)).code ≡ 2
code_two a h = command_two a h (command_of a.command)

length-answer : (address command content : List ℕ) → length address ≡ 4 → length command ≡ 2 → length (answer_of address command content) ≡ 11 + length content
length-answer address command content four two = simp length-append (omega arith)

module _ (a : Asked) (r : Result Saying CommandFault) (reply : Reply) (buffer out : List ℕ)
    (four : length a.address ≡ 4)
    (two : length (said r).code ≡ 2)
    (tells : Ok reply ≡ told (length buffer) r)
    (wrote : out ≡ fronted a.address (said r).code (said r).content buffer) where
  roomy : room (length buffer) (said r).content ≡ true
  roomy = elim (cases_Bool (room (length buffer) (said r).content)) [
    | inl e ↦ e
    | inr e ↦ let no = tells ∙ ap (told_with (fault_in r)) (cond-false _ _ _ e) in cc
  ]

  abbrev octets : List ℕ
  octets = octets_of a (said r)

  counted_is : length octets ≡ 11 + length (said r).content
  counted_is = length-answer a.address (said r).code (said r).content four two

  pub reply_is : reply ≡ record { length = length octets; fault = fault_in r }
  reply_is =
      let e : Ok reply ≡ told_with (fault_in r) (Ok (11 + length (said r).content)) = tells ∙ ap (told_with (fault_in r)) (cond-true _ _ _ roomy) in
      let f : reply ≡ record { length = 11 + length (said r).content; fault = fault_in r } = cc in
      f ∙ ap (λ n. record { length = n; fault = fault_in r }) (sym counted_is)

  pub out_is : out ≡ fronted_by octets buffer
  out_is = wrote ∙ cond-true _ _ _ roomy ∙ ap (λ n. octets ++ drop n buffer) (sym counted_is)

-- the shares of a station whose rings have the sizes of the line's shares
module _ (x : Lent) (s : StationView) (n m k : ℕ)
    (among : k < n) (among' : k < m)
    (events_sized : s.events.capacity ≡ x.event_share)
    (half_hours_sized : s.half_hours.capacity ≡ x.half_hour_share)
    (events_fit : length x.events ≡ n * x.event_share)
    (half_hours_fit : length x.half_hours ≡ m * x.half_hour_share) where
  pub fit_is : (events : List Event) (half_hours : List HalfHour) → events ≡ share x.event_share k x.events → half_hours ≡ share x.half_hour_share k x.half_hours → shares_fit s events half_hours ≡ true
  fit_is events half_hours e h =
      and_from _ _
      (eq-eqb _ _ (ap length e ∙ length-share k n x.event_share x.events among events_fit ∙ sym events_sized))
      (eq-eqb _ _ (ap length h ∙ length-share k m x.half_hour_share x.half_hours among' half_hours_fit ∙ sym half_hours_sized))

  pub held_is : (events : List Event) (half_hours : List HalfHour) → events ≡ share x.event_share k x.events → half_hours ≡ share x.half_hour_share k x.half_hours → s ≡ get_or x.stations k nobody → k < length x.pages → (n : ℕ) → 567 ≤ n → held_by s events half_hours (loaded x.pages k) n ≡ Ok (held_at x k)
  held_is events half_hours e h here within n wide =
      ap (λ l. held_by s events half_hours l n) (cond-true _ _ _ (lt-ltb k (length x.pages) within))
      ∙ cond-true (shares_fit s events half_hours) (cond (leb 567 n) (Ok (holding s (get_or x.pages k []) events half_hours)) (Err no_room)) (Err WrongShare) (fit_is events half_hours e h)
      ∙ cond-true (leb 567 n) (Ok (holding s (get_or x.pages k []) events half_hours)) (Err no_room) (le-leb 567 n wide)
      ∙ ap (λ t. Ok (holding t (get_or x.pages k []) events half_hours)) here
      ∙ ap (λ t. Ok (holding (get_or x.stations k nobody) (get_or x.pages k []) t half_hours)) e
      ∙ ap (λ t. Ok (holding (get_or x.stations k nobody) (get_or x.pages k []) (share x.event_share k x.events) t)) h

-- what the station at a place answered, and what it left
module _ (a : Asked) (x : Lent) (k : ℕ) (xs : List ℕ) (reply : Reply) (buffer out : List ℕ) (held : Result Holding Unanswered)
    (asked : Ok a ≡ opened xs) (place : Ok k ≡ place_of a.named x.stations) (has : held ≡ Ok (held_at x k))
    (tells : Ok reply ≡ responded a held (length buffer)) (wrote : out ≡ answer_left a held buffer) where
  abbrev answer : Result Saying CommandFault
  answer = replied a (held_at x k)

  tells_is : Ok reply ≡ told (length buffer) answer
  tells_is = tells ∙ ap (λ p. responded a p (length buffer)) has

  wrote_is : out ≡ fronted a.address (said answer).code (said answer).content buffer
  wrote_is = wrote ∙ ap (λ p. answer_left a p buffer) has

  pub served_is : (stations : List StationView) (pages : List (List ℕ)) → stations ≡ set x.stations k (left_of a (held_at x k)).station → pages ≡ set x.pages k (left_of a (held_at x k)).page → outcome (Ok (Some reply)) out stations pages ≡ dispatched x buffer (opened xs)
  served_is stations pages e f =
      ap (λ r. outcome (Ok (Some r)) out stations pages) (reply_is a answer reply buffer out (address_four xs a asked) (code_two a (held_at x k)) tells_is wrote_is)
      ∙ ap (λ o. outcome (told_of (octets_of a (said answer)) answer) o stations pages) (out_is a answer reply buffer out (address_four xs a asked) (code_two a (held_at x k)) tells_is wrote_is)
      ∙ ap (λ t. outcome (told_of (octets_of a (said answer)) answer) (fronted_by (octets_of a (said answer)) buffer) t pages) e
      ∙ ap (λ t. outcome (told_of (octets_of a (said answer)) answer) (fronted_by (octets_of a (said answer)) buffer) (set x.stations k (left_of a (held_at x k)).station) t) f
      ∙ ap (served a x buffer) place
      ∙ ap (dispatched x buffer) asked
