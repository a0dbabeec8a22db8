-- What the reader does with a text, one character after another.
use Rattle.std.specs.Prelude.{ℕ, ◌+◌, ◌*◌, Bool, cond, ◌&&◌, ◌||◌, List, [], ◌∷◌, ◌++◌, Some, None, Ok, Err, Option, Result, ◌==◌, nat_le}
use Rattle.std.specs.Option.{option_to_list}
use Rattle.octet_text.specs.declared.fault.TextFault.{TextFault}
use Rattle.octet_text.specs.declared.fault.TextProblem.TheVariants.{NotADigit, HalfAPair}
use Rattle.octet_text.specs.declared.position.Position.{Position}
use Rattle.octet_text.specs.declared.reader.State.{State}
use Rattle.octet_text.specs.declared.reader.State.TheVariants.{BetweenPairs, InsidePair, InComment}
use Rattle.octet_text.specs.declared.reader.HexReader.{HexReader}
use Rattle.octet_text.specs.declared.hear.Turn.{Turn}
use Rattle.octet_text.specs.Digits.{value_of}
use Rattle.octet_text.specs.Positions.{newline, first_position, position_behind, fault_at}

-- what a reader holds: its state and the place of the next character
pub record Reading : Type 0 where
  pub state : State
  pub position : Position

abbrev pub reading : State → Position → Reading
reading s p = record { state = s; position = p }

-- what a reader of the code holds
abbrev pub reading_of : HexReader → Reading
reading_of h = reading h.state h.position

-- before the first character
abbrev pub start : Reading
start = reading BetweenPairs first_position

-- space, tab, LF, VT, FF, CR
abbrev pub white : ℕ → Bool
white c = c == 32 || (nat_le 9 c && nat_le c 13)

-- '#', with which a comment begins
abbrev pub comment_sign : ℕ
comment_sign = 35

-- what a character does: the state behind it, and the octet of the pair that it ends
abbrev pub turn : State → Option ℕ → Turn
turn s octet = record { state = s; octet = octet }

-- the first digit of a pair, by its value
abbrev pub first_of_pair : Option ℕ → Option Turn
first_of_pair None = None
first_of_pair (Some v) = Some (turn (InsidePair v) None)

-- the second digit of a pair, by the first one's value and its own
abbrev pub second_of_pair : ℕ → Option ℕ → Option Turn
second_of_pair v None = None
second_of_pair v (Some w) = Some (turn BetweenPairs (Some (v * 16 + w)))

-- a character between pairs; None where it is refused
abbrev pub begun : ℕ → Option Turn
begun c =
    cond (white c) (Some (turn BetweenPairs None))
    (cond (c == comment_sign) (Some (turn InComment None))
    (first_of_pair (value_of c)))

-- a character in a state; None where it is refused
abbrev pub heard : State → ℕ → Option Turn
heard BetweenPairs c = begun c
heard (InsidePair v) c = second_of_pair v (value_of c)
heard InComment c = Some (turn (cond (c == newline) BetweenPairs InComment) None)

-- what a reader holds behind a character, and the octet of the pair that this ends
pub record Step : Type 0 where
  pub next : Reading
  pub octet : Option ℕ

abbrev pub step : Reading → Option ℕ → Step
step r octet = record { next = r; octet = octet }

-- the character c at the place p, by what it does
abbrev pub moved : Position → ℕ → Option Turn → Result Step TextFault
moved p c None = Err (fault_at p NotADigit)
moved p c (Some t) = Ok (step (reading t.state (position_behind p c)) t.octet)

-- one character: the step that it makes, or the fault
abbrev pub read_one : Reading → ℕ → Result Step TextFault
read_one r c = moved r.position c (heard r.state c)

-- the end of the text at the place p: a fault inside a pair
abbrev pub ended : State → Position → Result Unit TextFault
ended BetweenPairs p = Ok tt
ended (InsidePair v) p = Err (fault_at p HalfAPair)
ended InComment p = Ok tt

-- the end of the text
abbrev pub finished : Reading → Result Unit TextFault
finished r = ended r.state r.position

-- what comes next, unless there was a fault
abbrev pub and_then : {A B E : Type 0} → Result A E → (A → Result B E) → Result B E
and_then (Ok x) f = f x
and_then (Err e) f = Err e

-- a reader behind a text, and the octets that it has read
pub record Progress : Type 0 where
  pub reader : Reading
  pub octets : List ℕ

abbrev pub progress : Reading → List ℕ → Progress
progress r octets = record { reader = r; octets = octets }

-- the characters of a text one by one, by a reader that has read some octets before
abbrev pub read_on : Reading → List ℕ → List ℕ → Result Progress TextFault
read_on r octets [] = Ok (progress r octets)
read_on r octets (c ∷ cs) = and_then (read_one r c) (λ s. read_on s.next (octets ++ option_to_list s.octet) cs)

-- the octets, if the text may end here
abbrev pub concluded : Progress → Result (List ℕ) TextFault
concluded p = and_then (finished p.reader) (λ _. Ok p.octets)

-- the octets of a whole text, or the fault
abbrev pub read_all : List ℕ → Result (List ℕ) TextFault
read_all text = and_then (read_on start [] text) concluded
