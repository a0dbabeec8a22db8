-- What the receiver does at each signal, over the octets of the frame that is begun.
use Rattle.std.specs.Prelude.{ℕ, cond, List, [], ◌∷◌, ◌++◌, length, Some, None, Ok, Err, Option, Result, ◌==◌, nat_lt}
use denote.Ref.{Bor}
use Rattle.frame.specs.declared.fault.Fault.{Fault}
use Rattle.frame.specs.declared.fault.Fault.TheVariants.{DamagedOctet, TooLong}
use Rattle.frame.specs.declared.receiver.State.{State}
use Rattle.frame.specs.declared.receiver.State.TheVariants.{Idle, Collecting}
use Rattle.frame.specs.declared.receiver.Receiver.{Receiver}
use Rattle.frame.specs.declared.signal.Signal.{Signal}
use Rattle.frame.specs.declared.signal.Signal.TheVariants.{Octet, Damaged}

-- ENQ begins a frame and CR ends it
abbrev pub enq : ℕ
enq = 5

abbrev pub cr : ℕ
cr = 13

-- the link: no frame begun, or one begun, with its octets so far
pub data Link : Type 0 where
  idle : Link
  begun : List ℕ → Link

-- what is told: nothing yet, a whole frame, or a fault
abbrev pub Told : Type 0
Told = Result (Option (List ℕ)) Fault

pub record Step : Type 0 where
  pub next : Link
  pub told : Told

abbrev pub at : Link → Told → Step
at l t = record { next = l; told = t }

-- damage drops the frame that is begun, and is passed over where none is
abbrev pub damaged : Link → Step
damaged idle = at idle (Ok None)
damaged (begun xs) = at idle (Err DamagedOctet)

-- at most 251 octets are collected; one more drops the frame
abbrev pub collected : List ℕ → ℕ → Step
collected xs o = cond (nat_lt (length xs) 251) (at (begun (xs ++ o ∷ [])) (Ok None)) (at idle (Err TooLong))

-- an undamaged octet that is not ENQ
abbrev pub heard : Link → ℕ → Step
heard idle o = at idle (Ok None)
heard (begun xs) o = cond (o == cr) (at idle (Ok (Some xs))) (collected xs o)

-- an octet above 7F counts as damaged; ENQ begins a frame from any state
abbrev pub octet : Link → ℕ → Step
octet l o = cond (nat_lt 127 o) (damaged l) (cond (o == enq) (at (begun []) (Ok None)) (heard l o))

abbrev pub step : Link → Signal → Step
step l (Octet o) = octet l o
step l Damaged = damaged l

-- the link that a receiver stands for
abbrev pub link_at : State → List ℕ → Link
link_at Idle xs = idle
link_at Collecting xs = begun xs

abbrev pub link_of : Receiver → Link
link_of r = link_at r.state r.octets.items

-- what the code's result tells: the octets that it hands out are the frame
abbrev pub told_by : Result (Option (Bor (List ℕ))) Fault → Told
told_by (Ok None) = Ok None
told_by (Ok (Some octets)) = Ok (Some octets.now)
told_by (Err f) = Err f
