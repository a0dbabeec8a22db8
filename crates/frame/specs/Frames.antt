-- What reception comes to over whole runs of signals, in the words of the line.
use Rattle.std.specs.Prelude.{◌≡◌, ℕ, ◌<◌, ◌≤◌, List, [], ◌∷◌, ◌++◌, map, length, Some, Ok, Err, ◌≢◌}
use Rattle.std.specs.List.{AllByRecursion}
use Rattle.frame.specs.declared.fault.Fault.TheVariants.{DamagedOctet, TooLong}
use Rattle.frame.specs.declared.signal.Signal.{Signal}
use Rattle.frame.specs.declared.signal.Signal.TheVariants.{Octet, Damaged}
use Rattle.frame.specs.Reception.{Link, idle, step, at, Told, enq, cr}

-- an octet that a frame collects: undamaged, neither ENQ nor CR
abbrev pub Plain : ℕ → Type 0
Plain o = (o < 128) × (o ≢ enq) × (o ≢ cr)

-- a damaged octet: reported so, or above 7F
abbrev pub Damage : Signal → Type 0
Damage (Octet o) = 127 < o
Damage Damaged = Unit {0}

-- the link after a run of signals
abbrev pub after : Link → List Signal → Link
after l [] = l
after l (s ∷ ss) = after (step l s).next ss

-- what is told at the signal s, after the signals ss from an idle link
abbrev pub told_at : List Signal → Signal → Told
told_at ss s = (step (after idle ss) s).told

-- the signals end with a frame that is begun: ENQ and then the plain octets xs, at most 251
pub record Begun (ss : List Signal) (xs : List ℕ) : Type 0 where
  pub before : List Signal
  pub ends : ss ≡ before ++ (Octet enq ∷ map Octet xs)
  pub plain : AllByRecursion Plain xs
  pub few : length xs ≤ 251

-- ENQ, at most 251 plain octets and CR come out as that frame, from whatever state
abbrev pub FramesComeThrough : Type 0
FramesComeThrough =
    (l : Link) (xs : List ℕ) → AllByRecursion Plain xs → length xs ≤ 251
    → step (after l (Octet enq ∷ map Octet xs)) (Octet cr) ≡ at idle (Ok (Some xs))

-- a frame is told exactly at the CR behind its ENQ and its octets
abbrev pub FramesAreToldAtTheirEnd : Type 0
FramesAreToldAtTheirEnd =
    (ss : List Signal) (s : Signal) (xs : List ℕ)
    → (told_at ss s ≡ Ok (Some xs) → Begun ss xs × (s ≡ Octet cr))
    × (Begun ss xs → s ≡ Octet cr → told_at ss s ≡ Ok (Some xs))

-- a drop is told exactly at the damaged octet of a frame that is begun, or at its 252nd plain octet
abbrev pub DropsAreToldAtTheirOctet : Type 0
DropsAreToldAtTheirOctet =
    (ss : List Signal) (s : Signal)
    → (told_at ss s ≡ Err DamagedOctet → ((xs : List ℕ) × Begun ss xs) × Damage s)
    × (((xs : List ℕ) × Begun ss xs) → Damage s → told_at ss s ≡ Err DamagedOctet)
    × (told_at ss s ≡ Err TooLong → (xs : List ℕ) × (Begun ss xs × (length xs ≡ 251) × ((o : ℕ) × ((s ≡ Octet o) × Plain o))))
    × ((xs : List ℕ) (o : ℕ) → Begun ss xs → length xs ≡ 251 → Plain o → s ≡ Octet o → told_at ss s ≡ Err TooLong)
