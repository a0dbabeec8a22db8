-- The commands, the octets that name them, and those of their answers.
use Rattle.std.specs.Prelude.{ℕ, ◌+◌, cond, ◌&&◌, List, [], ◌∷◌, Some, None, Ok, Err, Option, Result, ◌==◌, slice_index}
use Rattle.frame.specs.Digits.{digit_of, value_of}
use Rattle.command.specs.declared.fault.Fault.{Fault}
use Rattle.command.specs.declared.fault.Fault.TheVariants.{UnknownCommand}
use Rattle.command.specs.declared.known.Command.{Command}
use Rattle.command.specs.declared.known.Command.TheVariants.{ReadLimits, ReadTimers, ReadPresent, ReadEvents, ReadContract, Reset, ReadHalfHours, WriteSettings}

-- the two octets of a request's command
abbrev pub first_octet : Command → ℕ
first_octet ReadLimits = 48
first_octet ReadTimers = 48
first_octet ReadPresent = 49
first_octet ReadEvents = 49
first_octet ReadContract = 49
first_octet Reset = 53
first_octet ReadHalfHours = 54
first_octet WriteSettings = 54

abbrev pub second_octet : Command → ℕ
second_octet ReadLimits = 67
second_octet ReadTimers = 70
second_octet ReadPresent = 54
second_octet ReadEvents = 56
second_octet ReadContract = 57
second_octet Reset = 52
second_octet ReadHalfHours = 50
second_octet WriteSettings = 67

-- all commands
abbrev pub commands : List Command
commands = ReadLimits ∷ ReadTimers ∷ ReadPresent ∷ ReadEvents ∷ ReadContract ∷ Reset ∷ ReadHalfHours ∷ WriteSettings ∷ []

-- the first command of the list that two octets name
abbrev pub named_in : ℕ → ℕ → List Command → Result Command Fault
named_in a b [] = Err UnknownCommand
named_in a b (c ∷ cs) = cond (a == first_octet c && b == second_octet c) (Ok c) (named_in a b cs)

abbrev pub command_of : List ℕ → Result Command Fault
command_of octets = named_in (slice_index octets 0) (slice_index octets 1) commands

-- a digit raised by 8
abbrev pub raised_value : Option ℕ → ℕ
raised_value (Some v) = digit_of (v + 8)
raised_value None = 0

abbrev pub raised : ℕ → ℕ
raised d = raised_value (value_of d)

-- the answer's command is the request's with the first digit raised by 8
abbrev pub answer_code : Command → List ℕ
answer_code c = raised (first_octet c) ∷ second_octet c ∷ []

-- the abnormal answer's command, FF
abbrev pub abnormal_code : List ℕ
abnormal_code = 70 ∷ 70 ∷ []
