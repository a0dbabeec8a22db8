-- The number, the position and the layer that each fault of a command tells.
use Rattle.std.specs.Prelude.{ℕ}
use Rattle.command.specs.declared.fault.Fault.{Fault}
use Rattle.command.specs.declared.fault.Fault.TheVariants.{UnknownCommand, WrongLength, WrongOctets, WrongValue, NoSuchTime, WrongPoints, TwoStagesOutOfOrder, ThreeStagesOutOfOrder, NotYetBuilt}
use Rattle.frame.specs.declared.fault.Layer.{Layer}
use Rattle.frame.specs.declared.fault.Layer.TheVariants.{Command}

-- what is not yet built has no number
abbrev pub number_of : Fault → ℕ
number_of UnknownCommand = 31
number_of WrongLength = 32
number_of (WrongOctets p) = 33
number_of (WrongValue p) = 35
number_of NoSuchTime = 36
number_of WrongPoints = 34
number_of TwoStagesOutOfOrder = 37
number_of ThreeStagesOutOfOrder = 37
number_of NotYetBuilt = 0

-- the command stands at 6, the data begin at 8; what has no number has no position
abbrev pub position_of : Fault → ℕ
position_of UnknownCommand = 6
position_of WrongLength = 8
position_of (WrongOctets p) = p
position_of (WrongValue p) = p
position_of NoSuchTime = 8
position_of WrongPoints = 8
position_of TwoStagesOutOfOrder = 95
position_of ThreeStagesOutOfOrder = 115
position_of NotYetBuilt = 0

abbrev pub layer_of : Fault → Layer
layer_of f = Command
