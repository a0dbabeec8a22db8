-- The number, the layer and the position that each fault of a frame tells.
use Rattle.std.specs.Prelude.{ℕ}
use Rattle.frame.specs.declared.fault.Fault.{Fault}
use Rattle.frame.specs.declared.fault.Fault.TheVariants.{DamagedOctet, TooLong, TooShort, WrongChecksum, UnknownStation}
use Rattle.frame.specs.declared.fault.Layer.{Layer}
use Rattle.frame.specs.declared.fault.Layer.TheVariants.{Reception, Frame}

abbrev pub number_of : Fault → ℕ
number_of DamagedOctet = 21
number_of TooLong = 22
number_of TooShort = 23
number_of WrongChecksum = 24
number_of UnknownStation = 25

abbrev pub layer_of : Fault → Layer
layer_of DamagedOctet = Reception
layer_of TooLong = Reception
layer_of TooShort = Frame
layer_of WrongChecksum = Frame
layer_of UnknownStation = Frame

-- a dropped frame has no position to tell
abbrev pub position_of : Fault → ℕ
position_of f = 0
