-- The data of an answer that are gathered so far.
use Rattle.std.specs.Prelude.{ℕ, List, Ok, Err, Result}
use Rattle.arrayvec.specs.ArrayVec.{ArrayVec}
use Rattle.command.specs.declared.fault.Fault.{Fault}

abbrev pub gathered : ArrayVec ℕ → List ℕ
gathered x = x.items

abbrev pub gathered_in : Result (ArrayVec ℕ) Fault → Result (List ℕ) Fault
gathered_in (Ok x) = Ok (gathered x)
gathered_in (Err e) = Err e
