-- What an octet of the input brings, and where the input may end.
use Rattle.std.specs.Prelude.{ℕ, Bool, true, false, Some, Ok, Result}
use Rattle.octet_text.specs.declared.fault.TextFault.{TextFault}
use Rattle.octet_text.specs.Reading.{Reading, Step, reading_of, start, step, read_one, finished}
use Rattle.linebox.specs.declared.input.Input.{Input}
use Rattle.linebox.specs.declared.input.Input.TheVariants.{Octets, Hexadecimal}

-- whether the input is hexadecimal text
abbrev pub is_hexadecimal : Input → Bool
is_hexadecimal Octets = false
is_hexadecimal (Hexadecimal reader) = true

-- what the reader of the text holds; where there is none, as before the first character
abbrev pub reading_in : Input → Reading
reading_in Octets = start
reading_in (Hexadecimal reader) = reading_of reader

-- hexadecimal text is read, character by character; any other input is received octets as they are
abbrev pub taken : Bool → Reading → ℕ → Result Step TextFault
taken true reading character = read_one reading character
taken false reading character = Ok (step reading (Some character))

-- text may not end inside a pair
abbrev pub ended : Bool → Reading → Result (Unit {0}) TextFault
ended true reading = finished reading
ended false reading = Ok tt
