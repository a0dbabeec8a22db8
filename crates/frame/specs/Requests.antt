-- What a frame asks, over its octets between ENQ and CR.
use Rattle.std.specs.Prelude.{ℕ, ◌+◌, ◌-◌, ◌*◌, Bool, false, cond, List, [], ◌∷◌, length, take, drop, Some, None, Ok, Err, Option, Result, ◌==◌, nat_lt, slice_index}
use Rattle.frame.specs.declared.fault.Fault.{Fault}
use Rattle.frame.specs.declared.fault.Fault.TheVariants.{TooShort, WrongChecksum}
use Rattle.frame.specs.declared.request.Request.{Request}
use Rattle.frame.specs.declared.station_number.StationNumber.{StationNumber}
use Rattle.frame.specs.Digits.{value_of, octet_of}
use Rattle.frame.specs.Checksum.{checksum_of}

abbrev pub station : ℕ → StationNumber
station n = record { value = n }

-- a digit and two more, as one number
abbrev pub number_with : ℕ → Option ℕ → Option StationNumber
number_with a (Some b) = Some (station (a * 256 + b))
number_with a None = None

abbrev pub number_by : Option ℕ → Option ℕ → Option StationNumber
number_by (Some a) low = number_with a low
number_by None low = None

-- the station's number that 'S' and three digits write, if they do
abbrev pub named_by : ℕ → ℕ → ℕ → ℕ → Option StationNumber
named_by s x y z = cond (s == 83) (number_by (value_of x) (octet_of y z)) None

-- what a frame asks: the number as received, the station that it names, the command octets and the data
pub record Asked : Type 0 where
  pub address : List ℕ
  pub named : Option StationNumber
  pub command : List ℕ
  pub content : List ℕ

abbrev pub says : Option ℕ → ℕ → Bool
says (Some m) n = m == n
says None n = false

-- the two octets behind a body are its checksum, written in digits
abbrev pub summed : List ℕ → List ℕ → Bool
summed body check = says (octet_of (slice_index check 0) (slice_index check 1)) (checksum_of body)

abbrev pub verified : List ℕ → List ℕ → Result (Unit {0}) Fault
verified body check = cond (summed body check) (Ok tt) (Err WrongChecksum)

-- a body of six octets and more: four of the number, two of the command, and the data
abbrev pub asked_by : List ℕ → Asked
asked_by body = record {
  address = slice_index body 0 ∷ slice_index body 1 ∷ slice_index body 2 ∷ slice_index body 3 ∷ [];
  named = named_by (slice_index body 0) (slice_index body 1) (slice_index body 2) (slice_index body 3);
  command = slice_index body 4 ∷ slice_index body 5 ∷ [];
  content = drop 6 body;
}

abbrev pub apart_from : List ℕ → Result Asked Fault
apart_from body = Ok (asked_by body)

abbrev pub after_verifying : Result (Unit {0}) Fault → List ℕ → Result Asked Fault
after_verifying (Ok u) body = apart_from body
after_verifying (Err e) body = Err e

-- the last two octets are the checksum of the others
abbrev pub unsealed : List ℕ → Result Asked Fault
unsealed xs = after_verifying (verified (take (length xs - 2) xs) (drop (length xs - 2) xs)) (take (length xs - 2) xs)

-- a frame has at least eight octets: number, command and checksum
abbrev pub opened : List ℕ → Result Asked Fault
opened xs = cond (nat_lt (length xs) 8) (Err TooShort) (unsealed xs)

-- what a request of the code asks
abbrev pub asking : Request → Asked
asking r = record { address = r.address; named = r.station; command = r.command; content = r.content.now }

abbrev pub asked_of : Result Request Fault → Result Asked Fault
asked_of (Ok r) = Ok (asking r)
asked_of (Err e) = Err e
