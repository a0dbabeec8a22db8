-- The octets of an answer, and an answer read back.
use Rattle.std.specs.Prelude.{ℕ, ◌+◌, ◌-◌, Bool, cond, ◌&&◌, List, [], ◌∷◌, ◌++◌, length, take, drop, Some, None, Ok, Err, Option, Result, ◌==◌, nat_le, slice_index}
use Rattle.std.specs.List.{between}
use Rattle.frame.specs.declared.answer.NoRoom.{NoRoom}
use Rattle.frame.specs.Digits.{two_digits}
use Rattle.frame.specs.Checksum.{checksum_of}
use Rattle.frame.specs.Requests.{summed}

-- what is summed: the number, the answer command, the data and ETX
abbrev pub body_of : List ℕ → List ℕ → List ℕ → List ℕ
body_of address command content = address ++ command ++ content ++ 3 ∷ []

-- STX, the body, its checksum in two digits, and CR
abbrev pub sealed : List ℕ → List ℕ
sealed body = 2 ∷ body ++ two_digits (checksum_of body) ++ 13 ∷ []

abbrev pub answer_of : List ℕ → List ℕ → List ℕ → List ℕ
answer_of address command content = sealed (body_of address command content)

-- an answer has eleven octets beside its data; whether a buffer of n octets has room for it
abbrev pub room : ℕ → List ℕ → Bool
room n content = nat_le (11 + length content) n

-- the length of the answer, or that there is no room
abbrev pub counted : ℕ → List ℕ → Result ℕ NoRoom
counted n content = cond (room n content) (Ok (11 + length content)) (Err (record {}))

-- the buffer with the answer at its front and the rest as it was; a buffer that is too short stays
abbrev pub fronted : List ℕ → List ℕ → List ℕ → List ℕ → List ℕ
fronted address command content buffer =
    cond (room (length buffer) content) (answer_of address command content ++ drop (11 + length content) buffer) buffer

-- an answer's parts
pub record Answer : Type 0 where
  pub address : List ℕ
  pub command : List ℕ
  pub content : List ℕ

abbrev pub answer_with : List ℕ → List ℕ → List ℕ → Answer
answer_with a c d = record { address = a; command = c; content = d }

-- the parts of a body that ends with ETX
abbrev pub parts_of : List ℕ → Answer
parts_of body = answer_with (take 4 body) (between 4 6 body) (between 6 (length body - 1) body)

-- STX, a body of number, command, data and ETX, its checksum, and CR
abbrev pub framed : List ℕ → List ℕ → List ℕ → Bool
framed xs body check =
    (slice_index xs 0 == 2)
    && (nat_le 7 (length body) && (slice_index body (length body - 1) == 3 && (summed body check && slice_index xs (length xs - 1) == 13)))

abbrev pub read_body : List ℕ → List ℕ → List ℕ → Option Answer
read_body xs body check = cond (framed xs body check) (Some (parts_of body)) None

-- octets read as an answer
abbrev pub read_back : List ℕ → Option Answer
read_back xs = read_body xs (between 1 (length xs - 3) xs) (between (length xs - 3) (length xs - 1) xs)
