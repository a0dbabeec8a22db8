-- The points of an answer: what four octets show.
use Rattle.std.specs.Prelude.{ℕ, List, replicate, Some, None, Option}
use Rattle.frame.specs.Digits.{four_digits}

-- a number, or none where the monitor has nothing to show
abbrev pub Point : Type 0
Point = Option ℕ

-- a number in four digits, or four spaces
abbrev pub octets_of : Point → List ℕ
octets_of (Some n) = four_digits n
octets_of None = replicate 4 32
