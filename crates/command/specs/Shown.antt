-- The settings and the clock of a station, as they are sent.
use Rattle.std.specs.Prelude.{ℕ, ◌%◌, cond, List, [], ◌∷◌, ◌++◌, replicate, ◌==◌, slice_index}
use Rattle.calendar.specs.Moment.{Moment}
use Rattle.calendar.specs.Digits.{digits_of}
use Rattle.frame.specs.Digits.{two_digits, four_digits}
use Rattle.command.specs.declared.parts.Part.{Part}
use Rattle.command.specs.declared.parts.Part.TheVariants.{Number, Contract, Blank}
use Rattle.command.specs.Parts.{parts}
use Rattle.command.specs.Readings.{contract}

-- a number in a field of two digits, which keeps the low ones, or of five, where '0' stands before four
abbrev pub number_shown : ℕ → ℕ → List ℕ
number_shown width n = cond (width == 2) (two_digits (n % 256)) (48 ∷ four_digits n)

-- the characters of the contract number, and 00 behind them
abbrev pub contract_shown : List ℕ → List ℕ
contract_shown page = contract page ++ (48 ∷ 48 ∷ [])

-- 'F' is 70
abbrev pub part_shown : List ℕ → Part → List ℕ
part_shown page (Number s) = number_shown s.width (slice_index page s.cell)
part_shown page Contract = contract_shown page
part_shown page (Blank p w) = replicate w 70

abbrev pub parts_shown : List ℕ → List Part → List ℕ
parts_shown page [] = []
parts_shown page (p ∷ ps) = part_shown page p ++ parts_shown page ps

-- the clock's twelve digits, and each part in the order of positions
abbrev pub settings_shown : Moment → List ℕ → List ℕ
settings_shown clock page = digits_of clock ++ parts_shown page parts
