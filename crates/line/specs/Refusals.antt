-- The number that each refusal tells.
use Rattle.std.specs.Prelude.{ℕ}
use Rattle.line.specs.declared.refusal.Refusal.{Refusal}
use Rattle.line.specs.declared.refusal.Refusal.TheVariants.{NotNew, WrongStationCount, WrongStationNumber, RepeatedNumber, TooFewPages, WrongEventBook, WrongHalfHourBook, NotEnrolled, PagesMissing, WrongBookLength, ShortAnswerBuffer, UnknownNumber, WrongKind}

abbrev pub number_of : Refusal → ℕ
number_of NotNew = 1
number_of WrongStationCount = 2
number_of WrongStationNumber = 3
number_of RepeatedNumber = 4
number_of TooFewPages = 5
number_of WrongEventBook = 6
number_of WrongHalfHourBook = 7
number_of NotEnrolled = 10
number_of PagesMissing = 11
number_of WrongBookLength = 12
number_of ShortAnswerBuffer = 13
number_of UnknownNumber = 14
number_of WrongKind = 15
