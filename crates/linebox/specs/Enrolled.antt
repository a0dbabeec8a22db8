-- The stations of the program: S001 and S1A0, with shares of 50 events and 48 half hours.
use Rattle.std.specs.Prelude.{[], ◌∷◌, Ok, Err, Result}
use Rattle.frame.specs.Requests.{station}
use Rattle.line.specs.Lines.{LineView}
use Rattle.line.specs.declared.refusal.Refusal.{Refusal}
use Rattle.line.specs.Enrolling.{Verdict, enrolled_line}

abbrev pub two_stations : LineView
two_stations = enrolled_line (station 1 ∷ station 416 ∷ []) 50 48

-- what making a line tells: that it is made, or why not
abbrev pub verdict_of : {A : Type 0} → Result A Refusal → Verdict
verdict_of (Ok made) = Ok tt
verdict_of (Err e) = Err e
