use Rattle.std.proofs.Common.{◌≡◌, length}
use Rattle.line.specs.Enrolling.{different_asked}
use Rattle.line.proofs.enroll.different_asked.Given as goal

abbrev pub invariant-loop-number : goal.invariant-loop-number
invariant-loop-number l = different_asked l.left ≡ different_asked l.numbers

abbrev pub decreases-loop-number : goal.decreases-loop-number
decreases-loop-number l = length l.left
