use Rattle.std.proofs.Common.{◌≡◌, ◌*◌, take}
use Rattle.arrayvec.specs.ArrayVec.{array_vec_len}
use Rattle.command.specs.Gathered.{gathered}
use Rattle.command.specs.Readings.{all_octets}
use Rattle.command.proofs.gather.show_points.Given as goal

abbrev pub invariant-loop-point : goal.invariant-loop-point
invariant-loop-point l = (gathered l.content ≡ all_octets (take l.point-index l.points)) × (array_vec_len l.content ≡ 4 * l.point-index)
