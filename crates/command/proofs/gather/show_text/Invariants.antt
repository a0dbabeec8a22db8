use Rattle.std.proofs.Common.{◌≡◌, map, take}
use Rattle.arrayvec.specs.ArrayVec.{array_vec_len}
use Rattle.command.specs.Gathered.{gathered}
use Rattle.command.specs.Readings.{sent_octet}
use Rattle.command.proofs.gather.show_text.Given as goal

abbrev pub invariant-loop-cell : goal.invariant-loop-cell
invariant-loop-cell l = (gathered l.content ≡ map sent_octet (take l.cell-index l.cells)) × (array_vec_len l.content ≡ l.cell-index)
