use Rattle.std.proofs.Common.{◌≡◌, take}
use Rattle.command.specs.Merged.{merged_cells}
use Rattle.command.proofs.bulk_write.BulkWrite.merged.Given as goal

abbrev pub invariant-loop-cell : goal.invariant-loop-cell
invariant-loop-cell l = l.merged ≡ merged_cells (take l.cell l.self.cells) l.page
