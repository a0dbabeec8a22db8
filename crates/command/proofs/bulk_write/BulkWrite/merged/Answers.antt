use Rattle.std.proofs.Common.{arith}
use Rattle.command.proofs.MergeSteps.{merged_more}
use Rattle.command.proofs.bulk_write.BulkWrite.merged.Goals as goal

pub loop-cell-preserved : goal.loop-cell-preserved
loop-cell-preserved c =
    merged_more c.args.self.now.cells c.args.page.now c.loop-cell.merged _ c.loop-cell.cell _ (omega arith) c.loop-cell.invariant c.put_cell.ensures
