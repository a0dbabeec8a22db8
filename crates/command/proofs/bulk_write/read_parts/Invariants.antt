use Rattle.std.proofs.Common.{◌≡◌, drop}
use Rattle.command.specs.Bulk.{parts_read, all_left}
use Rattle.command.proofs.bulk_write.read_parts.Given as goal

abbrev pub invariant-loop-part : goal.invariant-loop-part
invariant-loop-part l = parts_read l.content l.cells (drop l.part-index l.part-items) ≡ parts_read l.content all_left l.part-items
