use Rattle.std.proofs.Common.{◌≡◌, ◌+◌, drop}
use Rattle.command.specs.Bulk.{with_text}
use Rattle.command.proofs.bulk_contract.put_text.Given as goal

abbrev pub invariant-loop-index : goal.invariant-loop-index
invariant-loop-index l = with_text l.cells (4 + l.index) (drop l.index l.text) ≡ with_text l.initial.cells 4 l.text
