use Rattle.std.proofs.Common.{◌≡◌, [], get_or, take, set}
use Rattle.command.specs.Merged.{merged_cells}
use Rattle.command.proofs.bulk_merge.store_cells.Given as goal

abbrev pub invariant-loop-cell : goal.invariant-loop-cell
invariant-loop-cell g l =
    let before = g.M.SettingsMemory.pages l.initial.memory in
    g.M.SettingsMemory.pages l.memory ≡ set before l.page (merged_cells (take l.cell l.cells) (get_or before l.page []))
