use Rattle.std.proofs.Common.{[], get_or, set, sym, ap, ◌∙◌, arith}
use Rattle.std.proofs.lemmas.List.{set-get_or}
use Rattle.command.proofs.MergeSteps.{merged_all, stored_more}
use Rattle.command.proofs.bulk_merge.store_cells.Goals as goal

pub loop-cell-init : goal.loop-cell-init
loop-cell-init g c = sym (set-get_or (g.M.SettingsMemory.pages c.args.memory.now) c.args.page [])

pub loop-cell-preserved : goal.loop-cell-preserved
loop-cell-preserved g c =
    let pages = g.M.SettingsMemory.pages in
    stored_more (pages c.args.memory.now) (pages c.loop-cell.memory) _ c.args.page c.args.cells.now c.loop-cell.cell _
    (omega arith) (omega arith) c.loop-cell.invariant c.store_cell.ensures

pub returns : goal.returns
returns g c =
    let before = g.M.SettingsMemory.pages c.args.memory.now in
    c.loop-cell.invariant
    ∙ ap (set before c.args.page) (merged_all c.args.cells.now (get_or before c.args.page []) c.loop-cell.cell (omega arith))
