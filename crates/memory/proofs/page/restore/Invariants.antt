use Rattle.std.proofs.Common.{◌≡◌, ◌<◌, [], length, get_or, set}
use Rattle.memory.specs.Model.{Paged}
use Rattle.memory.proofs.Steps.{mixed}
use Rattle.memory.proofs.page.restore.Given as goal

-- once a cell was stored, the page is known to be there
abbrev pub invariant-loop-cell : goal.invariant-loop-cell
invariant-loop-cell g l =
    let before = g.M.SettingsMemory.pages l.initial.memory in
    record {
      content : Paged before;
      there : 0 < l.cell → l.page < length before;
      written : g.M.SettingsMemory.pages l.memory ≡ set before l.page (mixed l.cells (get_or before l.page []) l.cell);
    }
