use Rattle.std.proofs.Common.{◌≡◌, ◌<◌, [], length, get_or, take}
use Rattle.memory.specs.Model.{Paged}
use Rattle.memory.proofs.page.load.Given as goal

-- once a cell was read, the page is known to be there
abbrev pub invariant-loop-cell : goal.invariant-loop-cell
invariant-loop-cell g l =
    let ps = g.M.SettingsMemory.pages l.memory in
    record {
      content : Paged ps;
      long : length l.value-items ≡ 28;
      there : 0 < l.cell → l.page < length ps;
      read : take l.cell l.value-items ≡ take l.cell (get_or ps l.page []);
    }
