use Rattle.std.proofs.Common.{arith}
use Rattle.memory.proofs.ByPage.{within}
use Rattle.memory.proofs.working.WorkingMemory.place.Goals as goal

pub returns-clause-within : goal.returns-clause-within
returns-clause-within c =
    let there = c.in_ok-admit.ensures.within in
    let inside = within c.args.self.now.cells.now c.args.page c.args.cell (omega arith) there.1 in omega arith
