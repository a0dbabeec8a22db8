use Rattle.std.proofs.Common.{◌≡◌, ◌+◌, ◌*◌, length, arith}
use Rattle.memory.specs.Chip.{place, by_cell}
use Rattle.memory.proofs.ByCell.{within}
use Rattle.memory.proofs.chip.ChipImage.place.Goals as goal

pub returns-clause-within : goal.returns-clause-within
returns-clause-within c =
    let there = c.in_ok-admit.ensures.within in
    let inside = within c.args.self.now.octets.now c.args.page c.args.cell (omega arith) there.1 in
    let here : 2 * (c.from.result * c.from-2.result + c.from-3.result) ≡ place (length (by_cell c.args.self.now.octets.now)) c.args.page c.args.cell = cc in
    omega arith
