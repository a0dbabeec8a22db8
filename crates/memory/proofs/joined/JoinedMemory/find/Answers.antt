use Rattle.std.proofs.Common.{◌-◌, ap, arith}
use Rattle.memory.proofs.Joins.{leads_first, leads_second, leads_nowhere}
use Rattle.memory.proofs.joined.JoinedMemory.find.Goals as goal

pub returns-then-page-before : goal.returns-then-page-before
returns-then-page-before g c =
    leads_first (g.A.SettingsMemory.pages c.args.self.now.first) (g.B.SettingsMemory.pages c.args.self.now.second) c.args.page (omega arith) (omega arith)

pub returns-then-page-lt-MOST_PAGES : goal.returns-then-page-lt-MOST_PAGES
returns-then-page-lt-MOST_PAGES g c =
    leads_second (g.A.SettingsMemory.pages c.args.self.now.first) (g.B.SettingsMemory.pages c.args.self.now.second) c.args.page _ (omega arith) (omega arith) (ap (λ n. c.args.page - n) c.page_count-before.ensures)

pub returns-else-page-lt-MOST_PAGES : goal.returns-else-page-lt-MOST_PAGES
returns-else-page-lt-MOST_PAGES g c =
    leads_nowhere (g.A.SettingsMemory.pages c.args.self.now.first) (g.B.SettingsMemory.pages c.args.self.now.second) c.args.page (omega arith)
