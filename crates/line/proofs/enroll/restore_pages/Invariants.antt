use Rattle.std.proofs.Common.{◌≡◌}
use Rattle.line.specs.Enrolling.{initial_pages}
use Rattle.line.proofs.enroll.restore_pages.Given as goal

abbrev pub invariant-loop-page : goal.invariant-loop-page
invariant-loop-page g l = g.M.SettingsMemory.pages l.memory ≡ initial_pages l.page (g.M.SettingsMemory.pages l.initial.memory)
