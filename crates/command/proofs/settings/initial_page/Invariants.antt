use Rattle.std.proofs.Common.{◌≡◌, drop, replicate}
use Rattle.command.specs.Table.{with_initials}
use Rattle.command.proofs.settings.initial_page.Given as goal

abbrev pub invariant-loop-setting : goal.invariant-loop-setting
invariant-loop-setting l = with_initials l.page (drop l.setting-index l.setting-items) ≡ with_initials (replicate 28 0) l.setting-items
