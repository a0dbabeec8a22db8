use Rattle.std.proofs.Common.{ℕ, List, ◌++◌, ap, ◌∙◌}
use Rattle.command.specs.Gathered.{gathered}
use Rattle.command.proofs.ShowSteps.{run_cut}
use Rattle.command.proofs.bulk_show.push_run.Goals as goal

pub returns : goal.returns
returns c = c.push_octets.ensures ∙ ap (λ (xs : List ℕ). gathered c.args.content.now ++ xs) (run_cut c.args.width 243 70 c.requires.short)
