use Rattle.std.proofs.Common.{rules, tests, ◌∙◌}
use Rattle.std.proofs.lemmas.Iterator.{YieldsList-from_slice}
use Rattle.std.proofs.lemmas.Iterator.Search.{position_from_yields_List}
use Rattle.std.specs.Prelude.{◌==◌}
use Rattle.line.proofs.Places.{place_in_views}
use Rattle.line.proofs.find.find.Goals as goal

pub returns-clause-place : goal.returns-clause-place
returns-clause-place c =
    position_from_yields_List (λ s. s.number.value == c.args.number) _ _ _ c.position.ensures.ran (YieldsList-from_slice c.args.stations.now cc) (λ x b q k. search (rules, tests))
    ∙ place_in_views c.args.number c.args.stations.now
