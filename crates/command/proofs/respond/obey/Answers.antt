use Rattle.std.proofs.Common.{◌≡◌, Ok, sym, ap, ◌∙◌}
use Rattle.command.specs.declared.known.Command.TheVariants.{Reset}
use Rattle.command.specs.Commands.{command_of}
use Rattle.command.specs.Replies.{left_with}
use Rattle.command.specs.Resets.{reset_of}
use Rattle.command.specs.Stations.{Holding, holding, station_view}
use Rattle.command.proofs.Leaving.{station_held}
use Rattle.command.proofs.respond.obey.Goals as goal

pub returns-in-Reset-clause-station : goal.returns-in-Reset-clause-station
returns-in-Reset-clause-station g c =
    let content = c.args.request.now.content.now in
    let h : Holding = holding (station_view c.args.station.now) c.args.cells.now c.args.events.now c.args.half_hours.now in
    let e : command_of c.args.request.now.command ≡ Ok Reset = sym c.try_from.ensures ∙ c.in_ok-command.was ∙ ap Ok c.in-Reset.is in
    c.obey_reset.ensures.station ∙ station_held (reset_of content) h ∙ ap (λ k. (left_with k content h).station) (sym e)
