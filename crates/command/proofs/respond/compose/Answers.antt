use Rattle.std.proofs.Common.{set, sym, ap, ◌∙◌}
use Rattle.frame.specs.Requests.{asking}
use Rattle.command.specs.Replies.{left_of}
use Rattle.command.specs.Stations.{holding, station_view}
use Rattle.command.proofs.Leaving.{loaded_ok, pages_are, sizes_kept}
use Rattle.command.proofs.respond.compose.Goals as goal

pub returns-clause-pages : goal.returns-clause-pages
returns-clause-pages g c =
    let a = asking c.args.request.now in
    let s = station_view c.args.station.now in
    let ps = g.M.SettingsMemory.pages c.args.memory.now in
    let there = loaded_ok ps c.args.page c.args.cells.now c.requires.page in
    c.obey.ensures.pages
    ∙ pages_are s c.args.events.now c.args.half_hours.now ps c.args.page there.0 a
    ∙ ap (λ p. set ps c.args.page (left_of a (holding s p c.args.events.now c.args.half_hours.now)).page) (sym there.1)

pub returns-clause-sizes : goal.returns-clause-sizes
returns-clause-sizes g c =
    sizes_kept _ (asking c.args.request.now) (holding (station_view c.args.station.now) c.args.cells.now c.args.events.now c.args.half_hours.now) c.obey.ensures.station
