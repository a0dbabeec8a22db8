-- What a station holds, as it is lent to be read.
use Rattle.command.specs.declared.holding.Holding.{Holding as Lent}
use Rattle.command.specs.Stations.{Holding, holding, station_view}

-- its values, without what their types say of them
abbrev pub values_of : Lent → Holding
values_of h = holding (station_view h.station.now) h.page.now h.events.now h.half_hours.now
