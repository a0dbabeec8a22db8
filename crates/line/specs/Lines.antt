-- A line as plain values, without what their types say of them.
use Rattle.std.specs.Prelude.{ℕ, List, [], map}
use Rattle.frame.specs.Reception.{Link, idle, link_of}
use Rattle.command.specs.declared.station.Station.{Station}
use Rattle.command.specs.Stations.{StationView, station_view}
use Rattle.line.specs.declared.line.Line.{Line}

-- the frame that is begun, the stations in order of enrolling, and the sizes of their shares
pub record LineView : Type 0 where
  pub link : Link
  pub stations : List StationView
  pub event_share : ℕ
  pub half_hour_share : ℕ

abbrev pub views_of : List Station → List StationView
views_of ss = map station_view ss

abbrev pub line_view : Line → LineView
line_view l = record {
  link = link_of l.receiver;
  stations = views_of l.stations.items;
  event_share = l.event_share;
  half_hour_share = l.half_hour_share;
}

-- a line before stations are enrolled
abbrev pub new_line : LineView
new_line = record { link = idle; stations = []; event_share = 1; half_hour_share = 1 }
