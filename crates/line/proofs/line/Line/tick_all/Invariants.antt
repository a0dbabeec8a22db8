use Rattle.std.proofs.Common.{◌≡◌, ◌++◌, map, take, drop}
use Rattle.command.specs.Stations.{ticked}
use Rattle.line.specs.Shares.{event_shares, half_hour_shares}
use Rattle.line.specs.Lines.{views_of}
use Rattle.line.proofs.line.Line.tick_all.Given as goal

abbrev pub invariant-loop-station : goal.invariant-loop-station
invariant-loop-station l = record {
  views : views_of l.station-items ≡ map ticked (take l.station-index (views_of l.fn.self.stations.items)) ++ drop l.station-index (views_of l.fn.self.stations.items);
  event_shares : event_shares l.station-items ≡ event_shares l.fn.self.stations.items;
  half_hour_shares : half_hour_shares l.station-items ≡ half_hour_shares l.fn.self.stations.items;
}
