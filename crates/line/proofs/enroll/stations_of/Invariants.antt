use Rattle.std.proofs.Common.{◌≡◌, map, take}
use Rattle.book.specs.Ranked.{view_of}
use Rattle.line.specs.Enrolling.{enrolled_with}
use Rattle.line.specs.Shares.{event_shares, half_hour_shares, alike}
use Rattle.line.specs.Lines.{views_of}
use Rattle.line.proofs.enroll.stations_of.Given as goal

abbrev pub invariant-loop-number : goal.invariant-loop-number
invariant-loop-number l = record {
  stations : views_of l.stations.items ≡ map (enrolled_with (view_of l.events) (view_of l.half_hours)) (take l.number-index l.numbers);
  events : event_shares l.stations.items ≡ alike l.number-index l.events.capacity;
  half_hours : half_hour_shares l.stations.items ≡ alike l.number-index l.half_hours.capacity;
}
