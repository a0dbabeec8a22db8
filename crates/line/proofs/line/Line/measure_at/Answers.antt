use Rattle.std.proofs.Common.{refl, ap}
use Rattle.command.specs.Stations.{measured}
use Rattle.line.specs.Lines.{line_view}
use Rattle.line.specs.Receiving.{with_stations}
use Rattle.line.proofs.Tables.{views_back, alike_back}
use Rattle.line.proofs.line.Line.measure_at.Goals as goal

pub invariant_of-self : goal.invariant_of-self
invariant_of-self c =
    let l = c.args.self.now in
    let change = measured c.args.demand c.args.predicted in
    let ss = l.stations.items in
    let xs = c.deref_mut.result.now in
    let k = c.args.place in
    let s = c.index-deref_mut-place.result in
    let t = c.measure.new.self in
    record {
      events_small = l.events_small;
      half_hours_small = l.half_hours_small;
      events_alike = alike_back change ss xs k s t c.deref_mut.ensures.value c.requires c.measure.ensures (λ v. v.events.capacity) l.event_share (λ _. refl) l.events_alike;
      half_hours_alike = alike_back change ss xs k s t c.deref_mut.ensures.value c.requires c.measure.ensures (λ v. v.half_hours.capacity) l.half_hour_share (λ _. refl) l.half_hours_alike;
    }

pub returns : goal.returns
returns c =
    let l = c.args.self.now in
    ap (with_stations (line_view l) (line_view l).link)
    (views_back (measured c.args.demand c.args.predicted) l.stations.items c.deref_mut.result.now c.args.place c.index-deref_mut-place.result c.measure.new.self c.deref_mut.ensures.value c.requires c.measure.ensures)
