use Rattle.std.proofs.Common.{◌≡◌, ℕ, ◌+◌, ◌<◌, List, ◌++◌, map, length, get_or, take, drop, set, ap, ◌∙◌, arith}
use Rattle.std.proofs.Math.Seq.{map-set_same}
use Rattle.std.proofs.lemmas.List.Edits.{map_over_more}
use Rattle.std.proofs.lemmas.List.{length-map, get_or_default}
use Rattle.command.specs.declared.station.Station.{Station}
use Rattle.command.specs.Stations.{StationView, station_view, ticked}
use Rattle.line.specs.Shares.{event_share_of, half_hour_share_of}
use Rattle.line.specs.Lines.{views_of}
use Rattle.line.specs.Receiving.{nobody}
use Rattle.line.proofs.Tables.{views_set}
use Rattle.line.proofs.line.Line.tick_all.Goals as goal

-- one station more
more : (before now : List Station) (i : ℕ) (s t : Station) → length now ≡ length before → i < length before → station_view t ≡ ticked (station_view (get_or now i s))
    → views_of now ≡ map ticked (take i (views_of before)) ++ drop i (views_of before)
    → views_of (set now i t) ≡ map ticked (take (i + 1) (views_of before)) ++ drop (i + 1) (views_of before)
more before now i s t same h e inv =
    let many = length-map before station_view in
    let many-now = length-map now station_view in
    views_set ticked now i s t (omega arith) e
    ∙ map_over_more ticked (views_of before) (views_of now) i (get_or (views_of now) i nobody) (omega arith) inv (get_or_default (views_of now) i nobody (get_or (views_of now) i nobody) (omega arith))

pub loop-station-preserved : goal.loop-station-preserved
loop-station-preserved c =
    let ss = c.args.self.now.stations.items in
    let now = c.loop-station.station-items in
    let i = c.loop-station.station-index in
    let s = c.station-item.result in
    let t = c.tick.new.self in
    let same : length now ≡ length ss = c.loop-station.auto.station-items ∙ ap length c.as_mut_slice-station-items.ensures.value in
    record {
      views = more ss now i s t same (omega arith) c.tick.ensures c.loop-station.invariant.views;
      event_shares = map-set_same event_share_of now i t s (ap (λ (v : StationView). v.events.capacity) c.tick.ensures) ∙ c.loop-station.invariant.event_shares;
      half_hour_shares = map-set_same half_hour_share_of now i t s (ap (λ (v : StationView). v.half_hours.capacity) c.tick.ensures) ∙ c.loop-station.invariant.half_hour_shares;
    }
