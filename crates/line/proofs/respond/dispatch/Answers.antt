use Rattle.std.proofs.Common.{◌≡◌, ◌<◌, length, get_or, set, sym, ap, ◌∙◌, arith}
use Rattle.std.proofs.lemmas.List.{get_or-map, map-set}
use Rattle.std.proofs.Math.Seq.{map-set_same}
use Rattle.frame.specs.Requests.{Asked, asking}
use Rattle.command.specs.Replies.{left_of, station_left, pages_left}
use Rattle.command.specs.Stations.{station_view}
use Rattle.line.specs.Shares.{event_share_of, half_hour_share_of}
use Rattle.line.specs.Lines.{views_of}
use Rattle.line.specs.Receiving.{Lent, lent, nobody, held_at}
use Rattle.line.proofs.Serving.{fit_is, held_is, served_is}
use Rattle.line.proofs.Tables.{count_is, size_at}
use Rattle.line.proofs.respond.dispatch.Goals as goal

pub at-requires : goal.at-requires
at-requires g c = omega (arith, c.in_ok-place.ensures.within, count_is event_share_of _ _ _ c.requires.events)

pub at-requires-2 : goal.at-requires-2
at-requires-2 g c = omega (arith, c.in_ok-place.ensures.within, count_is half_hour_share_of _ _ _ c.requires.half_hours)

pub unwrap-reply-requires : goal.unwrap-reply-requires
unwrap-reply-requires g c =
    let ss = c.args.stations.now in
    let s = c.index-stations-place.result in
    let k = c.in_ok-place.place in
    let es = c.args.events.now in
    let hs = c.args.half_hours.now in
    let h : k < length ss = c.in_ok-place.ensures.within in
    let among : k < es.count = omega (arith, count_is event_share_of _ _ _ c.requires.events) in
    let among' : k < hs.count = omega (arith, count_is half_hour_share_of _ _ _ c.requires.half_hours) in
    let x : Lent = lent (views_of ss) (g.M.SettingsMemory.pages c.args.memory.now) es hs in
    c.respond.ensures.answers (omega arith)
    (fit_is x (station_view (get_or ss k s)) es.count hs.count k among among'
    (size_at event_share_of es.count es.size ss c.requires.events k s among)
    (size_at half_hour_share_of hs.count hs.size ss c.requires.half_hours k s among')
    es.whole hs.whole _ _ c.at.ensures c.at-2.ensures)
    c.requires.room

pub returns : goal.returns
returns g c =
    let ss = c.args.stations.now in
    let s = c.index-stations-place.result in
    let t = c.respond.new.station in
    let k = c.in_ok-place.place in
    let es = c.args.events.now in
    let hs = c.args.half_hours.now in
    let told = c.respond.ensures in
    let h : k < length ss = c.in_ok-place.ensures.within in
    let among : k < es.count = omega (arith, count_is event_share_of _ _ _ c.requires.events) in
    let among' : k < hs.count = omega (arith, count_is half_hour_share_of _ _ _ c.requires.half_hours) in
    let a : Asked = asking c.in_ok-request.request in
    let x : Lent = lent (views_of ss) (g.M.SettingsMemory.pages c.args.memory.now) es hs in
    let here : station_view (get_or ss k s) ≡ get_or (views_of ss) k nobody = sym (get_or-map station_view ss k s nobody h) in
    let has =
    held_is x (station_view (get_or ss k s)) es.count hs.count k among among'
    (size_at event_share_of es.count es.size ss c.requires.events k s among)
    (size_at half_hour_share_of hs.count hs.size ss c.requires.half_hours k s among')
    es.whole hs.whole _ _ c.at.ensures c.at-2.ensures here (omega arith) (length c.args.answer.now) c.requires.room in
    let left : station_view t ≡ (left_of a (held_at x k)).station = told.station ∙ ap (λ p. station_left a p (station_view (get_or ss k s))) has in
    record {
      told =
          served_is a x k c.args.frame.now c.unwrap-reply.result c.args.answer.now c.respond.new.answer _
          c.in_ok-request.ensures c.in_ok-place.ensures.place has (sym c.unwrap-reply.ensures ∙ told.told) told.wrote
          _ _
          (map-set station_view ss k t ∙ ap (λ v. set (views_of ss) k v) left)
          (told.pages ∙ ap (λ p. pages_left a p x.pages k) has);
      event_shares = map-set_same event_share_of ss k t s told.sizes.0;
      half_hour_shares = map-set_same half_hour_share_of ss k t s told.sizes.1;
    }
