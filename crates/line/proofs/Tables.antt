-- Tables of stations: their views, and the sizes of their shares.
use Rattle.std.proofs.Common.{◌≡◌, ℕ, ◌+◌, ◌<◌, List, [], ◌++◌, map, length, get_or, take, set, length-set, append-nil, sym, ap, ◌∙◌, arith}
use Rattle.std.proofs.lemmas.List.{map-set, take_all, drop_all, length-map, length-take, length-drop, length-append, length-replicate, get_or-replicate, get_or_default, get_or-map}
use Rattle.std.proofs.Math.Seq.{map-set_same}
use Rattle.std.proofs.lemmas.List.Edits.{map_over_more}
use Rattle.std.specs.List.{refill}
use Rattle.command.specs.declared.station.Station.{Station}
use Rattle.command.specs.Stations.{StationView, station_view}
use Rattle.command.specs.Table.{initial_page}
use Rattle.line.specs.Shares.{alike}
use Rattle.line.specs.Receiving.{nobody}
use Rattle.line.specs.declared.line.Line.{Line}
use Rattle.line.specs.Lines.{views_of, line_view}
use Rattle.line.specs.Enrolling.{initial_pages}

-- n stations whose shares have one size
module _ (f : Station → ℕ) (n c : ℕ) (ss : List Station) (e : map f ss ≡ alike n c) where
  pub count_is : length ss ≡ n
  count_is = sym (length-map ss f) ∙ ap length e ∙ length-replicate n c

  pub size_at : (k : ℕ) (s : Station) → k < n → f (get_or ss k s) ≡ c
  size_at k s h =
      sym (get_or-map f ss k s 0 (omega (arith, count_is))) ∙ ap (λ (t : List ℕ). get_or t k 0) e ∙ get_or-replicate n k c 0 h

-- a station of the table that was lent as a slice, by its place
pub station_lent : (l : Line) (xs : List Station) (k : ℕ) (s : Station) → xs ≡ l.stations.items → k < length l.stations.items → station_view (get_or xs k s) ≡ get_or (line_view l).stations k nobody
station_lent l xs k s e h =
    ap (λ (ys : List Station). station_view (get_or ys k s)) e ∙ sym (get_or-map station_view l.stations.items k s nobody h)

-- a station replaced, as the contracts have it
pub views_set : (change : StationView → StationView) (ss : List Station) (k : ℕ) (s t : Station) → k < length ss → station_view t ≡ change (station_view (get_or ss k s)) → views_of (set ss k t) ≡ set (views_of ss) k (change (get_or (views_of ss) k nobody))
views_set change ss k s t h e =
    map-set station_view ss k t ∙ ap (λ v. set (views_of ss) k v) (e ∙ ap change (sym (get_or-map station_view ss k s nobody h)))

refill_same : (ss ys : List Station) → length ys ≡ length ss → refill (length ss) ss ys ≡ ys
refill_same ss ys e =
    ap (λ t. take (length ss) (ys ++ t)) (drop_all (length ys) ss (omega arith)) ∙ ap (take (length ss)) (append-nil ys) ∙ take_all (length ss) ys (omega arith)

-- one page more
pub pages_more : (i : ℕ) (ps now : List (List ℕ)) → i < length ps → now ≡ initial_pages i ps → set now i initial_page ≡ initial_pages (i + 1) ps
pages_more i ps now h e =
    let l : length now ≡ length ps = ap length e ∙ simp (length-append, length-map, length-take, length-drop) (omega arith) in
    map_over_more (λ _. initial_page) ps now i (get_or now i []) h e (get_or_default now i [] (get_or now i []) (omega arith))

pub length-initial_pages : (i : ℕ) (ps : List (List ℕ)) → length (initial_pages i ps) ≡ length ps
length-initial_pages i ps = simp (length-append, length-map, length-take, length-drop) (omega arith)

-- a change of one station of a table that was lent as a slice
module _ (change : StationView → StationView) (ss xs : List Station) (k : ℕ) (s t : Station)
    (lent : xs ≡ ss) (within : k < length ss) (changed : station_view t ≡ change (station_view (get_or xs k s))) where
  here : station_view t ≡ change (station_view (get_or ss k s))
  here = changed ∙ ap (λ (ys : List Station). change (station_view (get_or ys k s))) lent

  back_is : refill (length ss) ss (set xs k t) ≡ set ss k t
  back_is = ap (λ (ys : List Station). refill (length ss) ss (set ys k t)) lent ∙ refill_same ss (set ss k t) (length-set ss k t)

  pub views_back : views_of (refill (length ss) ss (set xs k t)) ≡ set (views_of ss) k (change (get_or (views_of ss) k nobody))
  views_back = ap views_of back_is ∙ views_set change ss k s t within here

  pub alike_back : (size : StationView → ℕ) (c : ℕ) → ((v : StationView) → size (change v) ≡ size v) → map (λ r. size (station_view r)) ss ≡ alike (length ss) c → map (λ r. size (station_view r)) (refill (length ss) ss (set xs k t)) ≡ alike (length (refill (length ss) ss (set xs k t))) c
  alike_back size c same e =
      ap (map (λ r. size (station_view r))) back_is
      ∙ map-set_same (λ r. size (station_view r)) ss k t s (ap size here ∙ same (station_view (get_or ss k s)))
      ∙ e ∙ ap (λ n. alike n c) (sym (ap length back_is ∙ length-set ss k t))
