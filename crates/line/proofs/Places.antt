-- The place of a number, in a table and in its views.
use Rattle.std.proofs.Common.{◌≡◌, ℕ, ◌+◌, Bool, not, cond, List, [], ◌∷◌, map, refl, sym, ap}
use Rattle.std.proofs.lemmas.List.{length-map}
use Rattle.std.specs.List.{position, prefix_len}
use Rattle.std.specs.Prelude.{◌==◌}
use Rattle.command.specs.declared.station.Station.{Station}
use Rattle.command.specs.Stations.{station_view}
use Rattle.line.specs.Lines.{views_of}
use Rattle.line.specs.Receiving.{place_in}

prefix_len-map : {X Y : Type 0} (p : Y → Bool) (f : X → Y) (xs : List X) → prefix_len p (map f xs) ≡ prefix_len (λ x. p (f x)) xs
prefix_len-map p f [] = refl
prefix_len-map p f (x ∷ xs) = ap (λ n. cond (p (f x)) (1 + n) 0) (prefix_len-map p f xs)

position-map : {X Y : Type 0} (p : Y → Bool) (f : X → Y) (xs : List X) → position p (map f xs) ≡ position (λ x. p (f x)) xs
position-map p f xs = rw (prefix_len-map (λ y. not (p y)) f xs, length-map xs f)

pub place_in_views : (n : ℕ) (ss : List Station) → position (λ s. s.number.value == n) ss ≡ place_in n (views_of ss)
place_in_views n ss = sym (position-map (λ v. v.number == n) station_view ss)
