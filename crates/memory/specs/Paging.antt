-- That what the memories hold is a memory's content.
use Rattle.std.specs.Prelude.{◌≡◌, ℕ, ◌+◌, ◌≤◌, min, List, [], ◌∷◌, ◌++◌, map, length}
use Rattle.std.proofs.Common.{ap, ◌∙◌, arith}
use Rattle.std.specs.List.{range_with_len, AllByRecursion}
use Rattle.std.proofs.lemmas.List.FromFn.{length-map-range_with_len}
use Rattle.std.proofs.ByRecursion.{All-append, All-take}
use Rattle.std.proofs.lemmas.List.{length-append, length-take}
use Rattle.memory.specs.Model.{Page, Paged}
use Rattle.memory.specs.Grid.{grid, whole}
use Rattle.memory.specs.Working.{by_page}
use Rattle.memory.specs.Chip.{by_cell}
use Rattle.memory.specs.Joined.{one_after}

every_map : {X Y : Type 0} (P : Y → Type 0) (f : X → Y) → ((x : X) → P (f x)) → (xs : List X) → AllByRecursion P (map f xs)
every_map P f h [] = tt
every_map P f h (x ∷ xs) = (h x, every_map P f h xs)

row_page : (f : ℕ → ℕ) → Page (map (λ c. min (f c) 65535) (range_with_len 0 28))
row_page f =
    let cap : ℕ → ℕ = λ c. min (f c) 65535 in
    (length-map-range_with_len cap 0 28, every_map (λ v. v ≤ 65535) cap (λ c. omega arith) (range_with_len 0 28))

pub length_grid : (n : ℕ) (f : ℕ → ℕ → ℕ) → length (grid n f) ≡ n
unfolding grid
length_grid n f = length-map-range_with_len _ 0 n

pub grid_paged : (n : ℕ) (f : ℕ → ℕ → ℕ) → n ≤ 65535 → Paged (grid n f)
unfolding grid
grid_paged n f h = (rw length-map-range_with_len h, every_map Page (λ p. map (λ c. min (f p c) 65535) (range_with_len 0 28)) (λ p. row_page (f p)) (range_with_len 0 n))

pub by_page_paged : (xs : List ℕ) → Paged (by_page xs)
unfolding by_page
by_page_paged xs = grid_paged (whole (length xs) 28) _ (omega arith)

pub by_cell_paged : (xs : List ℕ) → Paged (by_cell xs)
unfolding by_cell
by_cell_paged xs = grid_paged (whole (length xs) 56) _ (omega arith)

pub length_one_after : (xs ys : List (List ℕ)) → length (one_after xs ys) ≡ min 65535 (length xs + length ys)
unfolding one_after
length_one_after xs ys = length-take 65535 (xs ++ ys) ∙ ap (min 65535) (length-append xs ys)

pub one_after_paged : (xs ys : List (List ℕ)) → Paged xs → Paged ys → Paged (one_after xs ys)
unfolding one_after
one_after_paged xs ys a b = (let e = length_one_after xs ys in omega arith, All-take Page 65535 (xs ++ ys) (All-append Page xs ys a.1 b.1))

pub none_paged : Paged []
none_paged = (omega arith, tt)
