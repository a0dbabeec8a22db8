-- Pages made from a rule for each cell.
use Rattle.std.specs.Prelude.{ℕ, ◌/◌, min, List, map}
use Rattle.std.specs.List.{range_with_len}

-- n pages of 28 cells, where the cell c of the page p is f p c. No cell is above 65,535: what is read from 16 bits never is.
unfoldable pub grid : ℕ → (ℕ → ℕ → ℕ) → List (List ℕ)
grid n f = map (λ p. map (λ c. min (f p c) 65535) (range_with_len 0 28)) (range_with_len 0 n)

-- how many pages lie in a slice of n elements, `size` to a page: whole ones, and at most 65,535
abbrev pub whole : ℕ → ℕ → ℕ
whole n size = min (n / size) 65535
