-- Working memory: cells in a slice, page after page.
use Rattle.std.specs.Prelude.{ℕ, ◌+◌, ◌*◌, cond, List, length, nat_lt, slice_index, slice_set}
use Rattle.memory.specs.Grid.{grid, whole}

-- the pages of a slice
unfoldable pub by_page : List ℕ → List (List ℕ)
by_page xs = grid (whole (length xs) 28) (λ p c. slice_index xs (28 * p + c))

-- the slice after storing v at the cell c of the page p: one element replaced, or none where storing is refused
abbrev pub written : List ℕ → ℕ → ℕ → ℕ → List ℕ
written xs p c v = cond (nat_lt p (length (by_page xs))) (cond (nat_lt c 28) (slice_set xs (28 * p + c) v) xs) xs
