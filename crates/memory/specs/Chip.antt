-- A chip's image: cell 0 of all pages, then cell 1 of all pages, and so on, each in two octets, the high one first.
use Rattle.std.specs.Prelude.{ℕ, ◌+◌, ◌*◌, ◌/◌, ◌%◌, cond, List, length, nat_lt, slice_index, slice_set}
use Rattle.memory.specs.Grid.{grid, whole}

-- where the cell c of the page p begins, among n pages
abbrev pub place : ℕ → ℕ → ℕ → ℕ
place n p c = 2 * (c * n + p)

-- the number whose high octet lies at i
abbrev pub word : List ℕ → ℕ → ℕ
word xs i = 256 * slice_index xs i + slice_index xs (i + 1)

-- the octets with v in the two at i
abbrev pub with_word : List ℕ → ℕ → ℕ → List ℕ
with_word xs i v = slice_set (slice_set xs i (v / 256)) (i + 1) (v % 256)

-- the pages of an image
unfoldable pub by_cell : List ℕ → List (List ℕ)
by_cell xs = grid (whole (length xs) 56) (λ p c. word xs (place (whole (length xs) 56) p c))

-- the image after storing v at the cell c of the page p: two octets replaced, or none where storing is refused
abbrev pub imprinted : List ℕ → ℕ → ℕ → ℕ → List ℕ
imprinted xs p c v = cond (nat_lt p (length (by_cell xs))) (cond (nat_lt c 28) (with_word xs (place (length (by_cell xs)) p c) v) xs) xs
