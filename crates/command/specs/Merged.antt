-- A bulk write put over a page.
use Rattle.std.specs.Prelude.{ℕ, List, [], ◌∷◌, Some, None, Option, slice_set}
use Rattle.memory.specs.Model.{stored}
use Rattle.command.specs.Bulk.{Cells}

-- a cell as it is set, else as it was
abbrev pub merged_cell : Option ℕ → ℕ → ℕ
merged_cell (Some n) old = n
merged_cell None old = old

abbrev pub merged_cells : Cells → List ℕ → List ℕ
merged_cells [] page = page
merged_cells (c ∷ cs) [] = []
merged_cells (c ∷ cs) (v ∷ vs) = merged_cell c v ∷ merged_cells cs vs

-- one cell of a page, and of a memory's page
abbrev pub with_cell : List ℕ → ℕ → Option ℕ → List ℕ
with_cell page k (Some n) = slice_set page k n
with_cell page k None = page

abbrev pub stored_cell : List (List ℕ) → ℕ → ℕ → Option ℕ → List (List ℕ)
stored_cell ps p k (Some n) = stored ps p k n
stored_cell ps p k None = ps
