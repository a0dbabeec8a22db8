-- What a settings memory holds, and what fetching and storing answer and leave: a memory is a list of pages, and a page a list of cells.
use Rattle.std.specs.Prelude.{◌≡◌, ℕ, ◌≤◌, cond, List, [], length, Ok, Err, Result, nat_lt, slice_index, slice_index_or, slice_set}
use Rattle.std.specs.List.{AllByRecursion}
use Rattle.memory.specs.declared.MemoryRefusal.{MemoryRefusal}
use Rattle.memory.specs.declared.MemoryRefusal.TheVariants.{NoPage, NoCell}

-- 28 cells, each at most 65,535
abbrev pub Page : List ℕ → Type 0
Page cells = (length cells ≡ 28) × AllByRecursion (λ v. v ≤ 65535) cells

-- at most 65,535 pages
abbrev pub Paged : List (List ℕ) → Type 0
Paged ps = (length ps ≤ 65535) × AllByRecursion Page ps

-- x, or the refusal: among n pages the page p is asked for first, then the cell c
abbrev pub admitted : {X : Type 0} → ℕ → ℕ → ℕ → X → Result X MemoryRefusal
admitted n p c x = cond (nat_lt p n) (cond (nat_lt c 28) (Ok x) (Err NoCell)) (Err NoPage)

-- x, or the refusal, at the cell c of the page p
abbrev pub answered : {X : Type 0} → List (List ℕ) → ℕ → ℕ → X → Result X MemoryRefusal
answered ps p c x = admitted (length ps) p c x

-- what the cell c of the page p holds
abbrev pub fetched : List (List ℕ) → ℕ → ℕ → Result ℕ MemoryRefusal
fetched ps p c = answered ps p c (slice_index (slice_index_or ps p []) c)

-- that cell replaced by v, and no other; nothing changes where storing is refused
abbrev pub stored : List (List ℕ) → ℕ → ℕ → ℕ → List (List ℕ)
stored ps p c v = cond (nat_lt p (length ps)) (cond (nat_lt c 28) (slice_set ps p (slice_set (slice_index_or ps p []) c v)) ps) ps

-- x, or the refusal, at the whole page p
abbrev pub found : {X : Type 0} → List (List ℕ) → ℕ → X → Result X MemoryRefusal
found ps p x = cond (nat_lt p (length ps)) (Ok x) (Err NoPage)

-- the cells of the page p
abbrev pub loaded : List (List ℕ) → ℕ → Result (List ℕ) MemoryRefusal
loaded ps p = found ps p (slice_index_or ps p [])

-- that page replaced, and no other; nothing changes where there is none
abbrev pub restored : List (List ℕ) → ℕ → List ℕ → List (List ℕ)
restored ps p cells = cond (nat_lt p (length ps)) (slice_set ps p cells) ps
