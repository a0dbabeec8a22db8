-- What the pages that lie one after another in a slice hold, and what a write to the slice makes of them.
use Rattle.std.proofs.Common.{◌≡◌, ℕ, ◌+◌, ◌*◌, ◌<◌, ◌≤◌, min, List, [], Ok, sym, ap, ◌∙◌, length, get_or, set, arith, length-set}
use Rattle.std.proofs.lemmas.List.{get_or-set_same, get_or-set_other}
use Rattle.std.proofs.lemmas.Bool.{lt-ltb}
use Rattle.memory.specs.Grid.{whole}
use Rattle.memory.specs.Model.{answered, stored}
use Rattle.memory.specs.Working.{by_page, written}
use Rattle.memory.specs.Paging.{length_grid}
use Rattle.memory.proofs.Grids.{grid_cell, grid_store}
use Rattle.memory.proofs.Steps.{answered_ok, stored_in}

pub length_by_page : (xs : List ℕ) → length (by_page xs) ≡ whole (length xs) 28
unfolding by_page
length_by_page xs = length_grid _ _

pub within : (xs : List ℕ) (p c : ℕ) → p < length (by_page xs) → c < 28 → 28 * p + c < length xs
within xs p c h k = let e = length_by_page xs in omega arith

pub by_page_cell : (xs : List ℕ) (p c : ℕ) → p < length (by_page xs) → c < 28 → get_or (get_or (by_page xs) p []) c 0 ≡ min (get_or xs (28 * p + c) 0) 65535
unfolding by_page
by_page_cell xs p c h k = grid_cell _ (λ q d. get_or xs (28 * q + d) 0) p c (rw length_grid at h) k

pub by_page_store : (xs : List ℕ) (p c v : ℕ) → p < length (by_page xs) → c < 28 → v ≤ 65535 → by_page (set xs (28 * p + c) v) ≡ set (by_page xs) p (set (get_or (by_page xs) p []) c v)
unfolding by_page
by_page_store xs p c v h k fit =
    let i : 28 * p + c < length xs = within xs p c h k in
    rw (length-set xs (28 * p + c) v)
    (grid_store (whole (length xs) 28) (λ q d. get_or xs (28 * q + d) 0) (λ q d. get_or (set xs (28 * p + c) v) (28 * q + d) 0) p c v
    (rw length_grid at h) k fit
    (get_or-set_same xs (28 * p + c) v 0 i)
    (λ d m ne. get_or-set_other xs (28 * p + c) (28 * p + d) v 0 (λ e. ne (omega arith)))
    (λ q d l m ne. get_or-set_other xs (28 * p + c) (28 * q + d) v 0 (λ e. ne (omega arith))))

pub fetched_at : (xs : List ℕ) (p c i : ℕ) → Ok i ≡ answered (by_page xs) p c (28 * p + c) → get_or xs i 0 ≤ 65535 → get_or (get_or (by_page xs) p []) c 0 ≡ get_or xs i 0
fetched_at xs p c i e fit =
    let k = answered_ok (by_page xs) p c (28 * p + c) i e in
    let same : get_or xs (28 * p + c) 0 ≡ get_or xs i 0 = ap (λ j. get_or xs j 0) (sym k.2) in
    let cell = by_page_cell xs p c k.0 k.1 in
    omega arith

pub stored_at : (xs : List ℕ) (p c i v : ℕ) → Ok i ≡ answered (by_page xs) p c (28 * p + c) → v ≤ 65535 → by_page (set xs i v) ≡ stored (by_page xs) p c v
stored_at xs p c i v e fit =
    let k = answered_ok (by_page xs) p c (28 * p + c) i e in
    ap (λ j. by_page (set xs j v)) k.2 ∙ by_page_store xs p c v k.0 k.1 fit ∙ sym (stored_in (by_page xs) p c v k.0 k.1)

pub written_at : (xs : List ℕ) (p c i v : ℕ) → Ok i ≡ answered (by_page xs) p c (28 * p + c) → set xs i v ≡ written xs p c v
written_at xs p c i v e =
    let k = answered_ok (by_page xs) p c (28 * p + c) i e in
    simp (lt-ltb p (length (by_page xs)) k.0, lt-ltb c 28 k.1, k.2)
