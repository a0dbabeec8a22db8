-- What the pages of a chip's image hold, and what a write of two octets makes of them.
use Rattle.std.proofs.Common.{◌≡◌, ℕ, ◌+◌, ◌*◌, ◌/◌, ◌%◌, ◌<◌, ◌≤◌, min, ◌≢◌, List, [], Ok, length, get_or, set, sym, ap, ◌∙◌, arith, length-set}
use Rattle.std.proofs.lemmas.List.{get_or-set_same, get_or-set_other}
use Rattle.std.proofs.lemmas.Nat.{mul-add-lt, div-mul-add, mod-mul-add}
use Rattle.std.proofs.lemmas.Bool.{lt-ltb}
use Rattle.memory.specs.Grid.{grid, whole}
use Rattle.memory.specs.Model.{answered, stored}
use Rattle.memory.specs.Chip.{place, word, with_word, by_cell, imprinted}
use Rattle.memory.specs.Paging.{length_grid}
use Rattle.memory.proofs.Grids.{grid_cell, grid_store}
use Rattle.memory.proofs.Steps.{answered_ok, stored_in}

pub length_by_cell : (xs : List ℕ) → length (by_cell xs) ≡ whole (length xs) 56
unfolding by_cell
length_by_cell xs = length_grid _ _

pub within : (xs : List ℕ) (p c : ℕ) → p < length (by_cell xs) → c < 28 → place (length (by_cell xs)) p c + 1 < length xs
within xs p c h k =
    let e = length_by_cell xs in
    let l = mul-add-lt c (length (by_cell xs)) p 28 k h in omega arith

-- the pages of an image that has room for n
pages : ℕ → List ℕ → List (List ℕ)
pages n xs = grid n (λ p c. word xs (place n p c))

by_cell_pages : (xs : List ℕ) → by_cell xs ≡ pages (length (by_cell xs)) xs
unfolding by_cell pages
by_cell_pages xs = ap (λ n. grid n (λ p c. word xs (place n p c))) (sym (length_by_cell xs))

pub by_cell_cell : (xs : List ℕ) (p c : ℕ) → p < length (by_cell xs) → c < 28 → get_or (get_or (by_cell xs) p []) c 0 ≡ min (word xs (place (length (by_cell xs)) p c)) 65535
unfolding pages
by_cell_cell xs p c h k =
    let n = length (by_cell xs) in
    ap (λ ps. get_or (get_or ps p []) c 0) (by_cell_pages xs) ∙ grid_cell n (λ q d. word xs (place n q d)) p c h k

pub put_word : (xs : List ℕ) (i j a b v : ℕ) → i ≡ j → a ≡ v / 256 → b ≡ v % 256 → set (set xs i a) (i + 1) b ≡ with_word xs j v
put_word xs i j a b v e f g = cc

length-with_word : (xs : List ℕ) (i v : ℕ) → length (with_word xs i v) ≡ length xs
length-with_word xs i v = length-set (set xs i (v / 256)) (i + 1) (v % 256) ∙ length-set xs i (v / 256)

word_same : (xs : List ℕ) (i v : ℕ) → i + 1 < length xs → word (with_word xs i v) i ≡ v
word_same xs i v h =
    let h' : i + 1 < length (set xs i (v / 256)) = rw length-set h in
    let high : get_or (with_word xs i v) i 0 ≡ v / 256 = get_or-set_other (set xs i (v / 256)) (i + 1) i (v % 256) 0 (λ e. omega arith) ∙ get_or-set_same xs i (v / 256) 0 (omega arith) in
    let low : get_or (with_word xs i v) (i + 1) 0 ≡ v % 256 = get_or-set_same (set xs i (v / 256)) (i + 1) (v % 256) 0 h' in
    omega arith

octet_other : (xs : List ℕ) (i v j : ℕ) → j ≢ i → j ≢ (i + 1) → get_or (with_word xs i v) j 0 ≡ get_or xs j 0
octet_other xs i v j a b = get_or-set_other (set xs i (v / 256)) (i + 1) j (v % 256) 0 b ∙ get_or-set_other xs i j (v / 256) 0 a

word_other : (xs : List ℕ) (a b v : ℕ) → b ≢ a → word (with_word xs (2 * a) v) (2 * b) ≡ word xs (2 * b)
word_other xs a b v ne =
    let high = octet_other xs (2 * a) v (2 * b) (λ e. ne (omega arith)) (λ e. ne (omega arith)) in
    let low = octet_other xs (2 * a) v (2 * b + 1) (λ e. ne (omega arith)) (λ e. ne (omega arith)) in
    omega arith

apart_page : (n p c q d : ℕ) → p < n → q < n → q ≢ p → (d * n + q) ≢ (c * n + p)
apart_page n p c q d h l ne e = ne (sym (mod-mul-add d n q l) ∙ ap (λ x. x % n) e ∙ mod-mul-add c n p h)

apart_cell : (n p c d : ℕ) → p < n → d ≢ c → (d * n + p) ≢ (c * n + p)
apart_cell n p c d h ne e = ne (sym (div-mul-add d n p h) ∙ ap (λ x. x / n) e ∙ div-mul-add c n p h)

pages_store : (xs : List ℕ) (n p c v : ℕ) → p < n → c < 28 → v ≤ 65535 → place n p c + 1 < length xs
    → pages n (with_word xs (place n p c) v) ≡ set (pages n xs) p (set (get_or (pages n xs) p []) c v)
unfolding pages
pages_store xs n p c v h k fit l =
    grid_store n (λ q d. word xs (place n q d)) (λ q d. word (with_word xs (place n p c) v) (place n q d)) p c v h k fit
    (word_same xs (place n p c) v l)
    (λ d m ne. word_other xs (c * n + p) (d * n + p) v (apart_cell n p c d h ne))
    (λ q d m o ne. word_other xs (c * n + p) (d * n + q) v (apart_page n p c q d h m ne))

pub by_cell_store : (xs : List ℕ) (p c v : ℕ) → p < length (by_cell xs) → c < 28 → v ≤ 65535
    → by_cell (with_word xs (place (length (by_cell xs)) p c) v) ≡ set (by_cell xs) p (set (get_or (by_cell xs) p []) c v)
by_cell_store xs p c v h k fit =
    let n = length (by_cell xs) in
    let ys = with_word xs (place n p c) v in
    let same : length (by_cell ys) ≡ n = length_by_cell ys ∙ ap (λ m. whole m 56) (length-with_word xs (place n p c) v) ∙ sym (length_by_cell xs) in
    by_cell_pages ys
    ∙ ap (λ m. pages m ys) same
    ∙ pages_store xs n p c v h k fit (within xs p c h k)
    ∙ ap (λ ps. set ps p (set (get_or ps p []) c v)) (sym (by_cell_pages xs))

pub fetched_at : (xs : List ℕ) (p c i : ℕ) → Ok i ≡ answered (by_cell xs) p c (place (length (by_cell xs)) p c) → word xs i ≤ 65535
    → get_or (get_or (by_cell xs) p []) c 0 ≡ word xs i
fetched_at xs p c i e fit =
    let k = answered_ok (by_cell xs) p c _ i e in
    let same : word xs (place (length (by_cell xs)) p c) ≡ word xs i = ap (word xs) (sym k.2) in
    let cell = by_cell_cell xs p c k.0 k.1 in
    omega arith

pub stored_at : (xs : List ℕ) (p c i a b v : ℕ) → Ok i ≡ answered (by_cell xs) p c (place (length (by_cell xs)) p c) → a ≡ v / 256 → b ≡ v % 256 → v ≤ 65535
    → by_cell (set (set xs i a) (i + 1) b) ≡ stored (by_cell xs) p c v
stored_at xs p c i a b v e high low fit =
    let k = answered_ok (by_cell xs) p c _ i e in
    ap by_cell (put_word xs i _ a b v k.2 high low) ∙ by_cell_store xs p c v k.0 k.1 fit ∙ sym (stored_in (by_cell xs) p c v k.0 k.1)

pub imprinted_at : (xs : List ℕ) (p c i a b v : ℕ) → Ok i ≡ answered (by_cell xs) p c (place (length (by_cell xs)) p c) → a ≡ v / 256 → b ≡ v % 256
    → set (set xs i a) (i + 1) b ≡ imprinted xs p c v
imprinted_at xs p c i a b v e high low =
    let k = answered_ok (by_cell xs) p c _ i e in
    put_word xs i _ a b v k.2 high low ∙ simp (lt-ltb p (length (by_cell xs)) k.0, lt-ltb c 28 k.1)
