-- One turn of the loops that put a bulk write over a page.
use Rattle.std.proofs.Common.{◌≡◌, ℕ, zero, suc, ◌+◌, ◌<◌, ◌≤◌, List, [], ◌∷◌, length, get_or, take, set, Some, None, Option, sym, refl, ap, ◌∙◌, inl, inr, le_of_suc-le-suc, not-suc-le-zero, add-one, length-set}
use Rattle.std.proofs.lemmas.List.{take_all, get_or-set_same, set-set, set_past}
use Rattle.std.proofs.lemmas.Bool.{cases_lt}
use Rattle.memory.proofs.Steps.{stored_in, stored_past}
use Rattle.command.specs.Bulk.{Cells}
use Rattle.command.specs.Merged.{merged_cell, merged_cells, with_cell, stored_cell}

with_none : (k : ℕ) (o : Option ℕ) → with_cell [] k o ≡ []
with_none k (Some n) = refl
with_none k None = refl

with_first : (v : ℕ) (vs : List ℕ) (o : Option ℕ) → with_cell (v ∷ vs) 0 o ≡ merged_cell o v ∷ vs
with_first v vs (Some n) = refl
with_first v vs None = refl

with_later : (v : ℕ) (vs : List ℕ) (k : ℕ) (o : Option ℕ) → with_cell (v ∷ vs) (suc k) o ≡ v ∷ with_cell vs k o
with_later v vs k (Some n) = refl
with_later v vs k None = refl

merged_suc : (cs : Cells) (vs : List ℕ) (i : ℕ) (d : Option ℕ) → i < length cs → merged_cells (take (suc i) cs) vs ≡ with_cell (merged_cells (take i cs) vs) i (get_or cs i d)
merged_suc [] vs i d h = absurd (not-suc-le-zero h)
merged_suc (c ∷ cs) [] zero d h = sym (with_none 0 c)
merged_suc (c ∷ cs) (v ∷ vs) zero d h = sym (with_first v vs c)
merged_suc (c ∷ cs) [] (suc i) d h = sym (with_none (suc i) (get_or cs i d))
merged_suc (c ∷ cs) (v ∷ vs) (suc i) d h =
    ap (λ (xs : List ℕ). merged_cell c v ∷ xs) (merged_suc cs vs i d (le_of_suc-le-suc h))
    ∙ sym (with_later (merged_cell c v) (merged_cells (take i cs) vs) i (get_or cs i d))

-- one cell more
pub merged_more : (cs : Cells) (vs old new : List ℕ) (i : ℕ) (d : Option ℕ) → i < length cs → old ≡ merged_cells (take i cs) vs → new ≡ with_cell old i (get_or cs i d) → new ≡ merged_cells (take (i + 1) cs) vs
merged_more cs vs old new i d h inv e =
    e ∙ ap (λ (xs : List ℕ). with_cell xs i (get_or cs i d)) inv ∙ sym (merged_suc cs vs i d h)
    ∙ ap (λ n. merged_cells (take n cs) vs) (sym (add-one i))

pub merged_all : (cs : Cells) (vs : List ℕ) (i : ℕ) → length cs ≤ i → merged_cells (take i cs) vs ≡ merged_cells cs vs
merged_all cs vs i h = ap (λ (xs : Cells). merged_cells xs vs) (take_all i cs h)

-- one cell of the page p, where that page is xs
stored_over : (ps : List (List ℕ)) (p k : ℕ) (xs : List ℕ) (o : Option ℕ) → k < 28 → stored_cell (set ps p xs) p k o ≡ set ps p (with_cell xs k o)
stored_over ps p k xs None h = refl
stored_over ps p k xs (Some n) h = elim (cases_lt p (length ps)) [
  | inl below ↦
      let below' : p < length (set ps p xs) = rw length-set below in
      stored_in (set ps p xs) p k n below' h
      ∙ ap (λ (r : List ℕ). set (set ps p xs) p (set r k n)) (get_or-set_same ps p xs [] below)
      ∙ set-set ps p _ _
  | inr past ↦
      let past' : length (set ps p xs) ≤ p = rw length-set past in
      stored_past (set ps p xs) p k n past' ∙ set_past ps p xs past ∙ sym (set_past ps p _ past)
]

pub stored_more : (before during after : List (List ℕ)) (p : ℕ) (cs : Cells) (i : ℕ) (d : Option ℕ) → i < length cs → i < 28
    → during ≡ set before p (merged_cells (take i cs) (get_or before p [])) → after ≡ stored_cell during p i (get_or cs i d)
    → after ≡ set before p (merged_cells (take (i + 1) cs) (get_or before p []))
stored_more before during after p cs i d h k inv e =
    e ∙ ap (λ (ps : List (List ℕ)). stored_cell ps p i (get_or cs i d)) inv
    ∙ stored_over before p i _ (get_or cs i d) k
    ∙ ap (set before p) (merged_more cs (get_or before p []) _ _ i d h refl refl)
