-- Laws of `grid`: its cells, and what one changed cell makes of it.
use Rattle.std.proofs.Common.{◌≡◌, ℕ, ◌<◌, ◌≤◌, min, ◌≢◌, List, [], map, length, get_or, set, sym, ap, ◌∙◌, subst, inl, inr, zero-add, arith, length-set}
use Rattle.std.specs.List.{range_with_len}
use Rattle.std.proofs.lemmas.List.{ext_get_or, get_or-set_same, get_or-set_other}
use Rattle.std.proofs.lemmas.List.FromFn.{length-map-range_with_len, get_or-map-range_with_len}
use Rattle.std.proofs.lemmas.Bool.{cases_eq}
use Rattle.memory.specs.Grid.{grid}
use Rattle.memory.specs.Paging.{length_grid}

-- one page of a grid
row : (ℕ → ℕ) → List ℕ
row f = map (λ c. min (f c) 65535) (range_with_len 0 28)

length-row : (f : ℕ → ℕ) → length (row f) ≡ 28
unfolding row
length-row f = length-map-range_with_len (λ c. min (f c) 65535) 0 28

row_capped : (f : ℕ → ℕ) (c : ℕ) → c < 28 → get_or (row f) c 0 ≡ min (f c) 65535
unfolding row
row_capped f c h = get_or-map-range_with_len (λ d. min (f d) 65535) 0 28 c c 0 h (zero-add c)

grid_row : (n : ℕ) (f : ℕ → ℕ → ℕ) (p : ℕ) → p < n → get_or (grid n f) p [] ≡ row (f p)
unfolding grid row
grid_row n f p h = get_or-map-range_with_len (λ q. map (λ c. min (f q c) 65535) (range_with_len 0 28)) 0 n p p [] h (zero-add p)

pub grid_cell : (n : ℕ) (f : ℕ → ℕ → ℕ) (p c : ℕ) → p < n → c < 28 → get_or (get_or (grid n f) p []) c 0 ≡ min (f p c) 65535
grid_cell n f p c h k = ap (λ r. get_or r c 0) (grid_row n f p h) ∙ row_capped (f p) c k

row_same : (f g : ℕ → ℕ) → ((d : ℕ) → d < 28 → g d ≡ f d) → row g ≡ row f
row_same f g e = ext_get_or 0 (row g) (row f) (length-row g ∙ sym (length-row f)) (λ d h.
    let h' : d < 28 = rw length-row at h in
    row_capped g d h' ∙ ap (λ v. min v 65535) (e d h') ∙ sym (row_capped f d h'))

row-set : (f g : ℕ → ℕ) (c v : ℕ) → c < 28 → v ≤ 65535 → g c ≡ v → ((d : ℕ) → d < 28 → d ≢ c → g d ≡ f d) → row g ≡ set (row f) c v
row-set f g c v k fit e o = ext_get_or 0 (row g) (set (row f) c v) (length-row g ∙ sym (length-set (row f) c v ∙ length-row f)) (λ d h.
    let h' : d < 28 = rw length-row at h in
    let kf : c < length (row f) = rw length-row k in
    elim (cases_eq d c) [
      | inl same ↦ subst (λ (x : ℕ). get_or (row g) x 0 ≡ get_or (set (row f) c v) x 0) (sym same)
          (row_capped g c k ∙ (let m : min (g c) 65535 ≡ v = omega arith in m) ∙ sym (get_or-set_same (row f) c v 0 kf))
      | inr other ↦ row_capped g d h' ∙ ap (λ x. min x 65535) (o d h' other) ∙ sym (get_or-set_other (row f) c d v 0 other ∙ row_capped f d h')
    ])

pub grid_store : (n : ℕ) (f g : ℕ → ℕ → ℕ) (p c v : ℕ) → p < n → c < 28 → v ≤ 65535 → g p c ≡ v
    → ((d : ℕ) → d < 28 → d ≢ c → g p d ≡ f p d)
    → ((q d : ℕ) → q < n → d < 28 → q ≢ p → g q d ≡ f q d)
    → grid n g ≡ set (grid n f) p (set (get_or (grid n f) p []) c v)
grid_store n f g p c v h k fit e o a = ext_get_or [] (grid n g) (set (grid n f) p (set (get_or (grid n f) p []) c v)) (length_grid n g ∙ sym (length-set (grid n f) p _ ∙ length_grid n f)) (λ q l.
    let l' : q < n = rw length_grid at l in
    let hf : p < length (grid n f) = rw length_grid h in
    grid_row n g q l' ∙ elim (cases_eq q p) [
      | inl same ↦ subst (λ (x : ℕ). row (g x) ≡ get_or (set (grid n f) p (set (get_or (grid n f) p []) c v)) x []) (sym same)
          (row-set (f p) (g p) c v k fit e o ∙ ap (λ r. set r c v) (sym (grid_row n f p h)) ∙ sym (get_or-set_same (grid n f) p _ [] hf))
      | inr other ↦ row_same (f q) (g q) (λ d m. a q d l' m other) ∙ sym (get_or-set_other (grid n f) p q _ [] other ∙ grid_row n f q l')
    ])
