-- What a memory's pages are known to be, what storing comes to, and the steps of reading and of storing a whole page.
use Rattle.std.proofs.Common.{◌≡◌, ℕ, ◌+◌, ◌<◌, ◌≤◌, List, [], ◌∷◌, ◌++◌, length, get_or, take, drop, set, Ok, Err, Result, sym, ap, ◌∙◌, inl, inr, arith, length-set}
use Rattle.std.proofs.lemmas.List.{append_assoc, length-take-le, get_or-set_same, set-set, set_at, set_past, take_more, take_more_set, drop_more}
use Rattle.std.proofs.ByRecursion.{All-get_or}
use Rattle.std.proofs.lemmas.Bool.{lt-ltb, le-ltb, cases_lt}
use Rattle.memory.specs.declared.MemoryRefusal.{MemoryRefusal}
use Rattle.memory.specs.declared.MemoryRefusal.TheVariants.{NoPage, NoCell}
use Rattle.memory.specs.Model.{Page, Paged, answered, fetched, stored}

-- a page of a memory has 28 cells
pub full : (ps : List (List ℕ)) (p : ℕ) → Paged ps → p < length ps → length (get_or ps p []) ≡ 28
full ps p paged h = (All-get_or Page ps p [] h paged.1).0

pub stored_in : (ps : List (List ℕ)) (p c v : ℕ) → p < length ps → c < 28 → stored ps p c v ≡ set ps p (set (get_or ps p []) c v)
stored_in ps p c v h k = simp (lt-ltb p (length ps) h, lt-ltb c 28 k)

pub stored_past : (ps : List (List ℕ)) (p c v : ℕ) → length ps ≤ p → stored ps p c v ≡ ps
stored_past ps p c v h = simp (le-ltb p (length ps) h)

-- the first i cells of one page, and the rest of another
abbrev pub mixed : List ℕ → List ℕ → ℕ → List ℕ
mixed xs old i = take i xs ++ drop i old

pub mixed_more : (xs old : List ℕ) (i : ℕ) → i < length xs → i < length old → set (mixed xs old i) i (get_or xs i 0) ≡ mixed xs old (i + 1)
mixed_more xs old i h k =
    ap (λ r. set (take i xs ++ r) i (get_or xs i 0)) (drop_more old i 0 k)
    ∙ set_at (take i xs) (get_or old i 0) (drop (i + 1) old) (get_or xs i 0) i (length-take-le i xs (omega arith))
    ∙ sym (ap (λ r. r ++ drop (i + 1) old) (take_more xs i 0 h) ∙ append_assoc (take i xs) (get_or xs i 0 ∷ []) (drop (i + 1) old))

-- the page with one more cell stored; written from the later state to the earlier, so that a search meets it at the goal
pub restore_step : (ps : List (List ℕ)) (p i : ℕ) (xs : List ℕ) → Paged ps → i < 28 → length xs ≡ 28
    → set ps p (mixed xs (get_or ps p []) (i + 1)) ≡ stored (set ps p (mixed xs (get_or ps p []) i)) p i (get_or xs i 0)
restore_step ps p i xs paged k e = sym (elim (cases_lt p (length ps)) [
  | inl h ↦
      let old = get_or ps p [] in
      let h' : p < length (set ps p (mixed xs old i)) = rw length-set h in
      let whole : length old ≡ 28 = full ps p paged h in
      stored_in (set ps p (mixed xs old i)) p i (get_or xs i 0) h' k
      ∙ ap (λ r. set (set ps p (mixed xs old i)) p (set r i (get_or xs i 0))) (get_or-set_same ps p (mixed xs old i) [] h)
      ∙ set-set ps p _ _
      ∙ ap (set ps p) (mixed_more xs old i (omega arith) (omega arith))
  | inr h ↦
      let h' : length (set ps p (mixed xs (get_or ps p []) i)) ≤ p = rw length-set h in
      stored_past (set ps p (mixed xs (get_or ps p []) i)) p i (get_or xs i 0) h'
      ∙ set_past ps p _ h ∙ sym (set_past ps p _ h)
])

pub answered_in : {X : Type 0} (ps : List (List ℕ)) (p c : ℕ) (x : X) → p < length ps → c < 28 → answered ps p c x ≡ Ok x
answered_in ps p c x h k = simp (lt-ltb p (length ps) h, lt-ltb c 28 k)

-- what is answered is there
pub answered_ok : {X : Type 0} (ps : List (List ℕ)) (p c : ℕ) (x y : X) → Ok y ≡ answered ps p c x → (p < length ps) × (c < 28) × (y ≡ x)
answered_ok {X = X} ps p c x y e = elim (cases_lt p (length ps)) [
  | inl h ↦ elim (cases_lt c 28) [
    | inl k ↦ let r : ◌≡◌ {A = Result X MemoryRefusal} (Ok y) (Ok x) = e ∙ answered_in ps p c x h k in (h, k, cc)
    | inr k ↦ let r : ◌≡◌ {A = Result X MemoryRefusal} (Ok y) (Err NoCell) = e ∙ simp (lt-ltb p (length ps) h, le-ltb c 28 k) in absurd (cc)
  ]
  | inr h ↦ let r : ◌≡◌ {A = Result X MemoryRefusal} (Ok y) (Err NoPage) = e ∙ simp (le-ltb p (length ps) h) in absurd (cc)
]

pub copy_more : (xs ys : List ℕ) (i v : ℕ) → i < length xs → i < length ys → v ≡ get_or ys i 0 → take i xs ≡ take i ys → take (i + 1) (set xs i v) ≡ take (i + 1) ys
copy_more xs ys i v h k e same =
    take_more_set xs i v h ∙ ap (λ r. r ++ v ∷ []) same ∙ ap (λ x. take i ys ++ x ∷ []) e ∙ sym (take_more ys i 0 k)

pub copy_step : (ps : List (List ℕ)) (p i v : ℕ) (xs : List ℕ) → Paged ps → i < 28 → length xs ≡ 28 → Ok v ≡ fetched ps p i
    → take i xs ≡ take i (get_or ps p []) → take (i + 1) (set xs i v) ≡ take (i + 1) (get_or ps p [])
copy_step ps p i v xs paged k long e same =
    let there = answered_ok ps p i _ v e in
    let whole = full ps p paged there.0 in
    copy_more xs (get_or ps p []) i v (omega arith) (omega arith) there.2 same
