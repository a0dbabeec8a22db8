-- What fetching and storing come to in one memory after another.
use Rattle.std.proofs.Common.{◌≡◌, ℕ, ◌-◌, ◌<◌, ◌≤◌, Bool, cond, ltb, List, [], ◌++◌, length, get_or, take, set, Ok, Err, sym, refl, ap, ◌∙◌, inl, inr, arith}
use lib.Seq.{take-set-lt}
use Rattle.std.proofs.lemmas.List.{get_or-take, get_or_append_left, get_or-append_right, set-append_left, set-append_right}
use Rattle.std.proofs.lemmas.Bool.{lt-ltb, le-ltb, cases_lt}
use Rattle.memory.specs.declared.MemoryRefusal.TheVariants.{NoPage, NoCell}
use Rattle.memory.specs.declared.joined.Part.TheVariants.{First, Second}
use Rattle.memory.specs.Model.{answered, fetched, stored}
use Rattle.memory.specs.Joined.{one_after, Leads}
use Rattle.memory.specs.Paging.{length_one_after}
use Rattle.memory.proofs.Steps.{stored_in, stored_past}

at_first : (xs ys : List (List ℕ)) (p : ℕ) → p < 65535 → p < length xs → get_or (one_after xs ys) p [] ≡ get_or xs p []
unfolding one_after
at_first xs ys p k h = get_or-take 65535 (xs ++ ys) p [] k ∙ get_or_append_left xs ys [] p h

at_second : (xs ys : List (List ℕ)) (p : ℕ) → p < 65535 → length xs ≤ p → get_or (one_after xs ys) p [] ≡ get_or ys (p - length xs) []
unfolding one_after
at_second xs ys p k h = get_or-take 65535 (xs ++ ys) p [] k ∙ get_or-append_right xs ys (length xs) p [] refl h

set_first : (xs ys : List (List ℕ)) (p : ℕ) (page : List ℕ) → p < 65535 → p < length xs → one_after (set xs p page) ys ≡ set (one_after xs ys) p page
unfolding one_after
set_first xs ys p page k h = ap (take 65535) (sym (set-append_left xs ys p page h)) ∙ take-set-lt 65535 (xs ++ ys) p page k

set_second : (xs ys : List (List ℕ)) (p : ℕ) (page : List ℕ) → p < 65535 → length xs ≤ p → one_after xs (set ys (p - length xs) page) ≡ set (one_after xs ys) p page
unfolding one_after
set_second xs ys p page k h = ap (take 65535) (sym (set-append_right xs ys (length xs) p page refl h)) ∙ take-set-lt 65535 (xs ++ ys) p page k

ltb_same : (a b x y : ℕ) → (a < b → x < y) → (b ≤ a → y ≤ x) → ltb a b ≡ ltb x y
ltb_same a b x y f g = elim (cases_lt a b) [ inl h ↦ lt-ltb a b h ∙ sym (lt-ltb x y (f h)) | inr h ↦ le-ltb a b h ∙ sym (le-ltb x y (g h)) ]

reach_first : (xs ys : List (List ℕ)) (p : ℕ) → p < 65535 → p < length xs → ltb p (length xs) ≡ ltb p (length (one_after xs ys))
reach_first xs ys p k h = let e = length_one_after xs ys in ltb_same _ _ _ _ (λ l. omega arith) (λ l. omega arith)

reach_second : (xs ys : List (List ℕ)) (p : ℕ) → p < 65535 → length xs ≤ p → ltb (p - length xs) (length ys) ≡ ltb p (length (one_after xs ys))
reach_second xs ys p k h = let e = length_one_after xs ys in ltb_same _ _ _ _ (λ l. omega arith) (λ l. omega arith)

answered_same : {X : Type 0} (ps qs : List (List ℕ)) (p q c : ℕ) (x : X) → ltb q (length qs) ≡ ltb p (length ps) → answered qs q c x ≡ answered ps p c x
answered_same ps qs p q c x e = ap (λ (t : Bool). cond t (cond (ltb c 28) (Ok x) (Err NoCell)) (Err NoPage)) e

fetched_same : (ps qs : List (List ℕ)) (p q c : ℕ) → ltb q (length qs) ≡ ltb p (length ps) → get_or ps p [] ≡ get_or qs q [] → fetched qs q c ≡ fetched ps p c
fetched_same ps qs p q c e f = answered_same ps qs p q c _ e ∙ ap (λ r. answered ps p c (get_or r c 0)) (sym f)

stored_first : (xs ys : List (List ℕ)) (p c v : ℕ) → p < 65535 → p < length xs → one_after (stored xs p c v) ys ≡ stored (one_after xs ys) p c v
stored_first xs ys p c v k h =
    let e = length_one_after xs ys in
    let h' : p < length (one_after xs ys) = omega arith in
    elim (cases_lt c 28) [
      | inl m ↦
          ap (λ r. one_after r ys) (stored_in xs p c v h m)
          ∙ set_first xs ys p _ k h
          ∙ sym (stored_in (one_after xs ys) p c v h' m ∙ ap (λ r. set (one_after xs ys) p (set r c v)) (at_first xs ys p k h))
      | inr m ↦ simp (lt-ltb p (length xs) h, lt-ltb p (length (one_after xs ys)) h', le-ltb c 28 m)
    ]

stored_second : (xs ys : List (List ℕ)) (p c v : ℕ) → p < 65535 → length xs ≤ p → one_after xs (stored ys (p - length xs) c v) ≡ stored (one_after xs ys) p c v
stored_second xs ys p c v k h =
    let e = length_one_after xs ys in
    elim (cases_lt (p - length xs) (length ys)) [
      | inl l ↦
          let h' : p < length (one_after xs ys) = omega arith in
          elim (cases_lt c 28) [
            | inl m ↦
                ap (one_after xs) (stored_in ys (p - length xs) c v l m)
                ∙ set_second xs ys p _ k h
                ∙ sym (stored_in (one_after xs ys) p c v h' m ∙ ap (λ r. set (one_after xs ys) p (set r c v)) (at_second xs ys p k h))
            | inr m ↦ simp (lt-ltb (p - length xs) (length ys) l, lt-ltb p (length (one_after xs ys)) h', le-ltb c 28 m)
          ]
      | inr l ↦
          let h' : length (one_after xs ys) ≤ p = omega arith in
          ap (one_after xs) (stored_past ys (p - length xs) c v l) ∙ sym (stored_past (one_after xs ys) p c v h')
    ]

pub leads_first : (xs ys : List (List ℕ)) (p : ℕ) → p < 65535 → p < length xs → Leads xs ys p (Ok (First p))
leads_first xs ys p k h =
    let reach = reach_first xs ys p k h in (
      (
        λ c. fetched_same (one_after xs ys) xs p p c reach (at_first xs ys p k h),
        λ c. answered_same (one_after xs ys) xs p p c (tt {0}) reach,
      ),
      λ c v. stored_first xs ys p c v k h,
    )

pub leads_second : (xs ys : List (List ℕ)) (p q : ℕ) → p < 65535 → length xs ≤ p → q ≡ p - length xs → Leads xs ys p (Ok (Second q))
leads_second xs ys p q k h e =
    let reach = reach_second xs ys p k h in
    rw e (
      (
        λ c. fetched_same (one_after xs ys) ys p (p - length xs) c reach (at_second xs ys p k h),
        λ c. answered_same (one_after xs ys) ys p (p - length xs) c (tt {0}) reach,
      ),
      λ c v. stored_second xs ys p c v k h,
    )

pub leads_nowhere : (xs ys : List (List ℕ)) (p : ℕ) → 65535 ≤ p → Leads xs ys p (Err NoPage)
leads_nowhere xs ys p k = let e = length_one_after xs ys in omega arith
