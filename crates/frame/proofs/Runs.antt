-- Reception over whole runs of signals.
use Rattle.std.proofs.Common.{◌≡◌, ℕ, ◌+◌, ◌<◌, ◌≤◌, ◌⊎◌, List, [], ◌∷◌, ◌++◌, map, length, Some, None, Ok, Err, sym, refl, ap, ◌∙◌, subst, inl, inr, arith}
use Rattle.std.specs.List.{AllByRecursion}
use Rattle.std.proofs.lemmas.List.{append_assoc, append-nil, length_push}
use Rattle.std.proofs.lemmas.Bool.{cases_lt, cases_eq}
use Rattle.std.proofs.lemmas.Bool.Decides.{nat_tests}
use Rattle.frame.specs.declared.fault.Fault.TheVariants.{DamagedOctet, TooLong}
use Rattle.frame.specs.declared.signal.Signal.{Signal}
use Rattle.frame.specs.declared.signal.Signal.TheVariants.{Octet, Damaged}
use Rattle.frame.specs.Reception.{Link, idle, begun, step, at, Step, Told}
use Rattle.frame.specs.Frames.{Plain, Damage, after, told_at, Begun, FramesComeThrough, FramesAreToldAtTheirEnd, DropsAreToldAtTheirOctet}

-- the ways in which a signal can be taken
data Way (l : Link) (s : Signal) : Type 0 where
  passed : step l s ≡ at idle (Ok None) → Way l s
  began : s ≡ Octet 5 → step l s ≡ at (begun []) (Ok None) → Way l s
  broke : (ys : List ℕ) → l ≡ begun ys → Damage s → step l s ≡ at idle (Err DamagedOctet) → Way l s
  ended : (ys : List ℕ) → l ≡ begun ys → s ≡ Octet 13 → step l s ≡ at idle (Ok (Some ys)) → Way l s
  grew : (ys : List ℕ) (o : ℕ) → l ≡ begun ys → s ≡ Octet o → Plain o → length ys < 251 → step l s ≡ at (begun (ys ++ o ∷ [])) (Ok None) → Way l s
  burst : (ys : List ℕ) (o : ℕ) → l ≡ begun ys → s ≡ Octet o → Plain o → 251 ≤ length ys → step l s ≡ at idle (Err TooLong) → Way l s

way_begun : (ys : List ℕ) (o : ℕ) → o < 128 → (o ≡ 5 → ⊥) → Way (begun ys) (Octet o)
way_begun ys o h e = elim (cases_eq o 13) [
  | inl f ↦ ended ys refl (ap Octet f) (grind (arith, nat_tests))
  | inr f ↦ elim (cases_lt (length ys) 251) [
    | inl k ↦ grew ys o refl refl (h, e, f) k (grind (arith, nat_tests))
    | inr k ↦ burst ys o refl refl (h, e, f) k (grind (arith, nat_tests))
  ]
]

way_octet : (l : Link) (o : ℕ) → Way l (Octet o)
way_octet idle o = elim (cases_eq o 5) [
  | inl e ↦ began (ap Octet e) (grind (arith, nat_tests))
  | inr e ↦ passed (grind (arith, nat_tests))
]
way_octet (begun ys) o = elim (cases_lt 127 o) [
  | inl h ↦ broke ys refl h (grind (arith, nat_tests))
  | inr h ↦ elim (cases_eq o 5) [
    | inl e ↦ began (ap Octet e) (grind (arith, nat_tests))
    | inr e ↦ way_begun ys o (omega arith) e
  ]
]

way : (l : Link) (s : Signal) → Way l s
way l (Octet o) = way_octet l o
way idle Damaged = passed refl
way (begun ys) Damaged = broke ys refl tt refl

-- no link is both idle and begun
apart : {ys : List ℕ} → idle ≡ begun ys → ⊥
apart p = let z : ◌≡◌ {A = ℕ} 0 1 = cc in omega arith

same_begun : {xs ys : List ℕ} → begun xs ≡ begun ys → xs ≡ ys
same_begun e = cc

grows : (ys xs : List ℕ) → AllByRecursion Plain xs → length ys + length xs ≤ 251 → after (begun ys) (map Octet xs) ≡ begun (ys ++ xs)
grows ys [] p h = ap begun (sym (append-nil ys))
grows ys (x ∷ xs) p h =
    let plain : Plain x = p.0 in
    let one : (step (begun ys) (Octet x)).next ≡ begun (ys ++ x ∷ []) = grind (arith, nat_tests) in
    ap (λ l. after l (map Octet xs)) one
    ∙ grows (ys ++ x ∷ []) xs p.1 (omega (arith, length_push ys x))
    ∙ ap begun (append_assoc ys (x ∷ []) xs)

pub frames_come_through : FramesComeThrough
frames_come_through l xs p h = ap (λ m. step m (Octet 13)) (grows [] xs p (omega arith))

after-append : (l : Link) (ss ts : List Signal) → after l (ss ++ ts) ≡ after (after l ss) ts
after-append l [] ts = refl
after-append l (s ∷ ss) ts = after-append (step l s).next ss ts

pub collects : (ss : List Signal) (xs : List ℕ) → Begun ss xs → after idle ss ≡ begun xs
collects ss xs b =
    ap (after idle) b.ends
    ∙ after-append idle b.before (Octet 5 ∷ map Octet xs)
    ∙ grows [] xs b.plain (let k = b.few in omega arith)

-- the plain octets zs were added to a frame that was begun before
record Carried (l : Link) (ss : List Signal) (xs : List ℕ) : Type 0 where
  ys : List ℕ
  zs : List ℕ
  from : l ≡ begun ys
  all : ss ≡ map Octet zs
  joined : xs ≡ ys ++ zs
  plain : AllByRecursion Plain zs
  few : length xs ≤ 251

longer : (s : Signal) (ss : List Signal) (xs : List ℕ) → Begun ss xs → Begun (s ∷ ss) xs
longer s ss xs b = record { before = s ∷ b.before; ends = ap (λ t. s ∷ t) b.ends; plain = b.plain; few = b.few }

-- a link on which no more than 251 octets are collected
Short : Link → Type 0
Short idle = Unit {0}
Short (begun ys) = length ys ≤ 251

short_at : (l m : Link) (s : Signal) (t : Told) → step l s ≡ at m t → Short m → Short (step l s).next
short_at l m s t f h = subst (λ (u : Step). Short u.next) (sym f) h

short_next : (l : Link) (s : Signal) → Way l s → Short (step l s).next
unfolding Short
short_next l s (passed f) = short_at l idle s _ f tt
short_next l s (began g f) = short_at l (begun []) s _ f (omega arith)
short_next l s (broke ys p d f) = short_at l idle s _ f tt
short_next l s (ended ys p d f) = short_at l idle s _ f tt
short_next l s (grew ys o p g k few f) = short_at l (begun (ys ++ o ∷ [])) s _ f (omega (arith, length_push ys o))
short_next l s (burst ys o p g k few f) = short_at l idle s _ f tt

next_in : {a b : Step} → a ≡ b → a.next ≡ b.next
next_in e = ap (λ t. t.next) e

told_in : {a b : Step} → a ≡ b → a.told ≡ b.told
told_in e = ap (λ t. t.told) e

-- what was begun before a signal, or by it
after_one : (l : Link) (s : Signal) (ss : List Signal) (xs : List ℕ) → Way l s → Carried (step l s).next ss xs ⊎ Begun ss xs → Carried l (s ∷ ss) xs ⊎ Begun (s ∷ ss) xs
after_one l s ss xs w (inr b) = inr (longer s ss xs b)
after_one l s ss xs (passed f) (inl c) = absurd (apart (sym (next_in f) ∙ c.from))
after_one l s ss xs (broke ys p d f) (inl c) = absurd (apart (sym (next_in f) ∙ c.from))
after_one l s ss xs (ended ys p d f) (inl c) = absurd (apart (sym (next_in f) ∙ c.from))
after_one l s ss xs (burst ys o p g k few f) (inl c) = absurd (apart (sym (next_in f) ∙ c.from))
after_one l s ss xs (began g f) (inl c) =
    let none : [] ≡ c.ys = same_begun (sym (next_in f) ∙ c.from) in
    let whole : xs ≡ c.zs = c.joined ∙ ap (λ (t : List ℕ). t ++ c.zs) (sym none) in
    inr (record {
      before = [];
      ends = ap (λ (t : Signal). t ∷ ss) g ∙ ap (λ (t : List Signal). Octet 5 ∷ t) (c.all ∙ ap (map Octet) (sym whole));
      plain = subst (AllByRecursion Plain) (sym whole) c.plain;
      few = c.few;
    })
after_one l s ss xs (grew ys o p g k few f) (inl c) =
    let front : ys ++ o ∷ [] ≡ c.ys = same_begun (sym (next_in f) ∙ c.from) in
    inl (record {
      ys = ys;
      zs = o ∷ c.zs;
      from = p;
      all = ap (λ (t : Signal). t ∷ ss) g ∙ ap (λ (t : List Signal). Octet o ∷ t) c.all;
      joined = c.joined ∙ ap (λ (t : List ℕ). t ++ c.zs) (sym front) ∙ append_assoc ys (o ∷ []) c.zs;
      plain = (k, c.plain);
      few = c.few;
    })

came_from : (ss : List Signal) (l : Link) (xs : List ℕ) → Short l → after l ss ≡ begun xs → Carried l ss xs ⊎ Begun ss xs
unfolding Short
came_from [] l xs h e = inl (record { ys = xs; zs = []; from = e; all = refl; joined = sym (append-nil xs); plain = tt; few = subst Short e h })
came_from (s ∷ ss) l xs h e = after_one l s ss xs (way l s) (came_from ss (step l s).next xs (short_next l s (way l s)) e)

-- a frame is begun only where its ENQ and its octets have come
pub collected_from : (ss : List Signal) (xs : List ℕ) → after idle ss ≡ begun xs → Begun ss xs
unfolding Short
collected_from ss xs e = elim (came_from ss idle xs tt e) [ inl c ↦ absurd (apart c.from) | inr b ↦ b ]

clash : {X : Type 0} → ◌≡◌ {A = ℕ} 0 1 → X
clash z = absurd (let no_way : ⊥ = omega arith in no_way)

module _ (ss : List Signal) (s : Signal) where
  whole_when : (xs : List ℕ) → Way (after idle ss) s → told_at ss s ≡ Ok (Some xs) → Begun ss xs × (s ≡ Octet 13)
  whole_when xs (passed f) e = let q = told_in f in clash (cc)
  whole_when xs (began g f) e = let q = told_in f in clash (cc)
  whole_when xs (broke ys p d f) e = let q = told_in f in clash (cc)
  whole_when xs (grew ys o p g k few f) e = let q = told_in f in clash (cc)
  whole_when xs (burst ys o p g k few f) e = let q = told_in f in clash (cc)
  whole_when xs (ended ys p d f) e =
      let q = told_in f in let same : ys ≡ xs = cc in (collected_from ss xs (p ∙ ap begun same), d)

  damaged_when : Way (after idle ss) s → told_at ss s ≡ Err DamagedOctet → ((xs : List ℕ) × Begun ss xs) × Damage s
  damaged_when (passed f) e = let q = told_in f in clash (cc)
  damaged_when (began g f) e = let q = told_in f in clash (cc)
  damaged_when (ended ys p d f) e = let q = told_in f in clash (cc)
  damaged_when (grew ys o p g k few f) e = let q = told_in f in clash (cc)
  damaged_when (burst ys o p g k few f) e = let q = told_in f in clash (cc)
  damaged_when (broke ys p d f) e = ((ys, collected_from ss ys p), d)

  too_long_when : Way (after idle ss) s → told_at ss s ≡ Err TooLong → (xs : List ℕ) × (Begun ss xs × (length xs ≡ 251) × ((o : ℕ) × ((s ≡ Octet o) × Plain o)))
  too_long_when (passed f) e = let q = told_in f in clash (cc)
  too_long_when (began g f) e = let q = told_in f in clash (cc)
  too_long_when (broke ys p d f) e = let q = told_in f in clash (cc)
  too_long_when (ended ys p d f) e = let q = told_in f in clash (cc)
  too_long_when (grew ys o p g k few f) e = let q = told_in f in clash (cc)
  too_long_when (burst ys o p g k many f) e =
      let b = collected_from ss ys p in
      let full : length ys ≡ 251 = let few = b.few in omega arith in
      (ys, (b, full, (o, (g, k))))

-- what is told at damage of a frame that is begun
broken : (xs : List ℕ) (s : Signal) → Damage s → (step (begun xs) s).told ≡ Err DamagedOctet
broken xs Damaged d = refl
broken xs (Octet o) d = grind (arith, nat_tests)

pub frames_are_told_at_their_end : FramesAreToldAtTheirEnd
frames_are_told_at_their_end ss s xs = (
  whole_when ss s xs (way (after idle ss) s),
  λ b e. ap (λ t. (step (after idle ss) t).told) e ∙ ap (λ l. (step l (Octet 13)).told) (collects ss xs b),
)

pub drops_are_told_at_their_octet : DropsAreToldAtTheirOctet
drops_are_told_at_their_octet ss s = (
  damaged_when ss s (way (after idle ss) s),
  λ b d. ap (λ l. (step l s).told) (collects ss b.0 b.1) ∙ broken b.0 s d,
  too_long_when ss s (way (after idle ss) s),
  λ xs o b full plain e.
      ap (λ t. (step (after idle ss) t).told) e ∙ ap (λ l. (step l (Octet o)).told) (collects ss xs b)
      ∙ (let z : (step (begun xs) (Octet o)).told ≡ Err TooLong = grind (arith, nat_tests) in z),
)
