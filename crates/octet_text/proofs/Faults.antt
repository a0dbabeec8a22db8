-- Where a fault stands.
use Rattle.std.proofs.Common.{◌≡◌, ℕ, ◌+◌, ◌^◌, ◌<◌, ◌≤◌, Bool, true, false, cond, eqb, List, [], ◌∷◌, ◌++◌, length, is_ok, Some, None, Ok, Err, Option, refl, ap, ◌∙◌, subst, arith}
use Rattle.std.specs.Option.{option_to_list}
use Rattle.std.proofs.lemmas.List.{append_assoc, length_push}
use Rattle.std.proofs.lemmas.Bool.Decides.{nat_tests}
use Rattle.octet_text.specs.declared.fault.TextFault.{TextFault}
use Rattle.octet_text.specs.declared.fault.TextProblem.TheVariants.{NotADigit, HalfAPair}
use Rattle.octet_text.specs.declared.position.Position.{Position}
use Rattle.octet_text.specs.declared.hear.Turn.{Turn}
use Rattle.octet_text.specs.declared.reader.State.{State}
use Rattle.octet_text.specs.declared.reader.State.TheVariants.{BetweenPairs, InsidePair, InComment}
use Rattle.octet_text.specs.Positions.{newline, first_position, position_behind, fault_at, counted}
use Rattle.octet_text.specs.Promises.{newlines, behind_last_newline, Stands, FaultsStandWhereTold}
use Rattle.octet_text.specs.Reading.{start, reading, progress, heard, moved, and_then, read_on, concluded}
use Rattle.octet_text.proofs.Grammar.{resume}
use Rattle.octet_text.proofs.Steps.{read_on-append}

newlines-push : (xs : List ℕ) (c : ℕ) → newlines (xs ++ c ∷ []) ≡ newlines xs + cond (eqb c newline) 1 0
newlines-push [] c = omega arith
newlines-push (x ∷ xs) c = omega (arith, newlines-push xs c)

newlines_few : (xs : List ℕ) → newlines xs ≤ length xs
newlines_few [] = omega arith
newlines_few (x ∷ xs) = let h = newlines_few xs in grind (arith, nat_tests)

behind_push : (xs : List ℕ) (c : ℕ) → behind_last_newline (xs ++ c ∷ []) ≡ cond (eqb c newline) [] (behind_last_newline xs ++ c ∷ [])
behind_push [] c = grind (arith, nat_tests)
behind_push (x ∷ xs) c = let h = behind_push xs c in let n = newlines-push xs c in grind (arith, nat_tests)

behind_few : (xs : List ℕ) → length (behind_last_newline xs) ≤ length xs
behind_few [] = omega arith
behind_few (x ∷ xs) = let h = behind_few xs in grind (arith, nat_tests)

-- the place just behind a text
place : List ℕ → Position
place xs = record { line = newlines xs + 1; column = length (behind_last_newline xs) + 1 }

below_stop : (n : ℕ) → n + 1 < 2 ^ 64 → counted n ≡ n + 1
below_stop n h = omega arith

same_place : (l m j k : ℕ) → l ≡ m → j ≡ k → ◌≡◌ {A = Position} (record { line = l; column = j }) (record { line = m; column = k })
same_place l m j k e f = cc

placed : (b : Bool) (xs ys : List ℕ) (c : ℕ) → length xs + 2 < 2 ^ 64
    → newlines ys ≡ newlines xs + cond b 1 0
    → behind_last_newline ys ≡ cond b [] (behind_last_newline xs ++ c ∷ [])
    → ◌≡◌ {A = Position} (cond b (record { line = counted (newlines xs + 1); column = 1 }) (record { line = newlines xs + 1; column = counted (length (behind_last_newline xs) + 1) })) (place ys)
unfolding place
placed true xs ys c h n b =
    same_place _ _ _ _
    (below_stop (newlines xs + 1) (omega (arith, newlines_few xs)) ∙ omega arith)
    (omega (arith, ap length b))
placed false xs ys c h n b =
    same_place _ _ _ _
    (omega arith)
    (below_stop (length (behind_last_newline xs) + 1) (omega (arith, behind_few xs)) ∙ omega (arith, ap length b, length_push (behind_last_newline xs) c))

place_push : (xs : List ℕ) (c : ℕ) → length xs + 2 < 2 ^ 64 → position_behind (place xs) c ≡ place (xs ++ c ∷ [])
unfolding place
place_push xs c h = placed (eqb c newline) xs (xs ++ c ∷ []) c h (newlines-push xs c) (behind_push xs c)

-- the reader behind one more character
read_push : (before : List ℕ) (s : State) (p : Position) (octets : List ℕ) (c : ℕ) (o : Option Turn)
    → read_on start [] before ≡ Ok (progress (reading s p) octets)
    → heard s c ≡ o
    → read_on start [] (before ++ c ∷ []) ≡ and_then (moved p c o) (λ n. read_on n.next (octets ++ option_to_list n.octet) [])
read_push before s p octets c o done h =
    read_on-append start [] before (c ∷ [])
    ∙ ap (λ g. and_then g (λ q. read_on q.reader q.octets (c ∷ []))) done
    ∙ ap (λ g. and_then (moved p c g) (λ n. read_on n.next (octets ++ option_to_list n.octet) [])) h

stands_at_end : (before : List ℕ) (s : State) (p : Position) (octets : List ℕ) (f : TextFault)
    → p ≡ place before
    → read_on start [] before ≡ Ok (progress (reading s p) octets)
    → resume s p octets [] ≡ Err f
    → Stands (before ++ []) f
unfolding place
stands_at_end before BetweenPairs p octets f at done e = let z : ◌≡◌ {A = ℕ} 0 1 = cc in absurd (omega arith)
stands_at_end before (InsidePair v) p octets f at done e =
    let is : fault_at p HalfAPair ≡ f = cc in
    subst (λ (g : TextFault). Stands (before ++ []) g) is
    (record {
      before = before;
      rest = [];
      whole = refl;
      accepted = ap is_ok done;
      wrong = refl;
      line_of_it = ap (λ (q : Position). q.line) at;
      column_of_it = ap (λ (q : Position). q.column) at;
    })
stands_at_end before InComment p octets f at done e = let z : ◌≡◌ {A = ℕ} 0 1 = cc in absurd (omega arith)

stands_at_character : (c : ℕ) (cs before : List ℕ) (s : State) (p : Position) (octets : List ℕ)
    → p ≡ place before
    → read_on start [] before ≡ Ok (progress (reading s p) octets)
    → heard s c ≡ None
    → Stands (before ++ c ∷ cs) (fault_at p NotADigit)
unfolding place
stands_at_character c cs before s p octets at done h =
    record {
      before = before;
      rest = c ∷ cs;
      whole = refl;
      accepted = ap is_ok done;
      wrong = (c, cs, refl, ap is_ok (read_push before s p octets c None done h));
      line_of_it = ap (λ (q : Position). q.line) at;
      column_of_it = ap (λ (q : Position). q.column) at;
    }

-- a fault in a text behind the part `before`, at whose end the reader is in the state s
stands : (text before : List ℕ) (s : State) (p : Position) (octets : List ℕ) (f : TextFault) → length before + length text + 1 < 2 ^ 64
    → p ≡ place before
    → read_on start [] before ≡ Ok (progress (reading s p) octets)
    → resume s p octets text ≡ Err f
    → Stands (before ++ text) f
stands [] before s p octets f short at done e = stands_at_end before s p octets f at done e
stands (c ∷ cs) before s p octets f short at done e =
    elim (heard s c) as (λ o. heard s c ≡ o → and_then (and_then (moved p c o) (λ n. read_on n.next (octets ++ option_to_list n.octet) cs)) concluded ≡ Err f → Stands (before ++ c ∷ cs) f) [
      | None ↦ λ h k.
          let is : fault_at p NotADigit ≡ f = cc in
          subst (λ (g : TextFault). Stands (before ++ c ∷ cs) g) is (stands_at_character c cs before s p octets at done h)
      | Some t ↦ λ h k.
          subst (λ (text : List ℕ). Stands text f) (append_assoc before (c ∷ []) cs)
          (stands cs (before ++ c ∷ []) t.state (position_behind p c) (octets ++ option_to_list t.octet) f
          (omega (arith, length_push before c))
          (ap (λ q. position_behind q c) at ∙ place_push before c (omega arith))
          (read_push before s p octets c (Some t) done h)
          k)
    ]
    refl e

pub faults_stand_where_told : FaultsStandWhereTold
unfolding place
faults_stand_where_told text f short e = stands text [] BetweenPairs first_position [] f (omega arith) refl refl e
