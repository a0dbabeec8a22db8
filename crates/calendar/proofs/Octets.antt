-- What is written in digits, and what is read from them.
use Rattle.std.proofs.Common.{◌≡◌, ◌≢◌, ℕ, zero, suc, ◌+◌, ◌-◌, ◌*◌, ◌/◌, ◌%◌, ◌<◌, ◌≤◌, true, false, ◌&&◌, eqb, List, [], ◌∷◌, length, get_or, drop, Some, None, Ok, Err, Option, sym, refl, ap, ◌∙◌, arith}
use Rattle.std.specs.Option.{option_map, ok_or}
use Rattle.std.specs.Result.{result_map_both}
use Rattle.std.specs.Simd.{first_chunks}
use Rattle.std.proofs.lemmas.Bool.{and_parts, and_from, eqb-true, cond-true, cond-false}
use Rattle.std.proofs.lemmas.Bool.Decides.{nat_tests}
use Rattle.std.proofs.lemmas.Grind.{common_steps}
use Rattle.std.proofs.lemmas.List.{get_or-drop}
use Rattle.std.proofs.lemmas.Slice.Eq.{text_from_reads}
use Rattle.calendar.specs.declared.date_time.DateTime.{DateTime}
use Rattle.calendar.specs.declared.time_fault.TimeFault.{TimeFault}
use Rattle.calendar.specs.declared.time_fault.TimeFault.TheVariants.{NotDigits, NoSuchTime}
use Rattle.calendar.specs.Calendar.{days_of_month}
use Rattle.calendar.specs.Moment.{Moment, moment, moment_of, exists, existing}
use Rattle.calendar.specs.Digits.{digits_of, is_digit, all_digits, twelve_digits, number_of, moment_at, found, read_of, ReadsWhatWasWritten}
use Rattle.calendar.proofs.Moments.{exists_parts}

days_few : (year month : ℕ) → days_of_month year month ≤ 31
days_few year month = grind (arith, nat_tests)

digit_in : (cs : List ℕ) (k : ℕ) → all_digits cs ≡ true → k < length cs → is_digit (get_or cs k 0) ≡ true
digit_in [] k e h = absurd (omega arith)
digit_in (c ∷ cs) zero e h = (and_parts (is_digit c) (all_digits cs) e).0
digit_in (c ∷ cs) (suc k) e h = digit_in cs k (and_parts (is_digit c) (all_digits cs) e).1 (omega arith)

-- the digit at k of twelve
pub digit_at : (cs : List ℕ) (k : ℕ) → twelve_digits cs ≡ true → k < 12 → is_digit (get_or cs k 0) ≡ true
digit_at cs k e h =
    let both = and_parts (eqb (length cs) 12) (all_digits cs) e in
    digit_in cs k both.1 (omega (arith, eqb-true (length cs) 12 both.0))

number_from : (tens ones : ℕ) → is_digit tens ≡ true → is_digit ones ≡ true → number_of tens ones ≡ Ok ((tens - 48) * 10 + (ones - 48))
unfolding number_of
number_from tens ones t o =
    cond-true (is_digit tens && is_digit ones) (Ok ((tens - 48) * 10 + (ones - 48))) (Err NotDigits) (and_from _ _ t o)

number_parts : (tens ones n : ℕ) → number_of tens ones ≡ Ok n → (is_digit tens ≡ true) × (is_digit ones ≡ true) × (n ≡ (tens - 48) * 10 + (ones - 48))
unfolding number_of
number_parts tens ones n e = (grind (arith, nat_tests), grind (arith, nat_tests), grind (arith, nat_tests))

fault_of : (tens ones : ℕ) (e : TimeFault) → number_of tens ones ≡ Err e → e ≡ NotDigits
unfolding number_of
fault_of tens ones e h = grind (arith, nat_tests)

pub read_digits : (cs : List ℕ) → twelve_digits cs ≡ true → read_of cs ≡ found (existing (moment_at cs))
unfolding read_of
read_digits cs e = cond-true (twelve_digits cs) (found (existing (moment_at cs))) (Err NotDigits) e

pub read_other : (cs : List ℕ) → twelve_digits cs ≡ false → read_of cs ≡ Err NotDigits
unfolding read_of
read_other cs e = cond-false (twelve_digits cs) (found (existing (moment_at cs))) (Err NotDigits) e

-- two octets that are no number
refused : (cs : List ℕ) (j k : ℕ) (e : TimeFault) → number_of (get_or cs j 0) (get_or cs k 0) ≡ Err e → j < 12 → k < 12 → read_of cs ≡ Err e
refused cs j k e h lj lk =
    elim (twelve_digits cs) as (λ t. twelve_digits cs ≡ t → read_of cs ≡ Err e) [
      | true ↦ λ t. cc (h, number_from (get_or cs j 0) (get_or cs k 0) (digit_at cs j t lj) (digit_at cs k t lk))
      | false ↦ λ t. read_other cs t ∙ ap Err (sym (fault_of _ _ e h))
    ]
    refl

pub other_length : (cs : List ℕ) → length cs ≢ 12 → read_of cs ≡ Err NotDigits
other_length cs h = read_other cs (grind (arith, nat_tests))

pair_digits : (a b n : ℕ) (cs : List ℕ) → number_of a b ≡ Ok n → all_digits cs ≡ true → all_digits (a ∷ b ∷ cs) ≡ true
pair_digits a b n cs e h = let p = number_parts a b n e in and_from _ _ p.0 (and_from _ _ p.1 h)

-- six numbers
six_read : (cs : List ℕ) (y mo d h mi s : ℕ) → length cs ≡ 12
    → number_of (get_or cs 0 0) (get_or cs 1 0) ≡ Ok y
    → number_of (get_or cs 2 0) (get_or cs 3 0) ≡ Ok mo
    → number_of (get_or cs 4 0) (get_or cs 5 0) ≡ Ok d
    → number_of (get_or cs 6 0) (get_or cs 7 0) ≡ Ok h
    → number_of (get_or cs 8 0) (get_or cs 9 0) ≡ Ok mi
    → number_of (get_or cs 10 0) (get_or cs 11 0) ≡ Ok s
    → read_of cs ≡ found (existing (moment y mo d h mi s))
six_read cs y mo d h mi s len e0 e1 e2 e3 e4 e5 =
    let at : ℕ → ℕ = λ k. get_or cs k 0 in
    let seconds : List ℕ = at 10 ∷ at 11 ∷ [] in
    let minutes : List ℕ = at 8 ∷ at 9 ∷ seconds in
    let hours : List ℕ = at 6 ∷ at 7 ∷ minutes in
    let days : List ℕ = at 4 ∷ at 5 ∷ hours in
    let months : List ℕ = at 2 ∷ at 3 ∷ days in
    let literal : List ℕ = at 0 ∷ at 1 ∷ months in
    let same : cs ≡ literal = text_from_reads cs literal len (refl, (refl, (refl, (refl, (refl, (refl, (refl, (refl, (refl, (refl, (refl, (refl, tt)))))))))))) in
    let digits : all_digits literal ≡ true =
    pair_digits _ _ _ months e0
    (pair_digits _ _ _ days e1
    (pair_digits _ _ _ hours e2
    (pair_digits _ _ _ minutes e3 (pair_digits _ _ _ seconds e4 (pair_digits _ _ _ [] e5 refl))))) in
    let good : all_digits cs ≡ true = ap all_digits same ∙ digits in
    let all : twelve_digits cs ≡ true = and_from (eqb (length cs) 12) (all_digits cs) (grind (arith, nat_tests)) good in
    let p0 = (number_parts _ _ _ e0).2 in
    let p1 = (number_parts _ _ _ e1).2 in
    let p2 = (number_parts _ _ _ e2).2 in
    let p3 = (number_parts _ _ _ e3).2 in
    let p4 = (number_parts _ _ _ e4).2 in
    let p5 = (number_parts _ _ _ e5).2 in
    let m : moment_at cs ≡ moment y mo d h mi s = cc in
    read_digits cs all ∙ ap (λ (n : Moment). found (existing n)) m

-- a time that is found, or not
pub found_time : (o : Option DateTime) → result_map_both moment_of (λ e. e) (ok_or o NoSuchTime) ≡ found (option_map moment_of o)
found_time None = refl
found_time (Some t) = refl

number_back : (n : ℕ) → n < 100 → number_of (48 + n / 10) (48 + n % 10) ≡ Ok n
number_back n h =
    let same : (48 + n / 10 - 48) * 10 + (48 + n % 10 - 48) ≡ n = omega arith in
    number_from (48 + n / 10) (48 + n % 10) (grind (arith, nat_tests)) (grind (arith, nat_tests)) ∙ ap Ok same

pub reads_back : ReadsWhatWasWritten
unfolding digits_of
reads_back m e =
    let x = exists_parts m e in
    let short : m.day < 100 = omega (arith, x.to_last, days_few m.year m.month) in
    six_read (digits_of m) m.year m.month m.day m.hour m.minute m.second refl
    (number_back m.year (omega arith)) (number_back m.month (omega arith)) (number_back m.day short)
    (number_back m.hour (omega arith)) (number_back m.minute (omega arith)) (number_back m.second (omega arith))
    ∙ ap found (cond-true (exists m) (Some m) None e)

-- the octets of the pair at k
pair_at : (cs : List ℕ) (count k : ℕ) → k < count → (get_or (get_or (first_chunks 2 count cs) k []) 0 0 ≡ get_or cs (k * 2) 0) × (get_or (get_or (first_chunks 2 count cs) k []) 1 0 ≡ get_or cs (k * 2 + 1) 0)
pair_at cs zero k h = absurd (omega arith)
pair_at cs (suc count) zero h = (grind (arith, common_steps), grind (arith, common_steps))
pair_at cs (suc count) (suc k) h =
    let p = pair_at (drop 2 cs) count k (omega arith) in
    let up : 2 + k * 2 ≡ suc k * 2 = omega arith in (
      p.0 ∙ get_or-drop 2 cs (k * 2) 0 ∙ ap (λ (i : ℕ). get_or cs i 0) up,
      p.1 ∙ get_or-drop 2 cs (k * 2 + 1) 0 ∙ ap (λ (i : ℕ). get_or cs i 0) (omega arith),
    )

pair_number : (cs : List ℕ) (pairs : List (List ℕ)) (k : ℕ)
    → pairs ≡ first_chunks 2 (length cs / 2) cs
    → length cs ≡ 12
    → k < 6
    → number_of (get_or (get_or pairs k []) 0 0) (get_or (get_or pairs k []) 1 0) ≡ number_of (get_or cs (k * 2) 0) (get_or cs (k * 2 + 1) 0)
pair_number cs pairs k is len l =
    let p = pair_at cs (length cs / 2) k (omega arith) in
    let a : get_or (get_or pairs k []) 0 0 ≡ get_or cs (k * 2) 0 = rw is p.0 in
    let b : get_or (get_or pairs k []) 1 0 ≡ get_or cs (k * 2 + 1) 0 = rw is p.1 in
    cc

-- a pair that is no number
pub pair_refused : (cs : List ℕ) (pairs : List (List ℕ)) (k : ℕ) (e : TimeFault)
    → number_of (get_or (get_or pairs k []) 0 0) (get_or (get_or pairs k []) 1 0) ≡ Err e
    → pairs ≡ first_chunks 2 (length cs / 2) cs
    → length cs ≡ 12
    → k < 6
    → read_of cs ≡ Err e
pair_refused cs pairs k e h is len l =
    refused cs (k * 2) (k * 2 + 1) e (sym (pair_number cs pairs k is len l) ∙ h) (omega arith) (omega arith)

pub six_pairs : (cs : List ℕ) (pairs : List (List ℕ)) (y mo d h mi s : ℕ)
    → pairs ≡ first_chunks 2 (length cs / 2) cs
    → length cs ≡ 12
    → number_of (get_or (get_or pairs 0 []) 0 0) (get_or (get_or pairs 0 []) 1 0) ≡ Ok y
    → number_of (get_or (get_or pairs 1 []) 0 0) (get_or (get_or pairs 1 []) 1 0) ≡ Ok mo
    → number_of (get_or (get_or pairs 2 []) 0 0) (get_or (get_or pairs 2 []) 1 0) ≡ Ok d
    → number_of (get_or (get_or pairs 3 []) 0 0) (get_or (get_or pairs 3 []) 1 0) ≡ Ok h
    → number_of (get_or (get_or pairs 4 []) 0 0) (get_or (get_or pairs 4 []) 1 0) ≡ Ok mi
    → number_of (get_or (get_or pairs 5 []) 0 0) (get_or (get_or pairs 5 []) 1 0) ≡ Ok s
    → read_of cs ≡ found (existing (moment y mo d h mi s))
six_pairs cs pairs y mo d h mi s is len e0 e1 e2 e3 e4 e5 =
    let at : (k n : ℕ) → k < 6 → number_of (get_or (get_or pairs k []) 0 0) (get_or (get_or pairs k []) 1 0) ≡ Ok n → number_of (get_or cs (k * 2) 0) (get_or cs (k * 2 + 1) 0) ≡ Ok n =
    λ k n l e. sym (pair_number cs pairs k is len l) ∙ e in
    six_read cs y mo d h mi s len (at 0 y (omega arith) e0) (at 1 mo (omega arith) e1) (at 2 d (omega arith) e2) (at 3 h (omega arith) e3) (at 4 mi (omega arith) e4) (at 5 s (omega arith) e5)

pub ruleset reading = (pair_refused, other_length, six_pairs, found_time, reads_back)
