-- Digits and answers read back.
use Rattle.std.proofs.Common.{◌≡◌, ℕ, ◌+◌, ◌-◌, ◌/◌, ◌%◌, ◌<◌, true, List, [], ◌∷◌, ◌++◌, length, get_or, take, Some, None, refl, ap, ◌∙◌, arith}
use Rattle.std.proofs.lemmas.Bool.Decides.{nat_tests}
use Rattle.std.proofs.lemmas.List.{append_assoc, length-append, take-append-le, take_all, drop-append-le, drop_all, get_or_push, length_push}
use Rattle.std.proofs.lemmas.Bool.{eq-eqb, le-leb, and_from, cond-true}
use Rattle.std.specs.List.{between}
use Rattle.frame.specs.Digits.{digit_of, value_of, octet_of, two_digits}
use Rattle.frame.specs.Checksum.{checksum_of}
use Rattle.frame.specs.Requests.{says, summed}
use Rattle.frame.specs.Answers.{body_of, answer_of, answer_with, parts_of, framed, read_body, read_back}

pub value_of_digit : (v : ℕ) → v < 16 → value_of (digit_of v) ≡ Some v
value_of_digit v h = grind (arith, nat_tests)

pub octet_of-digits : (n : ℕ) → n < 256 → octet_of (digit_of (n / 16)) (digit_of (n % 16)) ≡ Some n
octet_of-digits n h =
    let a = value_of_digit (n / 16) (omega arith) in
    let b = value_of_digit (n % 16) (omega arith) in
    simp (a, b) (ap Some (omega arith))

-- a part of a list with a part before and a part behind it
pub middle : {X : Type 0} (pre mid post : List X) (i j : ℕ) → length pre ≡ i → i + length mid ≡ j → between i j (pre ++ (mid ++ post)) ≡ mid
middle pre mid post i j p q =
    ap (take (j - i)) (drop-append-le i pre (mid ++ post) (omega arith) ∙ ap (λ (t : List _). t ++ (mid ++ post)) (drop_all i pre (omega arith)))
    ∙ take-append-le (j - i) mid post (omega arith)
    ∙ take_all (j - i) mid (omega arith)

module _ (address command content : List ℕ) (four : length address ≡ 4) (two : length command ≡ 2) where
  abbrev body : List ℕ
  body = body_of address command content

  pub length-body : length body ≡ 7 + length content
  length-body = simp length-append (omega arith)

  pub length-answer : length (answer_of address command content) ≡ 11 + length content
  length-answer = simp length-append (omega arith)

  parted : body ≡ address ++ (command ++ (content ++ 3 ∷ []))
  parted = append_assoc (address ++ command) content (3 ∷ []) ∙ append_assoc address command (content ++ 3 ∷ [])

  address_in : take 4 body ≡ address
  address_in = ap (take 4) parted ∙ middle [] address (command ++ (content ++ 3 ∷ [])) 0 4 refl (omega arith)

  command_in : between 4 6 body ≡ command
  command_in = ap (between 4 6) parted ∙ middle address command (content ++ 3 ∷ []) 4 6 four (omega arith)

  content_in : between 6 (length body - 1) body ≡ content
  content_in =
      let front : length (address ++ command) ≡ 6 = simp length-append (omega arith) in
      ap (between 6 (length body - 1)) (append_assoc (address ++ command) content (3 ∷ []))
      ∙ middle (address ++ command) content (3 ∷ []) 6 (length body - 1) front (omega (arith, length-body))

  parts_in : parts_of body ≡ answer_with address command content
  parts_in = simp (address_in, command_in, content_in)

  abbrev check : List ℕ
  check = two_digits (checksum_of body)

  abbrev answer : List ℕ
  answer = answer_of address command content

  sealed_in : answer ≡ 2 ∷ (body ++ (check ++ 13 ∷ []))
  sealed_in = ap (λ (t : List ℕ). 2 ∷ t) (append_assoc body check (13 ∷ []))

  body_in : between 1 (length answer - 3) answer ≡ body
  body_in =
      ap (between 1 (length answer - 3)) sealed_in
      ∙ middle (2 ∷ []) body (check ++ 13 ∷ []) 1 (length answer - 3) refl (omega (arith, length-body, length-answer))

  check_in : between (length answer - 3) (length answer - 1) answer ≡ check
  check_in =
      ap (between (length answer - 3) (length answer - 1)) sealed_in
      ∙ middle (2 ∷ body) check (13 ∷ []) (length answer - 3) (length answer - 1) (omega (arith, length-body, length-answer)) (omega (arith, length-body, length-answer))

  etx_in : get_or body (length body - 1) 0 ≡ 3
  etx_in = get_or_push (address ++ command ++ content) 3 0 (length body - 1) (omega (arith, length_push (address ++ command ++ content) 3))

  cr_in : get_or answer (length answer - 1) 0 ≡ 13
  cr_in = get_or_push (2 ∷ (body ++ check)) 13 0 (length answer - 1) (omega (arith, length_push (2 ∷ (body ++ check)) 13))

  sum_in : summed body check ≡ true
  sum_in =
      ap (λ o. says o (checksum_of body)) (octet_of-digits (checksum_of body) (omega arith)) ∙ eq-eqb (checksum_of body) (checksum_of body) refl

  framed_in : framed answer body check ≡ true
  framed_in =
      and_from _ _ (le-leb 7 (length body) (omega (arith, length-body))) (and_from _ _ (eq-eqb _ _ etx_in) (and_from _ _ sum_in (eq-eqb _ _ cr_in)))

  -- an answer is read back as the parts that it was written with
  pub reads_back : read_back answer ≡ Some (answer_with address command content)
  reads_back =
      ap (λ b. read_body answer b (between (length answer - 3) (length answer - 1) answer)) body_in
      ∙ ap (read_body answer body) check_in
      ∙ cond-true (framed answer body check) (Some (parts_of body)) None framed_in
      ∙ ap Some parts_in
