use Rattle.std.proofs.Common.{rules, ◌≡◌, ℕ, ◌-◌, ◌<◌, ◌≤◌, true, List, length, get_or, take, drop, Some, Ok, Err, ap, sym, ◌∙◌, refl, arith}
use Rattle.std.proofs.lemmas.Bool.{eq-eqb, le-ltb, cond-true, cond-false}
use Rattle.std.proofs.lemmas.List.{get_or-take, get_or-drop}
use Rattle.std.proofs.lemmas.Slice.{between_is}
use Rattle.frame.specs.declared.fault.Fault.TheVariants.{WrongChecksum}
use Rattle.frame.specs.Digits.{octet_of}
use Rattle.frame.specs.Checksum.{checksum_of}
use Rattle.frame.specs.Requests.{summed, after_verifying, asked_by, opened}
use Rattle.frame.proofs.parse.parse.Goals as goal

-- a frame that is long enough, and whose last two octets write the sum of the others
module _ (xs : List ℕ) (long : 8 ≤ length xs) (sum : octet_of (get_or xs (length xs - 2) 0) (get_or xs (length xs - 1) 0) ≡ Some (checksum_of (take (length xs - 2) xs))) where
  abbrev body : List ℕ
  body = take (length xs - 2) xs

  abbrev check : List ℕ
  check = drop (length xs - 2) xs

  summed_in : summed body check ≡ true
  summed_in =
      let high : get_or check 0 0 ≡ get_or xs (length xs - 2) 0 = get_or-drop (length xs - 2) xs 0 0 ∙ ap (λ i. get_or xs i 0) (omega arith) in
      let low : get_or check 1 0 ≡ get_or xs (length xs - 1) 0 = get_or-drop (length xs - 2) xs 1 0 ∙ ap (λ i. get_or xs i 0) (omega arith) in
      simp (high, low, sum) (eq-eqb (checksum_of body) (checksum_of body) refl)

  opened_is : opened xs ≡ Ok (asked_by body)
  opened_is = cond-false _ _ _ (le-ltb (length xs) 8 long) ∙ ap (λ v. after_verifying v body) (cond-true _ (Ok tt) (Err WrongChecksum) summed_in)

pub returns : goal.returns
returns c =
    let xs = c.args.frame.now in
    let right : c.octet.result ≡ Some c.checksum.result = search rules in
    let sum : octet_of (get_or xs (length xs - 2) 0) (get_or xs (length xs - 1) 0) ≡ Some (checksum_of (take (length xs - 2) xs)) =
    sym c.octet.ensures ∙ right ∙ ap Some c.checksum.ensures in
    let within : (i : ℕ) → i < length xs - 2 → get_or (take (length xs - 2) xs) i 0 ≡ get_or xs i 0 = λ i h. get_or-take (length xs - 2) xs i 0 h in
    rw (opened_is xs (omega arith) sum)
    (rw (between_is xs 6 (length xs - 2))
    (simp (
      within 0 (omega arith),
      within 1 (omega arith),
      within 2 (omega arith),
      within 3 (omega arith),
      within 4 (omega arith),
      within 5 (omega arith),
      c.named_by.ensures,
    )))
