-- One turn of the loops over the octets of a field.
use Rattle.std.proofs.Common.{◌≡◌, ℕ, ◌+◌, ◌*◌, ◌^◌, ◌<◌, ◌≤◌, List, length, get_or, drop, Some, Option, sym, ap, ◌∙◌, pow-suc, add-one, arith, lit<}
use native.Mathlib.Nat.{pow-le-pow_right}
use Rattle.std.proofs.lemmas.List.{at_drop_more}
use Rattle.std.proofs.lemmas.Bool.Decides.{nat_tests}
use Rattle.frame.specs.Digits.{value_of}
use Rattle.command.specs.Fields.{hex_number, with_digit}

pub digit_small : (b d : ℕ) → Some d ≡ value_of b → d < 16
digit_small b d e = grind (arith, nat_tests)

pub number_more : (n : ℕ) (xs : List ℕ) (i : ℕ) (o : Option ℕ) → i < length xs → o ≡ value_of (get_or xs i 0) → hex_number n (drop i xs) ≡ with_digit o (λ d. hex_number (n * 16 + d) (drop (i + 1) xs))
number_more n xs i o h e =
    at_drop_more (hex_number n) xs i 0 h ∙ ap (λ o'. with_digit o' (λ d. hex_number (n * 16 + d) (drop (i + 1) xs))) (sym e)

pub power_more : (i n d : ℕ) → n < 16 ^ i → d < 16 → n * 16 + d < 16 ^ (i + 1)
power_more i n d h k = rw (add-one, pow-suc) (omega arith)

pub power_few : (i : ℕ) → i < 5 → 16 ^ i ≤ 65536
power_few i h = pow-le-pow_right {n = 16} (lit< tt) {i = i} {j = 4} (omega arith)
