-- Capital hexadecimal digits.
use Rattle.std.specs.Prelude.{ℕ, ◌+◌, ◌-◌, ◌*◌, ◌/◌, ◌%◌, cond, ◌&&◌, List, [], ◌∷◌, ◌++◌, Some, None, Option, nat_le, nat_lt}

-- the digit of a value below 16: '0' to '9', 'A' to 'F'
abbrev pub digit_of : ℕ → ℕ
digit_of v = cond (nat_lt v 10) (48 + v) (55 + v)

-- the value of a digit, if it is one
abbrev pub value_of : ℕ → Option ℕ
value_of d = cond (nat_le 48 d && nat_le d 57) (Some (d - 48)) (cond (nat_le 65 d && nat_le d 70) (Some (d - 55)) None)

abbrev pub paired_with : ℕ → Option ℕ → Option ℕ
paired_with a (Some b) = Some (a * 16 + b)
paired_with a None = None

abbrev pub pair_of : Option ℕ → Option ℕ → Option ℕ
pair_of (Some a) y = paired_with a y
pair_of None y = None

-- the number that two digits stand for, if both are digits
abbrev pub octet_of : ℕ → ℕ → Option ℕ
octet_of x y = pair_of (value_of x) (value_of y)

-- the two digits of a number below 256
abbrev pub two_digits : ℕ → List ℕ
two_digits n = digit_of (n / 16) ∷ digit_of (n % 16) ∷ []

-- the four digits of a number below 65,536
abbrev pub four_digits : ℕ → List ℕ
four_digits n = two_digits (n / 256) ++ two_digits (n % 256)
