-- Hexadecimal digits.
use Rattle.std.specs.Prelude.{ℕ, ◌-◌, cond, ◌&&◌, Some, None, Option, nat_le}

-- the value of a digit, if it is one: 0 to 9, A to F, a to f
abbrev pub value_of : ℕ → Option ℕ
value_of c =
    cond (nat_le 48 c && nat_le c 57) (Some (c - 48))
    (cond (nat_le 65 c && nat_le c 70) (Some (c - 55))
    (cond (nat_le 97 c && nat_le c 102) (Some (c - 87))
    None))
