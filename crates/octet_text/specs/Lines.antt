-- Lines of octets.
use Rattle.std.specs.Prelude.{ℕ, List, [], ◌∷◌, ◌++◌}
use Rattle.std.specs.List.{flat_map}
use Rattle.frame.specs.Digits.{two_digits}
use Rattle.octet_text.specs.Positions.{newline}

-- the character between two pairs
abbrev pub space : ℕ
space = 32

-- the octets, each behind a space
abbrev pub spaced : List ℕ → List ℕ
spaced xs = flat_map (λ x. space ∷ two_digits x) xs

-- the octets in pairs of digits, with one space between
abbrev pub pairs_of : List ℕ → List ℕ
pairs_of [] = []
pairs_of (x ∷ xs) = two_digits x ++ spaced xs

-- the line of the octets
abbrev pub line_of : List ℕ → List ℕ
line_of xs = pairs_of xs ++ newline ∷ []
