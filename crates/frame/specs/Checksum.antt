-- The checksum of a run of octets: the low eight bits of their sum.
use Rattle.std.specs.Prelude.{ℕ, ◌%◌, List, sum}

abbrev pub checksum_of : List ℕ → ℕ
checksum_of xs = sum xs % 256
