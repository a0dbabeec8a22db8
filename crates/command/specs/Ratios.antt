-- The place of a ratio among those of the current transformers that are made.
use Rattle.std.specs.Prelude.{ℕ, Option, ◌==◌, position}
use Rattle.command.specs.Table.{ct_ratios}

-- places count from 0
abbrev pub ratio_place : ℕ → Option ℕ
ratio_place n = position (λ x. x == n) ct_ratios
