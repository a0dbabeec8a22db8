-- Places in a text.
use Rattle.std.specs.Prelude.{ℕ, ◌+◌, ◌-◌, ◌^◌, min, cond, ◌==◌}
use Rattle.octet_text.specs.declared.fault.TextFault.{TextFault}
use Rattle.octet_text.specs.declared.fault.TextProblem.{TextProblem}
use Rattle.octet_text.specs.declared.position.Position.{Position}

-- LF, which begins the next line
abbrev pub newline : ℕ
newline = 10

-- one more, in a counter that stops at its largest value
abbrev pub counted : ℕ → ℕ
counted n = min (n + 1) (2 ^ 64 - 1)

-- the place of a text's first character
abbrev pub first_position : Position
first_position = record { line = 1; column = 1 }

-- the place just behind the character c, which stands at p
abbrev pub position_behind : Position → ℕ → Position
position_behind p c =
    cond (c == newline)
    (record { line = counted p.line; column = 1 })
    (record { line = p.line; column = counted p.column })

-- a fault at the place p
abbrev pub fault_at : Position → TextProblem → TextFault
fault_at p problem = record { line = p.line; column = p.column; problem = problem }
