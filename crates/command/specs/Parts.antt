-- The parts of a bulk write behind the clock, in the order of their positions.
use Rattle.std.specs.Prelude.{◌≡◌, ℕ, ◌+◌, ◌<◌, ◌≤◌, Bool, cond, ◌&&◌, List, [], ◌∷◌, ◌++◌, map, take, drop, ◌==◌}
use Rattle.command.specs.declared.setting.Setting.{Setting}
use Rattle.command.specs.declared.parts.Part.{Part}
use Rattle.command.specs.declared.parts.Part.TheVariants.{Number, Contract, Blank}
use Rattle.command.specs.Table.{rows}

-- the rows of the settings table, that of the contract number as a part of its own, and between them the runs of F
abbrev pub listed : List Part
listed =
    map Number (take 4 rows)
    ++ (Contract ∷ map Number (take 5 (drop 5 rows))
    ++ (Blank 65 30 ∷ map Number (take 3 (drop 10 rows))
    ++ (Blank 110 5 ∷ map Number (drop 13 rows)
    ++ (Blank 145 106 ∷ []))))

unfoldable pub parts : List Part
parts = listed

-- a number is shown in two digits or in five
abbrev pub digit_count : ℕ → ℕ
digit_count width = cond (width == 2) 2 5

-- a number whose field lies in the data and has two digits or five, and whose cell lies on the page
pub record LawfulNumber (s : Setting) : Type 0 where
  pub after : 8 ≤ s.position
  pub within : s.position + s.width ≤ 251
  pub narrow : s.width ≤ 5
  pub digits : digit_count s.width ≡ s.width
  pub on_page : s.cell < 28

abbrev pub LawfulPart : Part → Type 0
LawfulPart (Number s) = LawfulNumber s
LawfulPart Contract = Unit {0}
LawfulPart (Blank p w) = (8 ≤ p) × (p + w ≤ 251)

-- where a part begins, and how many octets it has; the contract number has ten and the two digits behind it
abbrev pub begins_at : Part → ℕ
begins_at (Number s) = s.position
begins_at Contract = 28
begins_at (Blank p w) = p

abbrev pub width_of : Part → ℕ
width_of (Number s) = s.width
width_of Contract = 12
width_of (Blank p w) = w

abbrev pub widths : List Part → ℕ
widths [] = 0
widths (p ∷ ps) = width_of p + widths ps

-- each part begins where the one before it ends, the first at a position, and the last ends with position 250
abbrev pub one_behind_another : ℕ → List Part → Bool
one_behind_another position [] = position == 251
one_behind_another position (p ∷ ps) = begins_at p == position && one_behind_another (position + width_of p) ps
