-- The settings table: one row for each field of a bulk write that is a setting.
use Rattle.std.specs.Prelude.{ℕ, ◌+◌, ◌≤◌, Bool, cond, ◌&&◌, ◌||◌, List, [], ◌∷◌, ◌++◌, map, replicate, ◌==◌, nat_eq, nat_le, nat_lt, slice_index}
use Rattle.std.proofs.Math.Seq.{paste}
use Rattle.std.specs.List.{range_with_len, list_all, list_any}
use Rattle.command.specs.declared.setting.Setting.{Setting}
use Rattle.command.specs.declared.setting.Allowed.{Allowed}
use Rattle.command.specs.declared.setting.Allowed.TheVariants.{Span, CtRatio, ContractText}

-- cell, position, width, allowed values, and what each cell holds at first
abbrev pub row : ℕ → ℕ → ℕ → Allowed → ℕ → Setting
row c p w a i = record { cell = c; position = p; width = w; allowed = a; initial = i }

abbrev pub rows : List Setting
rows =
    row 0 20 2 (Span 0 3) 1
    ∷ row 1 22 2 (Span 0 3) 0
    ∷ row 2 24 2 (Span 1 2) 1
    ∷ row 3 26 2 (Span 0 1) 0
    ∷ row 4 28 10 ContractText 32
    ∷ row 14 40 5 CtRatio 1
    ∷ row 15 45 5 (Span 0 9999) 0
    ∷ row 16 50 5 (Span 1 200) 100
    ∷ row 17 55 5 (Span 1 28) 1
    ∷ row 18 60 5 (Span 0 9999) 600
    ∷ row 19 95 5 (Span 0 9999) 9999
    ∷ row 20 100 5 (Span 0 9999) 9999
    ∷ row 21 105 5 (Span 0 30) 1
    ∷ row 22 115 5 (Span 0 9999) 9999
    ∷ row 23 120 5 (Span 0 9999) 9999
    ∷ row 24 125 5 (Span 0 9999) 9999
    ∷ row 25 130 5 (Span 1 30) 1
    ∷ row 26 135 5 (Span 0 9999) 0
    ∷ row 27 140 5 (Span 0 9999) 0
    ∷ []

unfoldable pub table : List Setting
table = rows

-- how many cells a setting has: a text one for each octet, a number one
abbrev pub cell_count : Allowed → ℕ → ℕ
cell_count (Span low high) w = 1
cell_count CtRatio w = 1
cell_count ContractText w = w

abbrev pub cells_of : Setting → ℕ
cells_of r = cell_count r.allowed r.width

-- the cells of a setting lie on the page
abbrev pub Within : Setting → Type 0
Within r = r.cell + cells_of r ≤ 28

-- the cells of all rows, in their order
abbrev pub cells_in : List Setting → List ℕ
cells_in [] = []
cells_in (r ∷ rs) = range_with_len r.cell (cells_of r) ++ cells_in rs

-- a field of a bulk write: its first position and its width
pub record Field : Type 0 where
  pub position : ℕ
  pub width : ℕ

abbrev pub field : ℕ → ℕ → Field
field p w = record { position = p; width = w }

-- what a bulk write has beside settings: the clock, the two digits behind the contract number, and the runs that hold F
abbrev pub other_fields : List Field
other_fields = field 8 12 ∷ field 38 2 ∷ field 65 30 ∷ field 110 5 ∷ field 145 106 ∷ []

abbrev pub fields_of : List Setting → List Field
fields_of rs = map (λ r. field r.position r.width) rs ++ other_fields

-- how many of the fields have a position
abbrev pub covering : ℕ → List Field → ℕ
covering p [] = 0
covering p (f ∷ fs) = cond (nat_le f.position p && nat_lt p (f.position + f.width)) 1 0 + covering p fs

-- positions 8 to 250 are each in one field, and no field has others
abbrev pub covered_once : List Setting → Bool
covered_once rs =
    list_all (λ p. nat_eq (covering p (fields_of rs)) 1) (range_with_len 8 243)
    && list_all (λ f. nat_le 8 f.position && nat_le (f.position + f.width) 251) (fields_of rs)

-- the ratios of current transformers that are made
abbrev pub ct_ratios : List ℕ
ct_ratios = 1 ∷ 2 ∷ 3 ∷ 4 ∷ 5 ∷ 6 ∷ 8 ∷ 10 ∷ 12 ∷ 15 ∷ 16 ∷ 20 ∷ 24 ∷ 30 ∷ 40 ∷ 50 ∷ 60 ∷ 80 ∷ 100 ∷ 120 ∷ []

abbrev pub among : ℕ → List ℕ → Bool
among n xs = list_any (λ x. x == n) xs

-- a character of a contract number: a capital, a digit, a space or a hyphen
abbrev pub contract_octet : ℕ → Bool
contract_octet b = (nat_le 65 b && nat_le b 90) || ((nat_le 48 b && nat_le b 57) || (b == 32 || b == 45))

abbrev pub allows : Allowed → ℕ → Bool
allows (Span low high) n = nat_le low n && nat_le n high
allows CtRatio n = among n ct_ratios
allows ContractText n = contract_octet n

abbrev pub initials_allowed : List Setting → Bool
initials_allowed rs = list_all (λ r. allows r.allowed r.initial) rs

-- a page with what a setting is at first in its cells; `paste xs a ys n` is xs with the n elements of ys from place a on
abbrev pub with_initial : List ℕ → Setting → List ℕ
with_initial page r = paste page r.cell (replicate (cells_of r) r.initial) (cells_of r)

abbrev pub with_initials : List ℕ → List Setting → List ℕ
with_initials page [] = page
with_initials page (r ∷ rs) = with_initials (with_initial page r) rs

-- a page as it is at first
unfoldable pub initial_page : List ℕ
initial_page = with_initials (replicate 28 0) table

-- caution 2 is at most limit 2, caution 3 at most alert 3, and that at most limit 3
abbrev pub limits_in_order : List ℕ → Bool
limits_in_order page =
    nat_le (slice_index page 19) (slice_index page 20) && (nat_le (slice_index page 22) (slice_index page 23) && nat_le (slice_index page 23) (slice_index page 24))
