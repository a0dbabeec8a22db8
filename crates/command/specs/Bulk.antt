-- What the data of a bulk write set, or the first fault.
use Rattle.std.specs.Prelude.{ℕ, ◌+◌, Bool, cond, ◌&&◌, ◌||◌, List, [], ◌∷◌, length, replicate, Some, None, Ok, Err, Option, Result, ◌==◌, slice_index, slice_set}
use Rattle.calendar.specs.Moment.{Moment}
use Rattle.command.specs.declared.bulk_write.BulkWrite.{BulkWrite}
use Rattle.command.specs.declared.fault.Fault.{Fault}
use Rattle.command.specs.declared.fault.Fault.TheVariants.{WrongLength, WrongOctets, WrongValue}
use Rattle.command.specs.declared.parts.Part.{Part}
use Rattle.command.specs.declared.parts.Part.TheVariants.{Number, Contract, Blank}
use Rattle.command.specs.declared.setting.Setting.{Setting}
use Rattle.std.specs.List.{list_all}
use Rattle.command.specs.Table.{contract_octet}
use Rattle.command.specs.Questions.{then, number_at}
use Rattle.command.specs.Parts.{parts}
use Rattle.command.specs.Fields.{field_at, all_f, number_field, clock_view, clock_field}

-- for each cell of a page the number that it is set to, or none where it is left as it is
abbrev pub Cells : Type 0
Cells = List (Option ℕ)

abbrev pub all_left : Cells
all_left = replicate 28 None

abbrev pub with_number : Cells → ℕ → Option ℕ → Cells
with_number cells k (Some n) = slice_set cells k (Some n)
with_number cells k None = cells

-- the cells from k on set to the octets of a text
abbrev pub with_text : Cells → ℕ → List ℕ → Cells
with_text cells k [] = cells
with_text cells k (b ∷ bs) = with_text (slice_set cells k (Some b)) (k + 1) bs

abbrev pub cell_read : List ℕ → Setting → Cells → Result Cells Fault
cell_read content s cells = then (number_field content s) (λ v. Ok (with_number cells s.cell v))

-- the two digits behind the contract number: 00, or FF too where the number is left as it is
abbrev pub tail_asked : Bool → ℕ → ℕ → Result (Unit {0}) Fault
tail_asked left high low =
    then (number_at 38 high low) (λ n. cond (n == 0 || (left && n == 255)) (Ok tt) (Err (WrongValue 38)))

abbrev pub text_read : List ℕ → Bool → ℕ → ℕ → Cells → Result Cells Fault
text_read text left high low cells =
    cond (left || list_all contract_octet text)
    (then (tail_asked left high low) (λ _. Ok (cond left cells (with_text cells 4 text))))
    (Err (WrongOctets 28))

-- the contract number, positions 28 to 37 for the cells 4 to 13, and the digits at positions 38 and 39
abbrev pub contract_read : List ℕ → Cells → Result Cells Fault
contract_read content cells =
    text_read (field_at 28 10 content) (all_f (field_at 28 10 content)) (slice_index content 30) (slice_index content 31) cells

abbrev pub blank_read : List ℕ → ℕ → ℕ → Cells → Result Cells Fault
blank_read content p w cells = cond (all_f (field_at p w content)) (Ok cells) (Err (WrongOctets p))

abbrev pub part_read : List ℕ → Part → Cells → Result Cells Fault
part_read content (Number s) cells = cell_read content s cells
part_read content Contract cells = contract_read content cells
part_read content (Blank p w) cells = blank_read content p w cells

abbrev pub parts_read : List ℕ → Cells → List Part → Result Cells Fault
parts_read content cells [] = Ok cells
parts_read content cells (p ∷ ps) = then (part_read content p cells) (λ more. parts_read content more ps)

-- what a bulk write sets, as plain values
pub record BulkView : Type 0 where
  pub clock : Option Moment
  pub cells : Cells

abbrev pub bulk_view : BulkWrite → BulkView
bulk_view w = record { clock = clock_view w.clock; cells = w.cells }

-- what the data of a bulk write set: 243 octets, the clock, then the parts in the order of positions; the first fault wins
abbrev pub bulk_of : List ℕ → Result BulkView Fault
bulk_of content =
    cond (length content == 243)
    (then (clock_field (field_at 8 12 content)) (λ clock.
    then (parts_read content all_left parts) (λ cells. Ok (record { clock = clock; cells = cells }))))
    (Err WrongLength)
