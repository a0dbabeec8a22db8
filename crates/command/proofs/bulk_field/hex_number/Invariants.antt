use Rattle.std.proofs.Common.{◌≡◌, ◌^◌, ◌<◌, drop}
use Rattle.command.specs.Fields.{hex_number}
use Rattle.command.proofs.bulk_field.hex_number.Given as goal

abbrev pub invariant-loop-octet : goal.invariant-loop-octet
invariant-loop-octet l =
    (l.number < 16 ^ l.octet-index) × (hex_number l.number (drop l.octet-index l.field) ≡ hex_number 0 l.field)
