use Rattle.std.proofs.Common.{◌≡◌, drop, vec_items}
use Rattle.octet_text.specs.Reading.{read_on, reading_of}
use Rattle.octet_text.proofs.text.read_characters.Given as goal

abbrev pub invariant-loop-character : goal.invariant-loop-character
invariant-loop-character l =
    read_on (reading_of l.reader) (vec_items l.octets) (drop l.character-index l.text)
    ≡ read_on (reading_of l.initial.reader) (vec_items l.initial.octets) l.text
