use Rattle.std.proofs.Common.{◌≡◌, ◌+◌, ◌++◌, drop}
use Rattle.arrayvec.specs.ArrayVec.{array_vec_len}
use Rattle.command.specs.Gathered.{gathered}
use Rattle.command.specs.Parts.{widths}
use Rattle.command.specs.Shown.{parts_shown}
use Rattle.command.proofs.bulk_show.show_settings.Given as goal

-- what is gathered, with what is left, is the whole, in octets and in number
abbrev pub invariant-loop-part : goal.invariant-loop-part
invariant-loop-part l =
    (gathered l.content ++ parts_shown l.page (drop l.part-index l.part-items) ≡ gathered l.initial.content ++ parts_shown l.page l.part-items)
    × (array_vec_len l.content + widths (drop l.part-index l.part-items) ≡ 243)
