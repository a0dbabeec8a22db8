use Rattle.std.proofs.Common.{ℕ, List, ◌++◌, ap, ◌∙◌, arith}
use Rattle.std.proofs.ByRecursion.{All-get_or}
use Rattle.calendar.specs.Moment.{moment_of}
use Rattle.calendar.specs.Digits.{digits_of}
use Rattle.arrayvec.specs.ArrayVec.{array_vec_len}
use Rattle.command.specs.declared.parts.Part.{Part}
use Rattle.command.specs.Parts.{LawfulPart}
use Rattle.command.specs.Shown.{parts_shown}
use Rattle.command.proofs.ShowSteps.{shown_more, shown_all, room_for, widths_more, part_longer}
use Rattle.command.proofs.bulk_show.show_settings.Goals as goal

pub push_part-requires : goal.push_part-requires
push_part-requires c = record {
  room = room_for c.parts-part-items.result.now c.loop-part.part-index _ (array_vec_len c.loop-part.content) 243 c.loop-part-test.true (omega arith) c.loop-part.invariant.1;
  lawful = All-get_or LawfulPart c.parts-part-items.result.now _ _ c.loop-part-test.true c.parts-part-items.ensures.lawful;
}

pub loop-part-preserved : goal.loop-part-preserved
loop-part-preserved c = (
  shown_more c.args.page.now c.parts-part-items.result.now c.loop-part.part-index _ _ _ _ c.loop-part-test.true c.loop-part.invariant.0 c.push_part.ensures,
  widths_more c.parts-part-items.result.now c.loop-part.part-index _ (array_vec_len c.loop-part.content) _ 243 c.loop-part-test.true c.loop-part.invariant.1 (part_longer c.args.page.now c.parts-part-items.result.now c.loop-part.part-index _ _ _ c.told-page c.loop-part-test.true c.parts-part-items.ensures.lawful c.push_part.ensures),
)

pub returns : goal.returns
returns c =
    let page = c.args.page.now in
    let items = c.parts-part-items.result.now in
    shown_all page items c.loop-part.part-index _ _ c.loop-part-test.false c.loop-part.invariant.0
    ∙ ap (λ (xs : List ℕ). xs ++ parts_shown page items)
    (c.push_octets.ensures ∙ ap (λ (xs : List ℕ). xs ++ c.digits.result) c.new-content.ensures ∙ c.digits.ensures)
    ∙ ap (λ (ps : List Part). digits_of (moment_of c.args.clock) ++ parts_shown page ps) c.parts-part-items.ensures.same
