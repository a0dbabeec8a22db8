use Rattle.std.proofs.Common.{Ok, Err, sym, ap, ◌∙◌}
use Rattle.std.proofs.lemmas.List.{at_drop_all}
use Rattle.std.proofs.ByRecursion.{All-get_or}
use Rattle.std.proofs.lemmas.Result.{err_from_is_err_and}
use Rattle.command.specs.Parts.{LawfulPart}
use Rattle.command.specs.Bulk.{parts_read, all_left}
use Rattle.command.proofs.PartSteps.{part_more}
use Rattle.command.proofs.bulk_write.read_parts.Goals as goal

pub read_part-requires : goal.read_part-requires
read_part-requires c = All-get_or LawfulPart c.parts-part-items.result.now _ _ c.loop-part-test.true c.parts-part-items.ensures.lawful

pub returns-in_err-read_part : goal.returns-in_err-read_part
returns-in_err-read_part c =
    let p = err_from_is_err_and c.from_residual.result c.from_residual.ensures.1 in
    rw (p.1, p.2)
    (sym (part_more c.args.content.now c.loop-part.cells c.parts-part-items.result.now c.loop-part.part-index _ (Err _) c.loop-part-test.true c.in_err-read_part.ensures)
    ∙ c.loop-part.invariant
    ∙ ap (parts_read c.args.content.now all_left) c.parts-part-items.ensures.same)

pub loop-part-preserved : goal.loop-part-preserved
loop-part-preserved c =
    sym (part_more c.args.content.now c.loop-part.cells c.parts-part-items.result.now c.loop-part.part-index _ (Ok c.read_part.new.cells) c.loop-part-test.true c.in_ok-read_part.ensures)
    ∙ c.loop-part.invariant

pub returns : goal.returns
returns c =
    sym (at_drop_all (parts_read c.args.content.now c.loop-part.cells) _ _ c.loop-part-test.false)
    ∙ c.loop-part.invariant
    ∙ ap (parts_read c.args.content.now all_left) c.parts-part-items.ensures.same
