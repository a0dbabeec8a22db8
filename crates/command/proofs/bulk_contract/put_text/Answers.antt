use Rattle.std.proofs.Common.{◌≡◌, ◌+◌, get_or, drop, set, Some, sym, ap, ◌∙◌, arith}
use Rattle.std.proofs.lemmas.List.{at_drop_more, at_drop_all}
use Rattle.command.specs.Bulk.{with_text}
use Rattle.command.proofs.bulk_contract.put_text.Goals as goal

pub loop-index-preserved : goal.loop-index-preserved
loop-index-preserved c =
    let i = c.loop-index.index in
    let text = c.args.text.now in
    let same : 4 + (i + 1) ≡ (4 + i) + 1 = omega arith in
    ap (λ k. with_text (set c.loop-index.cells (4 + i) (Some (get_or text i 0))) k (drop (i + 1) text)) same
    ∙ sym (at_drop_more (with_text c.loop-index.cells (4 + i)) text i 0 c.loop-index-test.true)
    ∙ c.loop-index.invariant

pub returns : goal.returns
returns c = sym (at_drop_all (with_text c.loop-index.cells (4 + c.loop-index.index)) _ _ c.loop-index-test.false) ∙ c.loop-index.invariant
