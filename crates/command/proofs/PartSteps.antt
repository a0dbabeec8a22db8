-- One turn of the loop over the parts of a bulk write.
use Rattle.std.proofs.Common.{◌≡◌, ℕ, ◌+◌, ◌<◌, List, length, get_or, drop, Result, sym, ap, ◌∙◌}
use Rattle.std.proofs.lemmas.List.{at_drop_more}
use Rattle.command.specs.declared.fault.Fault.{Fault}
use Rattle.command.specs.declared.parts.Part.{Part}
use Rattle.command.specs.Questions.{then}
use Rattle.command.specs.Bulk.{Cells, part_read, parts_read}

pub part_more : (content : List ℕ) (cells : Cells) (ps : List Part) (i : ℕ) (d : Part) (r : Result Cells Fault) → i < length ps → r ≡ part_read content (get_or ps i d) cells → parts_read content cells (drop i ps) ≡ then r (λ more. parts_read content more (drop (i + 1) ps))
part_more content cells ps i d r h e =
    at_drop_more (parts_read content cells) ps i d h ∙ ap (λ x. then x (λ more. parts_read content more (drop (i + 1) ps))) (sym e)
