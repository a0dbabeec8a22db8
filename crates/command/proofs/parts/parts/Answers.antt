use Rattle.std.proofs.Common.{◌≡◌, sym, ap, subst}
use Rattle.std.specs.List.{AllByRecursion}
use Rattle.command.specs.Parts.{listed, parts, LawfulPart, widths, one_behind_another}
use Rattle.command.proofs.Lawful.{all_lawful}
use Rattle.command.proofs.parts.parts.Goals as goal

pub returns : goal.returns
unfolding parts
returns c =
    let e : c.all_parts.result.now ≡ listed = c.all_parts.ensures in
    record {
      same = e;
      lawful = subst (AllByRecursion LawfulPart) (sym e) all_lawful;
      one_behind_another = ap (one_behind_another 20) e;
      widths = ap widths e;
    }
