use Rattle.std.proofs.Common.{◌≡◌, sym, refl, ap, subst, arith}
use Rattle.std.specs.List.{AllByRecursion}
use Rattle.command.specs.Table.{rows, table, Within, cells_in, covered_once, initials_allowed, initial_page}
use Rattle.command.proofs.settings.settings.Goals as goal

within_rows : AllByRecursion Within rows
within_rows = search arith

pub returns : goal.returns
unfolding table initial_page
returns c =
    let e : c.all_rows.result.now ≡ rows = c.all_rows.ensures in
    record {
      same = e;
      within = subst (AllByRecursion Within) (sym e) within_rows;
      cells_once = ap cells_in e;
      positions_once = ap covered_once e;
      initials_allowed = ap initials_allowed e;
      initials_in_order = refl;
    }
