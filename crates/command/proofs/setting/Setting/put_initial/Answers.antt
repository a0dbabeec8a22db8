use Rattle.std.proofs.Common.{◌≡◌, replicate, ap, ◌∙◌, arith}
use Rattle.std.proofs.lemmas.Slice.{put_mid-paste}
use Rattle.std.proofs.lemmas.List.{length-replicate, length-take, length-drop}
use Rattle.command.specs.Table.{cells_of}
use Rattle.command.proofs.setting.Setting.put_initial.Goals as goal

pub returns : goal.returns
returns c =
    let row = c.args.self.now in
    let n : c.cells.result ≡ cells_of row = c.cells.ensures in
    put_mid-paste _ _ c.args.page.now c.fill.new.self (replicate (cells_of row) row.initial) (cells_of row)
    (c.fill.ensures.after (λ y e. e) ∙ ap (λ k. replicate k row.initial) (simp (length-take, length-drop) (omega arith)))
    (omega arith)
    (simp length-replicate (omega arith))
