use Rattle.std.proofs.Common.{◌≡◌, ℕ, ◌+◌, ◌<◌, List, [], ◌∷◌, ◌++◌, map, length, get_or, take, sym, ap, ◌∙◌, arith}
use Rattle.std.proofs.lemmas.List.{map_more, take_all}
use Rattle.command.specs.Readings.{sent_octet}
use Rattle.command.proofs.gather.show_text.Goals as goal

-- one cell more
more : (xs new old : List ℕ) (i octet : ℕ) → i < length xs → octet ≡ sent_octet (get_or xs i 0) → old ≡ map sent_octet (take i xs) → new ≡ old ++ octet ∷ [] → new ≡ map sent_octet (take (i + 1) xs)
more xs new old i octet h s inv e =
    e ∙ ap (λ (t : List ℕ). t ++ octet ∷ []) inv ∙ ap (λ (o : ℕ). map sent_octet (take i xs) ++ o ∷ []) s
    ∙ sym (map_more sent_octet xs i 0 h)

pub loop-cell-preserved : goal.loop-cell-preserved
loop-cell-preserved c = (
  more c.args.cells.now _ _ c.loop-cell.cell-index _ c.loop-cell-test.true c.sent_octet.ensures c.loop-cell.invariant.0 c.push.ensures.items,
  omega arith,
)

pub returns : goal.returns
returns c = c.loop-cell.invariant.0 ∙ ap (map sent_octet) (take_all c.loop-cell.cell-index c.args.cells.now c.loop-cell-test.false)
