use Rattle.std.proofs.Common.{◌≡◌, ℕ, ◌<◌, true, ltb, List, length, set, is_ok, ap, ◌∙◌, arith}
use Rattle.std.proofs.lemmas.Bool.{cond-true, lt-ltb}
use Rattle.line.specs.Enrolling.{initial_pages}
use Rattle.line.proofs.Tables.{pages_more, length-initial_pages}
use Rattle.line.proofs.enroll.restore_pages.Goals as goal

-- the memory has the page k still, once those below it are as at first
there : (k : ℕ) (before held : List (List ℕ)) → k < length before → held ≡ initial_pages k before → ltb k (length held) ≡ true
there k before held h e = lt-ltb k (length held) (omega (arith, ap length e ∙ length-initial_pages k before))

pub unwrap-requires : goal.unwrap-requires
unwrap-requires g c =
    let pages = g.M.SettingsMemory.pages in
    ap is_ok
    (c.restore.ensures.answer
    ∙ cond-true _ _ _ (there c.loop-page.page (pages c.args.memory.now) (pages c.loop-page.memory) (omega arith) c.loop-page.invariant))

pub loop-page-preserved : goal.loop-page-preserved
loop-page-preserved g c =
    let before = g.M.SettingsMemory.pages c.args.memory.now in
    let held = g.M.SettingsMemory.pages c.loop-page.memory in
    let k = c.loop-page.page in
    let few : k < length before = omega arith in
    c.restore.ensures.left
    ∙ cond-true _ _ _ (there k before held few c.loop-page.invariant)
    ∙ ap (set held k) c.initial_page-cells.ensures
    ∙ pages_more k before held few c.loop-page.invariant
