use Rattle.std.proofs.Common.{◌≡◌, ℕ, ◌+◌, ◌<◌, ◌≤◌, List, length, get_or, drop, replicate, sym, ap, ◌∙◌}
use Rattle.std.proofs.ByRecursion.{All-get_or}
use Rattle.std.proofs.lemmas.List.{at_drop_more, drop_all}
use Rattle.command.specs.declared.setting.Setting.{Setting}
use Rattle.command.specs.Table.{table, Within, with_initial, with_initials, initial_page}
use Rattle.command.proofs.settings.initial_page.Goals as goal

-- one row more
more : (rs : List Setting) (i : ℕ) (d : Setting) (old page first : List ℕ) → i < length rs → page ≡ with_initial old (get_or rs i d) → with_initials old (drop i rs) ≡ first → with_initials page (drop (i + 1) rs) ≡ first
more rs i d old page first h e inv =
    ap (λ (p : List ℕ). with_initials p (drop (i + 1) rs)) e ∙ sym (at_drop_more (with_initials old) rs i d h) ∙ inv

all : (rs : List Setting) (i : ℕ) (page first : List ℕ) → length rs ≤ i → with_initials page (drop i rs) ≡ first → page ≡ first
all rs i page first h inv = sym (ap (with_initials page) (drop_all i rs h)) ∙ inv

by_table : (rs : List Setting) → rs ≡ table → with_initials (replicate 28 0) rs ≡ initial_page
unfolding initial_page
by_table rs e = ap (with_initials (replicate 28 0)) e

pub put_initial-requires : goal.put_initial-requires
put_initial-requires c =
    All-get_or Within c.settings-setting-items.result.now c.loop-setting.setting-index _ c.loop-setting-test.true c.settings-setting-items.ensures.within

pub loop-setting-preserved : goal.loop-setting-preserved
loop-setting-preserved c =
    more c.settings-setting-items.result.now c.loop-setting.setting-index _ c.loop-setting.page c.put_initial.new.page _ c.loop-setting-test.true c.put_initial.ensures c.loop-setting.invariant

pub returns : goal.returns
returns c =
    all c.settings-setting-items.result.now c.loop-setting.setting-index c.loop-setting.page _ c.loop-setting-test.false c.loop-setting.invariant
    ∙ by_table c.settings-setting-items.result.now c.settings-setting-items.ensures.same
