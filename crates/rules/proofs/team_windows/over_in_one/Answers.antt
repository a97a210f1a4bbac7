use Rattle.std.proofs.Common.{◌≡◌, ◌+◌, ◌-◌, ℕ, not, if◌then◌else◌, get_or, ◌∙◌, ap, arith}
use Rattle.std.proofs.lemmas.Grind.{get_or_default_zero}
use Rattle.league.specs.Sets.{has}
use Rattle.rules.specs.within.TeamWindows.{rows_lack}
use Rattle.rules.proofs.rows.FullWindows.{last_row}
use Rattle.rules.proofs.team_windows.over_in_one.Goals as goal

pub returns-clause-value : goal.returns-clause-value
returns-clause-value c = λ n below.
    let rows = c.args.rows.now in
    let first = c.args.first in
    let others = c.args.window - 1 in
    let longer : others + 1 ≡ c.args.window = omega (arith, c.requires.longer) in
    let row = get_or_default_zero rows (first + others) c.index-rows-first.result
    (omega (arith, c.requires.longer, c.requires.season, c.requires.len)) in
    c.over_with.ensures.value n c.args.teams (rows_lack rows first others) (λ t k. has (get_or rows (first + k) 0) t) below c.all.ensures
    (λ t.
    ap {B = ℕ} (λ s. rows_lack rows first others t + (if not (has s t) then 1 else 0)) row ∙
    last_row rows first others t ∙ ap (λ count. rows_lack rows first count t) longer)
