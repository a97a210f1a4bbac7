use Rattle.std.proofs.Common.{◌≡◌, ◌+◌, ◌-◌, ℕ, not, if◌then◌else◌, get_or, ◌∙◌, ap, ap₂, arith}
use Rattle.std.proofs.lemmas.Grind.{get_or_default_zero}
use Rattle.league.specs.Sets.{has}
use Rattle.rules.specs.within.TeamWindows.{rows_lack}
use Rattle.rules.proofs.rows.FullWindows.{first_row, last_row}
use Rattle.rules.proofs.team_windows.over_in_two.Goals as goal

pub returns-clause-value : goal.returns-clause-value
returns-clause-value c = λ n below.
    let rows = c.args.rows.now in
    let first = c.args.first in
    let others = c.args.window - 1 in
    let longer : 1 + others ≡ c.args.window = omega (arith, c.requires.longer) in
    let longer_too : others + 1 ≡ c.args.window = omega (arith, c.requires.longer) in
    let last : first + c.args.window ≡ first + 1 + others = omega (arith, c.requires.longer) in
    let row = get_or_default_zero rows first c.index-rows-first.result (omega (arith, c.requires.season, c.requires.len)) in
    let row_after = get_or_default_zero rows (first + c.args.window) c.index-rows-first-2.result
    (omega (arith, c.requires.season, c.requires.len)) ∙ ap (λ r. get_or rows r 0) last in
    let lacks = rows_lack rows (first + 1) others in
    let with : ℕ → ℕ → ℕ = λ t s. lacks t + (if not (has s t) then 1 else 0) in
    ap₂ (λ a b. a + b)
    (c.over_with-earlier.ensures.value n c.args.teams lacks (λ t k. has (get_or rows (first + k) 0) t) below c.all-both.ensures
    (λ t. ap (with t) row ∙ first_row rows first others t ∙ ap (λ count. rows_lack rows first count t) longer))
    (c.over_with-later.ensures.value n c.args.teams lacks (λ t k. has (get_or rows (first + 1 + k) 0) t) below c.all-both.ensures
    (λ t. ap (with t) row_after ∙ last_row rows (first + 1) others t ∙ ap (λ count. rows_lack rows (first + 1) count t) longer_too))
