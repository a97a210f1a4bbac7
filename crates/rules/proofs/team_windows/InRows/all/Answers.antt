use Rattle.std.proofs.Common.{◌≡◌, ◌+◌, ◌-◌, ℕ, not, if◌then◌else◌, get_or, ◌∙◌, ap, arith}
use Rattle.std.proofs.lemmas.Grind.{get_or_default_zero}
use Rattle.league.specs.Sets.{has}
use Rattle.rules.specs.within.TeamWindows.{rows_lack}
use Rattle.rules.proofs.rows.FullWindows.{in_no_row, in_rows_same, last_row}
use Rattle.rules.proofs.team_windows.InRows.all.Goals as goal

pub loop-round-init : goal.loop-round-init
loop-round-init c =
    let none : 0 ≡ c.args.first - c.args.first = omega arith in
    in_rows_same _ _ _ _ (λ t. ap (λ n. rows_lack c.args.rows.now c.args.first n t) none) (in_no_row c.args.rows.now c.args.teams c.args.first)

pub loop-round-preserved : goal.loop-round-preserved
loop-round-preserved c =
    let round = c.loop-round.round in
    let last : round ≡ c.args.first + (round - c.args.first) = omega (arith, c.loop-round.auto.round) in
    let longer : round - c.args.first + 1 ≡ round + 1 - c.args.first = omega (arith, c.loop-round.auto.round) in
    let row = get_or_default_zero c.args.rows.now round c.index-rows-round.result
    (omega (arith, c.loop-round-test.true, c.requires.season, c.requires.len)) ∙ ap (λ r. get_or c.args.rows.now r 0) last in
    in_rows_same _ _ _ _
    (λ t. ap {B = ℕ} (λ s. rows_lack c.args.rows.now c.args.first (round - c.args.first) t + (if not (has s t) then 1 else 0)) row ∙
    last_row c.args.rows.now c.args.first (round - c.args.first) t ∙ ap (λ n. rows_lack c.args.rows.now c.args.first n t) longer)
    (c.and-in_rows.ensures _ _ c.loop-round.invariant)
