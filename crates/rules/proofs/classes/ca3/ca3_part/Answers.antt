use Rattle.std.proofs.Common.{ℕ, ◌+◌, ◌-◌, ◌^◌, ◌≤◌, ◌≡◌, get_or, refl, sym, ◌∙◌, ap, subst, arith}
use Rattle.std.proofs.Math.Pow.{pow_mono}
use Rattle.std.proofs.lemmas.Bool.{and_parts, eqb-true}
use Rattle.league.specs.Limits.{max_rounds}
use Rattle.league.specs.Sets.{has, IsBelow}
use Rattle.league.specs.Sums.{count_where}
use Rattle.league.proofs.ForCallers.{sum_where_same}
use Rattle.rules.specs.Deviations.{over, deviation}
use Rattle.rules.proofs.balances.PartTerms.{Ca3-terms}
use Rattle.rules.proofs.counted.CountedRounds.{met_starts, all_met}
use Rattle.rules.proofs.rows.RowsByRounds.{windows_of_rows}
use Rattle.rules.proofs.walks.Sets.{sum_where_swap}
use Rattle.rules.proofs.classes.ca3.ca3_part.Goals as goal

pub over_in_rows-requires-clause-starts : goal.over_in_rows-requires-clause-starts
over_in_rows-requires-clause-starts c =
    let grows : 2 ^ (c.rounds.result + 1 - c.args.window) ≤ 2 ^ (max_rounds + 1 - c.args.window) = pow_mono (omega (arith, c.rounds.ensures.most)) in
    omega (arith, grows, c.intersection-starts.ensures.below _ c.below-windows.ensures.below)

pub returns-then-eq-2 : goal.returns-then-eq-2
unfolding deviation
returns-then-eq-2 c =
    let games = c.args.games.now in
    let others = c.games_otherwise-otherwise in
    let each_window : c.intersection-starts.result ≡ c.below-windows.result = eqb-true _ _ (sym c.eq.ensures ∙ c.if-eq.true) in
    let each_team : others.result.teams ≡ games.teams = eqb-true _ _ (sym c.eq-then-eq.ensures ∙ c.if-eq-2.true) in
    rw c.in-Some.is at c.requires.known ∙
    sum_where_same c.args.schedule.now.teams (has games.teams) (has games.teams) _ _ (λ t below. refl)
    (λ t below is.
    all_met c.args.schedule.now games.side (has games.opponents) (has c.args.change.now.rounds) c.args.window c.args.most t
    c.below-windows.result c.starts_meeting.result c.intersection-starts.result _ (ap (λ n. n + 1 - c.args.window) c.rounds.ensures.number)
    c.below-windows.ensures.members c.starts_meeting.ensures.members c.intersection-starts.ensures.members each_window) ∙
    Ca3-terms c.args.schedule.now c.args.change.now.main c.args.change.now.rounds c.args.change.now.sides games.teams games.side games.side
    games.opponents games.opponents c.args.window c.args.most games.teams
    (λ t. ap (λ teams. has teams t) (sym each_team) ∙ others.ensures.members t) refl refl

pub returns-then-goes_by_rounds : goal.returns-then-goes_by_rounds
returns-then-goes_by_rounds c =
    let games = c.args.games.now in
    let others = c.games_otherwise-otherwise in
    c.over_in_rows.ensures c.args.schedule.now.teams _ others.ensures.below
    (subst (λ (n : ℕ). IsBelow (n + 1 - c.args.window) c.intersection-starts.result) c.rounds.ensures.number
    (c.intersection-starts.ensures.below _ c.below-windows.ensures.below)) ∙
    sum_where_swap _ c.args.schedule.now.teams (has c.intersection-starts.result) (has others.result.teams)
    (λ first t. over (count_where c.args.window (λ k. has (get_or c.make_rows_near.new.rows (first + k) 0) t)) c.args.most) ∙
    sum_where_same _ _ _ _ _ (λ t below. refl)
    (λ t below is.
    windows_of_rows c.args.schedule.now others.result.side (has others.result.opponents) (has c.args.change.now.rounds)
    c.make_rows_near.new.rows c.args.window c.args.most t c.intersection-starts.result
    (λ s here. sym (c.starts_meeting.ensures.members s) ∙
    (and_parts (has c.below-windows.result s) (has c.starts_meeting.result s) (sym (c.intersection-starts.ensures.members s) ∙ here)).1)
    (λ r at in_r in_at changed near_at near_r. c.make_rows_near.ensures.members r at in_r in_at changed near_at near_r t is) ∙
    met_starts c.args.schedule.now others.result.side (has others.result.opponents) (has c.args.change.now.rounds) c.args.window c.args.most t
    c.below-windows.result c.starts_meeting.result c.intersection-starts.result _ (ap (λ n. n + 1 - c.args.window) c.rounds.ensures.number)
    c.below-windows.ensures.members c.starts_meeting.ensures.members c.intersection-starts.ensures.members) ∙
    Ca3-terms c.args.schedule.now c.args.change.now.main c.args.change.now.rounds c.args.change.now.sides games.teams games.side
    others.result.side games.opponents others.result.opponents c.args.window c.args.most others.result.teams others.ensures.members
    others.ensures.side others.ensures.opponents

pub returns-else-goes_by_rounds : goal.returns-else-goes_by_rounds
returns-else-goes_by_rounds c =
    let games = c.args.games.now in
    let others = c.games_otherwise-otherwise in
    c.over_by_teams.ensures ∙
    sum_where_same _ _ _ _ _ (λ t below. refl)
    (λ t below is.
    met_starts c.args.schedule.now others.result.side (has others.result.opponents) (has c.args.change.now.rounds) c.args.window c.args.most t
    c.below-windows.result c.starts_meeting.result c.intersection-starts.result _ (ap (λ n. n + 1 - c.args.window) c.rounds.ensures.number)
    c.below-windows.ensures.members c.starts_meeting.ensures.members c.intersection-starts.ensures.members) ∙
    Ca3-terms c.args.schedule.now c.args.change.now.main c.args.change.now.rounds c.args.change.now.sides games.teams games.side
    others.result.side games.opponents others.result.opponents c.args.window c.args.most others.result.teams others.ensures.members
    others.ensures.side others.ensures.opponents
