use Rattle.std.proofs.Common.{◌&&◌, ◌∙◌, ap}
use Rattle.league.specs.Sets.{has}
use Rattle.rules.specs.Deviations.{games_of_team}
use Rattle.rules.proofs.rows.AllTeams.{counted_from-all}
use Rattle.rules.proofs.walks.Sets.{count_of_members}
use Rattle.rules.proofs.counted_games.games_on_side.Goals as goal

pub returns-clause-value : goal.returns-clause-value
unfolding games_of_team
returns-clause-value c =
    c.len.ensures.among _ (c.intersection.ensures.below _ c.rounds_on_side.ensures.below) ∙
    count_of_members _ _ _
    (λ r.
    c.intersection.ensures.members r ∙ ap (λ b. b && has c.args.slots r) (c.rounds_on_side.ensures.members r) ∙
    counted_from-all c.args.schedule.now c.requires.round_robin c.args.games.now.side c.args.games.now.opponents c.requires.opponents
    c.args.team r
    (has c.args.slots r) c.requires.team)
