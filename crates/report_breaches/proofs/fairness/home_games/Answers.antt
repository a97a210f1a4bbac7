use Rattle.std.proofs.Common.{◌+◌, ◌∙◌}
use Rattle.fixtures.specs.Games.{is_home, round_count}
use Rattle.rules.specs.Deviations.{home_games}
use Rattle.report_breaches.proofs.HomeGames.{counted_until}
use Rattle.report_breaches.proofs.fairness.home_games.Goals as goal

pub returns : goal.returns
unfolding home_games
returns c =
    c.len.ensures.among (c.args.round + 1) (c.intersection.ensures.below (c.args.round + 1) c.below.ensures.below) ∙
    counted_until (round_count c.args.schedule.now.teams) c.args.round _ _ _ (is_home c.args.schedule.now c.args.team) c.requires.round
    c.home_rounds.ensures.members c.below.ensures.members c.intersection.ensures.members
