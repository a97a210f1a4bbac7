use Rattle.std.proofs.Common.{add-one, ◌∙◌, ap}
use Rattle.league.specs.League.{LeagueData, teams}
use Rattle.given_start.specs.Begun.{keeping_in}
use Rattle.given_start.proofs.Keeping.{teams_in}
use Rattle.given_start.proofs.kept.keep_home_games.Goals as goal

pub loop-away-preserved : goal.loop-away-preserved
loop-away-preserved c = record {
  kept =
      rw add-one (c.keep_in_rounds.ensures ∙ ap (keeping_in c.args.rounds c.args.home c.loop-away.away) c.loop-away.invariant.kept);
  same =
      ap (λ (l : LeagueData). teams l) c.keep_in_rounds.ensures ∙
      teams_in c.args.rounds c.args.home c.loop-away.away c.loop-away.league ∙ c.loop-away.invariant.same;
}
