use Rattle.std.proofs.Common.{ℕ, add-one, ◌∙◌, ap}
use Rattle.league.specs.League.{LeagueData, teams}
use Rattle.given_start.specs.Begun.{keeping_at}
use Rattle.given_start.proofs.Keeping.{teams_at}
use Rattle.given_start.proofs.kept.keep_rounds.Goals as goal

pub loop-home-preserved : goal.loop-home-preserved
loop-home-preserved c =
    let rounds = c.args.rounds in
    let home = c.loop-home.home in
    let old = c.loop-home.league in
    record {
      kept =
          rw add-one
          (c.keep_home_games.ensures ∙ ap (λ (m : ℕ). keeping_at rounds home m old) c.loop-home.invariant.same ∙
          ap (keeping_at rounds home (teams c.args.league.now)) c.loop-home.invariant.kept);
      same = ap (λ (l : LeagueData). teams l) c.keep_home_games.ensures ∙ teams_at rounds home (teams old) old ∙
          c.loop-home.invariant.same;
    }
