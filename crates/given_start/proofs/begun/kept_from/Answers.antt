use Rattle.std.proofs.Common.{ℕ, sym, ◌∙◌, ap}
use Rattle.league.specs.League.{LeagueData, teams}
use Rattle.given_start.specs.Begun.{are_pairs}
use Rattle.given_start.proofs.Keeping.{teams_below}
use Rattle.given_start.proofs.begun.kept_from.Goals as goal

pub keep_games-requires : goal.keep_games-requires
keep_games-requires c =
    let games = c.args.beginning.now.games.now in
    let same =
    ap (λ (l : LeagueData). teams l) c.keep_rounds.ensures ∙ teams_below c.args.beginning.now.rounds (teams c.args.league) c.args.league in
    let were = sym c.are_pairs.ensures ∙ c.if-not-are_pairs.false in
    ap (λ (n : ℕ). are_pairs n games) (same ∙ sym c.teams-2.ensures.value) ∙ were
