-- The schedule of a history is of the league's teams, and scores below the limit of scores.
use Rattle.std.proofs.Common.{◌≡◌, ◌^◌, ◌<◌, List, [], ◌∷◌, refl, ◌∙◌, arith}
use Rattle.league.specs.League.{LeagueData, teams, IsLeague}
use Rattle.league.specs.Starts.{start_of}
use Rattle.fixtures.specs.Games.{Games}
use Rattle.moves.specs.declared.moves.Move.{Move}
use Rattle.moves.specs.declared.moves.Move.TheVariants.{Homes, Rounds, Teams, PartRounds, PartTeams}
use Rattle.moves.specs.Moves.{moved}
use Rattle.costs.specs.Costs.{score_of}
use Rattle.costs.proofs.ForCallers.{score_below}
use Rattle.fixture_board.specs.declared.change.Change.{Change}
use Rattle.fixture_board.specs.declared.change.Change.TheVariants.{Shift, Pin, Unpin, Undo}
use Rattle.fixture_board.specs.declared.change.Entry.{Entry}
use Rattle.fixture_board.specs.History.{effective, shifted, games_after, games_of, cost_at}

pub moved-teams : (g : Games) (mv : Move) → (moved g mv).teams ≡ g.teams
moved-teams g (Homes i j) = refl
moved-teams g (Rounds k l) = refl
moved-teams g (Teams i j) = refl
moved-teams g (PartRounds i k l) = refl
moved-teams g (PartTeams i j k) = refl

shifted-teams : (g : Games) (change : Change) → (shifted g change).teams ≡ g.teams
shifted-teams g (Shift mv) = moved-teams g mv
shifted-teams g (Pin game) = refl
shifted-teams g (Unpin game) = refl
shifted-teams g Undo = refl

games_after-teams : (g : Games) (changes : List Change) → (games_after g changes).teams ≡ g.teams
unfolding games_after
games_after-teams g [] = refl
games_after-teams g (change ∷ changes) = games_after-teams (shifted g change) changes ∙ shifted-teams g change

pub games_of-teams : (league : LeagueData) (h : List Entry) → (games_of league h).teams ≡ teams league
unfolding games_of
games_of-teams league h = games_after-teams (start_of league) (effective h)

-- the scores of the league's schedules are at most the greatest slack
abbrev pub IsScored : LeagueData → Type 0
IsScored league = (h : List Entry) → score_of league (cost_at league h) < 2 ^ 64

pub IsScored-league : (league : LeagueData) → IsLeague league → IsScored league
unfolding cost_at
IsScored-league league is h = omega (arith, score_below league (games_of league h) is (games_of-teams league h))
