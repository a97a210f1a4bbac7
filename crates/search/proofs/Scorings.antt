-- What a look shows where its board is known to be of a league.
use Rattle.std.proofs.Common.{◌≡◌, ◌↔◌, ℕ, ◌<◌, ◌^◌, cond, List, Bool, sym, ap, ◌∙◌}
use Rattle.std.specs.Bool.{IsTrue}
use Rattle.std.specs.Cmp.{unsigned_Decides}
use Rattle.league.specs.League.{LeagueData, IsLeague, teams}
use Rattle.fixtures.specs.Games.{Games}
use Rattle.fixture_board.specs.declared.change.Entry.{Entry}
use Rattle.fixture_board.specs.declared.look.Seen.{Seen}
use Rattle.costs.specs.Costs.{cost_of, score_of}
use Rattle.fixture_board.specs.History.{cost_at, games_of}
use Rattle.fixture_board.specs.Looks.{copied}
use Rattle.fixture_board.proofs.ForCallers.{games_of_teams, is_scored_league}
use Rattle.search.specs.Doors.{Shows}
use Rattle.search.specs.within.Steps.{IsScoring}

-- no call changes which boards may be had
pub scoring_still : (of_boards : Bool) (league : LeagueData) (before after : LeagueData → ℕ → Type 0)
    → ((other : LeagueData) (room : ℕ) → before other room ↔ after other room) → IsScoring of_boards league before
    → IsScoring of_boards league after
scoring_still of_boards league before after same scoring on other room has = scoring on other room ((same other room).1 has)

copied_same : (old shown : Games) → old.teams ≡ shown.teams → copied old shown ≡ shown
copied_same old shown same = ap (λ b. cond b shown old) ((unsigned_Decides old.teams shown.teams).1 same)

-- what a look tells is what the copy costs
pub shown_cost : (of_boards : Bool) (league : LeagueData) (may_have : LeagueData → ℕ → Type 0) (before : List Entry) (old : Games)
    (shown : Seen) (new : Games) (after : List Entry) → IsTrue of_boards → IsScoring of_boards league may_have
    → Shows may_have before old shown new after → teams league ≡ old.teams → shown.cost ≡ cost_of league new
unfolding cost_at
shown_cost of_boards league may_have before old shown new after on scoring s size =
    let same : s.league ≡ league = scoring on s.league s.room s.found.has in
    let games = games_of s.league s.history in
    let sized : old.teams ≡ games.teams =
    sym size ∙ sym (ap teams same) ∙ sym (games_of_teams s.league s.history) in
    s.cost ∙ ap (λ l. cost_of l games) same ∙ ap (cost_of league) (sym (s.copy_is ∙ copied_same old games sized))

-- and its score fits a word
pub shown_small : (of_boards : Bool) (league : LeagueData) (may_have : LeagueData → ℕ → Type 0) (before : List Entry) (old : Games)
    (shown : Seen) (new : Games) (after : List Entry) → IsTrue of_boards → IsScoring of_boards league may_have
    → Shows may_have before old shown new after → IsLeague league → score_of league shown.cost < 2 ^ 64
shown_small of_boards league may_have before old shown new after on scoring s limits =
    let same : s.league ≡ league = scoring on s.league s.room s.found.has in
    let cost : shown.cost ≡ cost_at league s.history = s.cost ∙ ap (λ l. cost_at l s.history) same in
    rw cost (is_scored_league league limits s.history)
