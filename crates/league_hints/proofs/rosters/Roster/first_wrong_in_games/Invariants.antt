-- The items that are left decide.
use Rattle.std.proofs.Common.{◌≡◌, drop}
use Rattle.serde_json.specs.View.{items_view}
use Rattle.league_hints.specs.Rosters.{first_wrong_in_games}
use Rattle.league_hints.proofs.rosters.Roster.first_wrong_in_games.Given as goal

abbrev pub invariant-loop-item : goal.invariant-loop-item
invariant-loop-item l =
    first_wrong_in_games l.self (items_view (drop l.item-index l.items)) ≡ first_wrong_in_games l.self (items_view l.items)
