-- The items that are left decide.
use Rattle.std.proofs.Common.{◌≡◌, drop}
use Rattle.serde_json.specs.View.{items_view}
use Rattle.league_hints.specs.Rosters.{first_no_game}
use Rattle.league_hints.proofs.rosters.Roster.first_no_game.Given as goal

abbrev pub invariant-loop-item : goal.invariant-loop-item
invariant-loop-item l =
    first_no_game l.self (items_view (drop l.item-index l.items)) ≡ first_no_game l.self (items_view l.items)
