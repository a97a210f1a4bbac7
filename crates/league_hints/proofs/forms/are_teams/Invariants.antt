-- The items that are left decide.
use Rattle.std.proofs.Common.{◌≡◌, drop, is_some}
use Rattle.serde_json.specs.View.{items_view}
use Rattle.league_json.specs.Json.{all_items}
use Rattle.league_json.specs.Rosters.{listed_team}
use Rattle.league_hints.proofs.forms.are_teams.Given as goal

abbrev pub invariant-loop-item : goal.invariant-loop-item
invariant-loop-item l =
    is_some (all_items (listed_team l.roster) (items_view (drop l.item-index l.items)))
    ≡ is_some (all_items (listed_team l.roster) (items_view l.items))
