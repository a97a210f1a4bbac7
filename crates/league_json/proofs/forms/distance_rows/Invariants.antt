-- The rows so far, and those of the items that are left, are the rows of the whole array.
use Rattle.std.proofs.Common.{◌≡◌, drop}
use Rattle.serde_json.specs.View.{items_view}
use Rattle.league_json.specs.Json.{all_items}
use Rattle.league_json.specs.LeagueMembers.{distance_row}
use Rattle.league.specs.Views.{rows}
use Rattle.league_json.proofs.Items.{with_front}
use Rattle.league_json.proofs.forms.distance_rows.Given as goal

abbrev pub invariant-loop-item : goal.invariant-loop-item
invariant-loop-item l =
    with_front (rows l.table.items) (all_items distance_row (items_view (drop l.item-index l.item-items)))
    ≡ all_items distance_row (items_view l.item-items)
