-- The numbers so far, and those of the items that are left, are the numbers of the whole array.
use Rattle.std.proofs.Common.{◌≡◌, drop}
use Rattle.serde_json.specs.View.{items_view}
use Rattle.league_json.specs.Json.{all_items, whole_number}
use Rattle.league_json.proofs.Items.{with_front}
use Rattle.league_json.proofs.forms.distance_row.Given as goal

abbrev pub invariant-loop-item : goal.invariant-loop-item
invariant-loop-item l =
    with_front l.row.items (all_items whole_number (items_view (drop l.item-index l.item-items)))
    ≡ all_items whole_number (items_view l.item-items)
