-- The items that are left decide.
use Rattle.std.proofs.Common.{◌≡◌, drop}
use Rattle.serde_json.specs.View.{items_view}
use Rattle.league_json.specs.Json.{all_objects}
use Rattle.league_json.proofs.forms.all_objects.Given as goal

abbrev pub invariant-loop-item : goal.invariant-loop-item
invariant-loop-item l = all_objects (items_view (drop l.item-index l.items)) ≡ all_objects (items_view l.items)
