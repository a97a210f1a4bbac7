-- The items that are left decide.
use Rattle.std.proofs.Common.{◌≡◌, drop, is_some}
use Rattle.serde_json.specs.View.{items_view}
use Rattle.league_json.specs.Json.{all_items, number_within}
use Rattle.league_hints.proofs.forms.are_numbers.Given as goal

abbrev pub invariant-loop-item : goal.invariant-loop-item
invariant-loop-item l =
    is_some (all_items (number_within 1 l.most) (items_view (drop l.item-index l.items)))
    ≡ is_some (all_items (number_within 1 l.most) (items_view l.items))
