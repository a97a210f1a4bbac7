-- The numbers so far, with those of the items that are left, are the set of the whole array.
use Rattle.std.proofs.Common.{◌≡◌, drop, option_map}
use Rattle.serde_json.specs.View.{items_view}
use Rattle.league_json.specs.Json.{all_items, number_within}
use Rattle.league_json.specs.RuleMembers.{with_numbers}
use Rattle.league.specs.Sets.{IsBelow}
use Rattle.league_json.proofs.rule_members.slot_set.Given as goal

abbrev pub invariant-loop-item : goal.invariant-loop-item
invariant-loop-item l = record {
  read : option_map (with_numbers l.set) (all_items (number_within 1 l.rounds) (items_view (drop l.item-index l.item-items)))
      ≡ option_map (with_numbers 0) (all_items (number_within 1 l.rounds) (items_view l.item-items));
  range : IsBelow l.rounds l.set;
}
