-- The numbers so far, with those of the items that are left, are the set of the whole array.
use Rattle.std.proofs.Common.{◌≡◌, drop, option_map}
use Rattle.serde_json.specs.View.{items_view}
use Rattle.league_json.specs.Json.{all_items}
use Rattle.league_json.specs.RuleMembers.{with_numbers}
use Rattle.league_json.specs.Rosters.{listed_team}
use Rattle.league.specs.Sets.{IsBelow}
use Rattle.league_json.proofs.rule_members.team_set.Given as goal

abbrev pub invariant-loop-item : goal.invariant-loop-item
invariant-loop-item l = record {
  read : option_map (with_numbers l.set) (all_items (listed_team l.roster) (items_view (drop l.item-index l.item-items)))
      ≡ option_map (with_numbers 0) (all_items (listed_team l.roster) (items_view l.item-items));
  range : IsBelow l.roster.teams l.set;
}
