-- The games so far, with those of the items that are left, are the games of the whole array.
use Rattle.std.proofs.Common.{◌≡◌, ◌≤◌, [], length, drop, option_map}
use Rattle.std.specs.List.{AllByRecursion}
use Rattle.serde_json.specs.View.{items_view}
use Rattle.league_json.specs.Json.{all_items}
use Rattle.league.specs.Games.{IsGameFor, with_games}
use Rattle.league.specs.Limits.{max_games}
use Rattle.league_json.specs.RuleMembers.{pairing_from}
use Rattle.league_json.proofs.rule_members.games_member.Given as goal

abbrev pub invariant-loop-item : goal.invariant-loop-item
invariant-loop-item l = record {
  read : option_map (with_games l.games) (all_items (pairing_from l.roster) (items_view (drop l.item-index l.item-items)))
      ≡ option_map (with_games []) (all_items (pairing_from l.roster) (items_view l.item-items));
  range : AllByRecursion (IsGameFor l.roster.teams) l.games;
  most : length l.games ≤ max_games;
}
