-- The rules so far, with those of the items that are left, are the rules of the whole array.
use Rattle.std.proofs.Common.{◌≡◌, length, drop}
use Rattle.std.specs.List.{AllByRecursion}
use Rattle.serde_json.specs.View.{items_view}
use Rattle.league_json.specs.League.{rules_from}
use Rattle.league.specs.RuleLimits.{IsRuleFor}
use Rattle.league_json.proofs.Items.{with_front_or_fault}
use Rattle.league_json.proofs.rule_classes.read_rules.Given as goal

abbrev pub invariant-loop-index : goal.invariant-loop-index
invariant-loop-index l = record {
  read : with_front_or_fault l.rules.items (rules_from l.format l.roster l.index (items_view (drop l.index l.items)))
      ≡ rules_from l.format l.roster 0 (items_view l.items);
  range : AllByRecursion (IsRuleFor l.roster.teams) l.rules.items;
  count : length l.rules.items ≡ l.index;
}
