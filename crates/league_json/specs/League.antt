-- The league that a text stands for.
use Rattle.std.specs.Prelude.{ℕ, ◌+◌, List, [], ◌∷◌, length, Result, Ok}
use Rattle.serde_json.specs.Data.{Data, Items, no_items, item}
use Rattle.serde_json.specs.Events.{items_len}
use Rattle.league.specs.declared.fault.Field.TheVariants.{Whole}
use Rattle.league.specs.declared.fault.LeagueFault.{LeagueFault}
use Rattle.league.specs.declared.fault.LeagueFault.TheVariants.{NotJson, WrongKind, RuleClass, RuleValue}
use Rattle.league.specs.declared.rule.Rule.{Rule}
use Rattle.league.specs.Checks.{checked}
use Rattle.league.specs.League.{LeagueData, league_data}
use Rattle.league.specs.Origins.{origin_at}
use Rattle.league.specs.Reading.{◌>>=◌, or_fault, unless}
use Rattle.league_json.specs.Json.{json_of, is_object}
use Rattle.league_json.specs.LabelMembers.{labels_of}
use Rattle.league_json.specs.LeagueMembers.{format_of, teams_of, distances_of, at_most_of, hard_weight_of, rules_of, order_of}
use Rattle.league_json.specs.LeagueMembers.{phased_of, free_repeats_of}
use Rattle.league_json.specs.Rosters.{RosterData, roster_of}
use Rattle.league_json.specs.RuleClasses.{class_of, rule_of_class}

-- the rule at an index, among the teams of a roster
unfoldable pub rule_of : ℕ → RosterData → ℕ → Data → Result Rule LeagueFault
rule_of format roster i d = do
  class ← or_fault (RuleClass i) (class_of format d)
  or_fault (RuleValue i) (rule_of_class roster d class)

-- the rules from an index on
abbrev pub rules_from : ℕ → RosterData → ℕ → Items → Result (List Rule) LeagueFault
rules_from format roster i no_items = Ok []
rules_from format roster i (item d ds) = do
  rule ← rule_of format roster i d
  rules ← rules_from format roster (i + 1) ds
  Ok (rule ∷ rules)

-- The members in their order, then the checks of the whole, then the rules one by one.
unfoldable pub league_of_data : Data → Result LeagueData LeagueFault
league_of_data d = do
  object ← unless (is_object d) (WrongKind Whole)
  format ← format_of d
  names ← teams_of d
  distances ← distances_of d
  at_most ← at_most_of d
  hard_weight ← hard_weight_of d
  items ← rules_of d
  start ← order_of format d
  phased ← phased_of format d
  labels ← labels_of format (length names) d
  free_repeats ← free_repeats_of format d
  sound ← checked (length names) distances (items_len items)
  rules ← rules_from format (roster_of format names) 0 items
  Ok (league_data names distances at_most hard_weight rules (origin_at start) phased free_repeats labels)

-- the league that the bytes stand for, or the first fault
unfoldable pub league_of : List ℕ → Result LeagueData LeagueFault
league_of bytes = do
  d ← or_fault NotJson (json_of bytes)
  league_of_data d
