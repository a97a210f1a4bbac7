-- Rules whose numbers are in range for n teams.
use Rattle.std.specs.Prelude.{◌≢◌, ℕ, ◌≤◌, length}
use Rattle.std.specs.List.{AllByRecursion}
use Rattle.league.specs.declared.rule.Rule.{Rule}
use Rattle.league.specs.declared.rule.RuleBody.{RuleBody}
use Rattle.league.specs.declared.rule.RuleBody.TheVariants.{Ca1, Ca2, Ca3, Ca4, Ga1, Br1, Br2, Se1, Fa2}
use Rattle.league.specs.declared.rule.Side.TheVariants.{Any}
use Rattle.league.specs.declared.rule.Weight.{Weight}
use Rattle.league.specs.declared.rule.Weight.TheVariants.{Hard, Soft}
use Rattle.league.specs.Limits.{round_count, max_games, max_weight, max_count}
use Rattle.sets.specs.Sets.{IsBelow}
use Rattle.league.specs.Games.{IsGameFor}

abbrev pub IsCount : ℕ → Type 0
IsCount count = count ≤ max_count

abbrev pub IsBodyFor : ℕ → RuleBody → Type 0
IsBodyFor n (Ca1 teams side slots max) = IsBelow n teams × (side ≢ Any) × IsBelow (round_count n) slots × IsCount max
IsBodyFor n (Ca2 teams1 side teams2 slots max) =
    IsBelow n teams1 × IsBelow n teams2 × IsBelow (round_count n) slots × IsCount max
IsBodyFor n (Ca3 teams1 side teams2 window max) =
    IsBelow n teams1 × IsBelow n teams2 × (1 ≤ window) × (window ≤ round_count n) × IsCount max
IsBodyFor n (Ca4 teams1 side teams2 slots each max) =
    IsBelow n teams1 × IsBelow n teams2 × IsBelow (round_count n) slots × IsCount max
IsBodyFor n (Ga1 games slots min max) =
    AllByRecursion (IsGameFor n) games × (length games ≤ max_games) × IsBelow (round_count n) slots × (min ≤ max) × IsCount max
IsBodyFor n (Br1 teams side slots most) = IsBelow n teams × IsBelow (round_count n) slots × IsCount most
IsBodyFor n (Br2 teams slots most) = IsBelow n teams × IsBelow (round_count n) slots × IsCount most
IsBodyFor n (Se1 teams min) = IsBelow n teams × IsCount min
IsBodyFor n (Fa2 teams slots most) = IsBelow n teams × IsBelow (round_count n) slots × IsCount most

abbrev pub IsWeight : Weight → Type 0
IsWeight Hard = Unit {0}
IsWeight (Soft weight) = (1 ≤ weight) × (weight ≤ max_weight)

pub record IsRuleFor (n : ℕ) (rule : Rule) : Type 0 where
  pub weight : IsWeight rule.weight
  pub body : IsBodyFor n rule.body
