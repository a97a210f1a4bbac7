-- The rules of a league's text, by class, among the teams of a roster.
use Rattle.std.specs.Prelude.{ℕ, List, codes, nat_le, Option, Some, None, option_and_then, if◌then◌else◌}
use Rattle.std.specs.Str.{bytes_eq}
use Rattle.serde_json.specs.Data.{Data}
use Rattle.league.specs.declared.rule.Rule.{Rule}
use Rattle.league.specs.declared.rule.RuleBody.{RuleBody}
use Rattle.league.specs.declared.rule.RuleBody.TheVariants.{Ca1, Ca2, Ca3, Ca4, Ga1, Br1, Br2, Se1, Fa2}
use Rattle.league_json.specs.declared.rule_classes.Class.{Class}
use Rattle.league_json.specs.declared.rule_classes.Class.TheVariants as class
use Rattle.league_json.specs.Json.{only_if}
use Rattle.league_json.specs.RuleMembers.{text_member, teams_member, opponents_member, slots_member, count_member}
use Rattle.league_json.specs.RuleMembers.{window_member, one_side_member, any_side_member, each_member, games_member}
use Rattle.league_json.specs.RuleMembers.{weight_of}
use Rattle.league_json.specs.Rosters.{RosterData}

infixl 10 ◌>>=◌
abbrev pub ◌>>=◌ : {A B : Type 0} → Option A → (A → Option B) → Option B
o >>= f = option_and_then f o

-- the class that a name stands for in a format
abbrev pub class_named : ℕ → List ℕ → Option Class
class_named format name =
    if bytes_eq name (codes "CA1") then Some class.Ca1 else
    (if bytes_eq name (codes "CA2") then Some class.Ca2 else
    (if bytes_eq name (codes "CA3") then Some class.Ca3 else
    (if bytes_eq name (codes "CA4") then Some class.Ca4 else
    (if bytes_eq name (codes "GA1") then Some class.Ga1 else
    (if bytes_eq name (codes "BR1") then Some class.Br1 else
    (if bytes_eq name (codes "BR2") then Some class.Br2 else
    (if bytes_eq name (codes "SE1") then Some class.Se1 else
    (if bytes_eq name (codes "FA2") then only_if (nat_le 2 format) class.Fa2 else None))))))))

abbrev pub class_of : ℕ → Data → Option Class
class_of format d = option_and_then (class_named format) (text_member (codes "class") d)

unfoldable pub ca1_of : RosterData → Data → Option RuleBody
ca1_of roster d = do
  teams ← teams_member roster (codes "teams") d
  side ← one_side_member d
  slots ← slots_member roster.teams d
  max ← count_member (codes "max") d
  Some (Ca1 teams side slots max)

unfoldable pub ca2_of : RosterData → Data → Option RuleBody
ca2_of roster d = do
  teams1 ← teams_member roster (codes "teams1") d
  side ← any_side_member d
  teams2 ← opponents_member roster d
  slots ← slots_member roster.teams d
  max ← count_member (codes "max") d
  Some (Ca2 teams1 side teams2 slots max)

unfoldable pub ca3_of : RosterData → Data → Option RuleBody
ca3_of roster d = do
  teams1 ← teams_member roster (codes "teams1") d
  side ← any_side_member d
  teams2 ← opponents_member roster d
  window ← window_member roster.teams d
  max ← count_member (codes "max") d
  Some (Ca3 teams1 side teams2 window max)

unfoldable pub ca4_of : RosterData → Data → Option RuleBody
ca4_of roster d = do
  teams1 ← teams_member roster (codes "teams1") d
  side ← any_side_member d
  teams2 ← opponents_member roster d
  slots ← slots_member roster.teams d
  each ← each_member d
  max ← count_member (codes "max") d
  Some (Ca4 teams1 side teams2 slots each max)

unfoldable pub ga1_of : RosterData → Data → Option RuleBody
ga1_of roster d = do
  games ← games_member roster d
  slots ← slots_member roster.teams d
  min ← count_member (codes "min") d
  max ← count_member (codes "max") d
  only_if (nat_le min max) (Ga1 games slots min max)

unfoldable pub br1_of : RosterData → Data → Option RuleBody
br1_of roster d = do
  teams ← teams_member roster (codes "teams") d
  side ← any_side_member d
  slots ← slots_member roster.teams d
  most ← count_member (codes "intp") d
  Some (Br1 teams side slots most)

unfoldable pub br2_of : RosterData → Data → Option RuleBody
br2_of roster d = do
  teams ← teams_member roster (codes "teams") d
  slots ← slots_member roster.teams d
  most ← count_member (codes "intp") d
  Some (Br2 teams slots most)

unfoldable pub se1_of : RosterData → Data → Option RuleBody
se1_of roster d = do
  teams ← teams_member roster (codes "teams") d
  min ← count_member (codes "min") d
  Some (Se1 teams min)

unfoldable pub fa2_of : RosterData → Data → Option RuleBody
fa2_of roster d = do
  teams ← teams_member roster (codes "teams") d
  slots ← slots_member roster.teams d
  most ← count_member (codes "intp") d
  Some (Fa2 teams slots most)

abbrev pub body_of : RosterData → Data → Class → Option RuleBody
body_of roster d class.Ca1 = ca1_of roster d
body_of roster d class.Ca2 = ca2_of roster d
body_of roster d class.Ca3 = ca3_of roster d
body_of roster d class.Ca4 = ca4_of roster d
body_of roster d class.Ga1 = ga1_of roster d
body_of roster d class.Br1 = br1_of roster d
body_of roster d class.Br2 = br2_of roster d
body_of roster d class.Se1 = se1_of roster d
body_of roster d class.Fa2 = fa2_of roster d

abbrev pub rule_of_class : RosterData → Data → Class → Option Rule
rule_of_class roster d class = do
  weight ← weight_of d
  body ← body_of roster d class
  Some (record { weight = weight; body = body })
