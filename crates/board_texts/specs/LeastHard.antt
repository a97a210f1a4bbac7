-- What is broken in a schedule, in one line. Rules are numbered from 0 in calls, and from 1 in the text.
use Rattle.std.specs.Prelude.{ℕ, ◌+◌, ◌==◌, List, [], ◌∷◌, ◌++◌, length, slice_get, Option, Some, None, if◌then◌else◌, codes, decimal}
use Rattle.std.specs.List.{concat}
use Rattle.byte_streams.specs.Pieces.{pieces_below}
use Rattle.league.specs.League.{LeagueData}
use Rattle.league.specs.Sums.{sum_below}
use Rattle.league.specs.declared.rule.Rule.{Rule}
use Rattle.league.specs.declared.rule.RuleBody.{RuleBody}
use Rattle.fixtures.specs.Games.{Games}
use Rattle.tours.specs.Phased.{unphased}
use Rattle.tours.specs.Repeats.{repeats}
use Rattle.tours.specs.Streaks.{runs_over}
use Rattle.rules.specs.Deviations.{deviation}
use Rattle.costs.specs.Costs.{cost_of, hard_penalty, penalty_of, unless_free, where_phased}
use Rattle.text_lines.specs.Classes.{class_name}
use Rattle.text_lines.specs.Lines.{counted}

-- what stands before a part, behind so many breaches
abbrev pub lead_text : ℕ → List ℕ
lead_text before = if before == 0 then codes ": " else codes ", "

-- a part that is broken so often, behind so many breaches of other parts
abbrev pub part_text : ℕ → List ℕ → ℕ → List ℕ
part_text before name n = if n == 0 then [] else lead_text before ++ name ++ decimal n

abbrev pub rule_name : ℕ → RuleBody → List ℕ
rule_name i body = concat (codes "rule " ∷ decimal (i + 1) ∷ codes " " ∷ class_name body ∷ codes " " ∷ [])

-- the breaches of the hard rules, of so many rules
abbrev pub breaches_of : List Rule → Games → ℕ → ℕ
breaches_of rules g n = sum_below n (λ i. penalty_of hard_penalty g (slice_get rules i))

-- a rule that is hard and broken, behind so many breaches
abbrev pub rule_part : Games → ℕ → ℕ → Option Rule → List ℕ
rule_part g before i None = []
rule_part g before i (Some rule) = part_text before (rule_name i rule.body) (hard_penalty rule.weight (deviation g rule.body))

-- the rules in their order, behind so many breaches of what is no rule
abbrev pub rule_parts : List Rule → Games → ℕ → List ℕ
rule_parts rules g before = pieces_below (λ i. rule_part g (before + breaches_of rules g i) i (slice_get rules i)) (length rules)

-- the numbers of the parts, added up
abbrev pub breaches_told : LeagueData → Games → ℕ
breaches_told l g = runs_over g l.at_most + unless_free l (repeats g) + where_phased l (unphased g) + breaches_of l.rules g (length l.rules)

-- the hard breaches, and each part that is broken
unfoldable pub least_hard_line : LeagueData → Games → List ℕ
least_hard_line l g =
    let runs = runs_over g l.at_most in
    let repeats = unless_free l (repeats g) in
    let halves = where_phased l (unphased g) in
    counted (codes "least hard ") (cost_of l g).hard ++ part_text 0 (codes "runs ") runs ++
    part_text runs (codes "repeats ") repeats ++ part_text (runs + repeats) (codes "halves ") halves ++
    rule_parts l.rules g (runs + repeats + halves) ++ codes "\n"
