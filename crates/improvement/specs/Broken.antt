-- What is broken in the best schedules of chains.
use Rattle.std.specs.Prelude.{ℕ, ◌==◌, nat_lt, Bool, List, [], ◌∷◌, ◌++◌, length, slice_get, Option, Some, None, if◌then◌else◌}
use Rattle.std.specs.Prelude.{codes, decimal}
use Rattle.std.specs.List.{concat, count_by}
use Rattle.byte_streams.specs.Pieces.{pieces_below}
use Rattle.league.specs.League.{LeagueData}
use Rattle.league.specs.declared.rule.Rule.{Rule}
use Rattle.fixtures.specs.Games.{Games}
use Rattle.tours.specs.Phased.{unphased}
use Rattle.tours.specs.Repeats.{repeats}
use Rattle.tours.specs.Streaks.{runs_over}
use Rattle.costs.specs.Costs.{hard_penalty, penalty_of, unless_free, where_phased}
use Rattle.board_texts.specs.LeastHard.{rule_name}
use Rattle.improvement.specs.declared.broken.Part.{Part}
use Rattle.improvement.specs.declared.broken.Part.TheVariants.{Runs, Repeats, Halves, RuleAt}
use Rattle.improvement.specs.declared.chains.ChainBest.{ChainBest}
use Rattle.improvement.specs.Chains.{chains_of}
use Rattle.improvement.specs.Legs.{LegRun, least_reported}

-- how many breaches of a part a schedule has
abbrev pub breaches : LeagueData → Part → Games → ℕ
breaches league Runs g = runs_over g league.at_most
breaches league Repeats g = unless_free league (repeats g)
breaches league Halves g = where_phased league (unphased g)
breaches league (RuleAt i) g = penalty_of hard_penalty g (slice_get league.rules i)

abbrev pub is_broken : LeagueData → Part → ChainBest → Bool
is_broken league part best = nat_lt 0 (breaches league part best.schedule)

-- in how many of these schedules a part is broken
abbrev pub broken_in : LeagueData → Part → List ChainBest → ℕ
broken_in league part bests = count_by (is_broken league part) bests

abbrev pub name_at : ℕ → Option Rule → List ℕ
name_at i None = []
name_at i (Some rule) = rule_name i rule.body

abbrev pub part_name : LeagueData → Part → List ℕ
part_name league Runs = codes "runs "
part_name league Repeats = codes "repeats "
part_name league Halves = codes "halves "
part_name league (RuleAt i) = name_at i (slice_get league.rules i)

-- a part that is broken in so many schedules of so many
abbrev pub broken_words : List ℕ → ℕ → ℕ → List ℕ
broken_words name broken all =
    if broken == 0 then [] else
    name ++ concat (codes "broken in " ∷ decimal broken ∷ codes " of " ∷ decimal all ∷ codes "\n" ∷ [])

abbrev pub broken_line : LeagueData → List ChainBest → Part → List ℕ
broken_line league bests part = broken_words (part_name league part) (broken_in league part bests) (length bests)

abbrev pub rule_lines : LeagueData → List ChainBest → List ℕ
rule_lines league bests = pieces_below (λ i. broken_line league bests (RuleAt i)) (length league.rules)

-- a line for each part that is broken in one of these schedules
unfoldable pub broken_lines : LeagueData → List ChainBest → List ℕ
broken_lines league bests =
    broken_line league bests Runs ++ broken_line league bests Repeats ++ broken_line league bests Halves ++ rule_lines league bests

-- the same if there is no least total
abbrev pub broken_if : Option ℕ → LeagueData → List ChainBest → List ℕ
broken_if None league bests = broken_lines league bests
broken_if (Some least) league bests = []

-- what is reported of the chains of these legs, if none of them met a feasible schedule
abbrev pub broken_text : LeagueData → List LegRun → List ℕ
broken_text league legs = broken_if (least_reported league legs) league (chains_of league legs)
