-- No number of a report is a float.
use Rattle.std.proofs.Common.{◌≡◌, refl, ℕ, zero, suc, ◌+◌, List, [], ◌∷◌, ◌++◌, Bool, true, false, Option, Some, None, length, slice_get}
use Rattle.std.specs.Prelude.{◌||◌, ◌-◌, ◌==◌, ◌&&◌, map, if◌then◌else◌}
use Rattle.serde_json.specs.Data.{Data}
use Rattle.serde_json.specs.View.{items_of}
use Rattle.serde_json.specs.Written.{has_float, items_have_float}
use Rattle.league.specs.League.{LeagueData, teams}
use Rattle.league.specs.declared.rule.Rule.{Rule}
use Rattle.league.specs.declared.rule.RuleBody.{RuleBody}
use Rattle.league.specs.declared.rule.Weight.{Weight}
use Rattle.league.specs.declared.rule.Weight.TheVariants.{Hard, Soft}
use Rattle.fixtures.specs.Games.{Games, cell, is_home, round_count, round_of}
use Rattle.costs.specs.declared.cost.Cost.{Cost}
use Rattle.costs.specs.Costs.{cost_of}
use Rattle.tours.specs.Phased.{is_unphased}
use Rattle.report_breaches.specs.declared.breach.Breach.{Breach}
use Rattle.report_breaches.specs.declared.breach.Place.{Place}
use Rattle.report_breaches.specs.declared.breach.Place.TheVariants.{GamesOf, BreaksOf, Window, Round, Together, GamesOver, GamesUnder, Pair}
use Rattle.report_breaches.specs.declared.breach.Place.TheVariants.{PairIn}
use Rattle.report_breaches.specs.Breaches.{breaches_of}
use Rattle.report_text.specs.CostText.{repeats_lower}
use Rattle.report_text.specs.Runs.{ended_streak, is_over}
use Rattle.report_json.specs.Labels.{round_text_at, round_texts_data, short_name_at, short_names_data, text_at, title_data}
use Rattle.report_json.specs.Parts.{meetings, parts_below}
use Rattle.report_json.specs.Rounds.{game_at, game_data, names_data, places_data, round_data, rounds_data, tour_data, tours_data}
use Rattle.report_json.specs.Sides.{half_at, halves_data, halves_of, repeat_at, repeats_after, repeats_data, run_data, runs_data}
use Rattle.report_json.specs.Sides.{runs_of}
use Rattle.report_json.specs.Rules.{breach_data, breaches_data, games_named, named_at, named_data, named_in, names_game, place_data}
use Rattle.report_json.specs.Rules.{rule_at, rules_data, weight_data}
use Rattle.report_json.specs.JsonReport.{cost_data, league_data, report_data}

-- none of them has a float
abbrev Free : List Data → Type 0
Free parts = items_have_float (items_of parts) ≡ false

append_free : (a b : List Data) → Free a → Free b → Free (a ++ b)
append_free [] b first second = second
append_free (d ∷ ds) b first second = by_head (has_float d) (items_have_float (items_of ds)) (items_have_float (items_of (ds ++ b))) first
    (λ rest. append_free ds b rest second)
  where
    by_head : (head tail whole : Bool) → (head || tail) ≡ false → (tail ≡ false → whole ≡ false) → (head || whole) ≡ false
    by_head true tail whole none rest = none
    by_head false tail whole none rest = rest none

below_free : (part : ℕ → List Data) → ((k : ℕ) → Free (part k)) → (n : ℕ) → Free (parts_below part n)
below_free part each zero = refl
below_free part each (suc n) = append_free (parts_below part n) (part n) (below_free part each n) (each n)

one_free : (d : Data) → has_float d ≡ false → Free (d ∷ [])
one_free d none = rw none refl

if_free : (test : Bool) (parts : List Data) → Free parts → Free (if test then parts else [])
if_free true parts free = free
if_free false parts free = refl

unless_free : (test : Bool) (parts : List Data) → Free parts → Free (if test then [] else parts)
unless_free true parts free = refl
unless_free false parts free = free

map_free : {T : Type 0} (part : T → Data) → ((x : T) → has_float (part x) ≡ false) → (xs : List T) → Free (map part xs)
map_free part each [] = refl
map_free part each (x ∷ xs) = rw (each x) (map_free part each xs)

round_free : (l : LeagueData) (g : Games) (round : ℕ) → has_float (round_data l g round) ≡ false
round_free l g round =
    below_free (game_at l g round)
    (λ team. if_free (cell g team round).home (game_data l team (cell g team round).opponent ∷ []) refl) g.teams

rounds_free : (l : LeagueData) (g : Games) → has_float (rounds_data l g) ≡ false
rounds_free l g =
    below_free (λ round. round_data l g round ∷ []) (λ round. one_free (round_data l g round) (round_free l g round))
    (round_count g.teams)

places_free : (g : Games) (team : ℕ) → has_float (places_data g team) ≡ false
places_free g team = below_free _ (λ round. refl) (round_count g.teams)

tours_free : (l : LeagueData) (g : Games) → has_float (tours_data l g) ≡ false
tours_free l g = below_free (λ team. tour_data l g team ∷ []) (λ team. rw (places_free g team) refl) g.teams

title_free : (title : Option (List ℕ)) → has_float (title_data title) ≡ false
title_free None = refl
title_free (Some title) = refl

text_free : (text : Option (List ℕ)) → Free (text_at text)
text_free None = refl
text_free (Some text) = refl

short_names_free : (l : LeagueData) → has_float (short_names_data l) ≡ false
short_names_free l = below_free (short_name_at l) (λ team. text_free (slice_get l.labels.short_names team)) (teams l)

round_texts_free : (l : LeagueData) → has_float (round_texts_data l) ≡ false
round_texts_free l =
    below_free (round_text_at l) (λ round. text_free (slice_get l.labels.round_texts round)) (round_count (teams l))

names_free : (l : LeagueData) (n : ℕ) → has_float (names_data l n) ≡ false
names_free l n = below_free _ (λ team. refl) n

runs_free : (g : Games) (at_most : ℕ) → has_float (runs_data g at_most) ≡ false
runs_free g at_most =
    below_free (runs_of g at_most) (λ team. below_free _
    (λ round. unless_free (ended_streak (is_over g at_most team) round == 0)
    (run_data at_most (is_home g team (round - 1)) team round (ended_streak (is_over g at_most team) round) ∷ []) refl)
    (round_count g.teams)) g.teams

repeats_free : (l : LeagueData) (g : Games) → has_float (repeats_data l g) ≡ false
repeats_free l g = unless_free l.free_repeats (parts_below (repeats_after g) (round_count g.teams - 1))
    (below_free (repeats_after g) (λ round. below_free (repeat_at g round)
    (λ team. if_free (repeats_lower g round team) (meetings (cell g team round).opponent team round (round + 1) ∷ []) refl) g.teams)
    (round_count g.teams - 1))

halves_free : (l : LeagueData) (g : Games) → has_float (halves_data l g) ≡ false
halves_free l g = if_free l.phased (parts_below (halves_of g) g.teams) (below_free (halves_of g) (λ high. below_free (half_at g high)
    (λ low. if_free (is_unphased g low high) (meetings low high (round_of g low high) (round_of g high low) ∷ []) refl) high) g.teams)

place_free : (place : Place) → has_float (place_data place) ≡ false
place_free (GamesOf team) = refl
place_free (BreaksOf team) = refl
place_free (Window team first last) = refl
place_free (Round round) = refl
place_free Together = refl
place_free GamesOver = refl
place_free GamesUnder = refl
place_free (Pair low high) = refl
place_free (PairIn low high round) = refl

named_free : (g : Games) (body : RuleBody) (place : Place) → has_float (games_named g body place) ≡ false
named_free g body place = below_free (named_in g body place) (λ round. below_free (named_at g body place round)
    (λ team. if_free ((cell g team round).home && names_game g body place team (cell g team round).opponent round)
    (named_data team (cell g team round).opponent round ∷ []) refl) g.teams) (round_count g.teams)

breach_free : (g : Games) (body : RuleBody) (breach : Breach) → has_float (breach_data g body breach) ≡ false
breach_free g body breach = rw (named_free g body breach.place, place_free breach.place) refl

breaches_free : (g : Games) (body : RuleBody) → has_float (breaches_data g body) ≡ false
breaches_free g body = map_free (breach_data g body) (breach_free g body) (breaches_of g body)

weight_free : (weight : Weight) → has_float (weight_data weight) ≡ false
weight_free Hard = refl
weight_free (Soft weight) = refl

rule_free : (g : Games) (i : ℕ) (rule : Option Rule) → Free (rule_at g i rule)
rule_free g i None = refl
rule_free g i (Some rule) = rw (breaches_free g rule.body, weight_free rule.weight) refl

rules_free : (l : LeagueData) (g : Games) → has_float (rules_data l g) ≡ false
rules_free l g = below_free (λ i. rule_at g i (slice_get l.rules i)) (λ i. rule_free g i (slice_get l.rules i)) (length l.rules)

either_free : (test : Bool) (a b : Data) → has_float a ≡ false → has_float b ≡ false → has_float (if test then a else b) ≡ false
either_free true a b first second = first
either_free false a b first second = second

cost_free : (l : LeagueData) (g : Games) (cost : Cost) → has_float (cost_data l g cost) ≡ false
cost_free l g cost = rw (either_free (cost.hard == 0) _ _ refl refl) refl

league_free : (l : LeagueData) → has_float (league_data l) ≡ false
league_free l = rw (title_free l.labels.title, round_texts_free l, short_names_free l, names_free l (teams l)) refl

pub report_free : (l : LeagueData) (g : Games) → has_float (report_data l g) ≡ false
unfolding report_data
report_free l g = rw (
  cost_free l g (cost_of l g),
  halves_free l g,
  league_free l,
  repeats_free l g,
  rounds_free l g,
  rules_free l g,
  runs_free g l.at_most,
  tours_free l g,
) refl
