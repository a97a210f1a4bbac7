-- Each rule in words, with the teams' names: what it asks, of whom and when, and whether it is kept, or else where it is broken.
-- Teams and rounds are numbered from 0 in calls, and from 1 in texts.
use Rattle.std.specs.Prelude.{ℕ, ◌-◌, ◌==◌, ◌||◌, ◌&&◌, List, [], ◌∷◌, ◌++◌, Bool, false, not, nat_lt, min, length, slice_get}
use Rattle.std.specs.Prelude.{Option, Some, None, codes, decimal, if◌then◌else◌}
use Rattle.std.specs.List.{concat, list_any}
use Rattle.fixtures.specs.Games.{Games, round_count}
use Rattle.league.specs.League.{LeagueData, name_of, teams}
use Rattle.league.specs.Sets.{has}
use Rattle.league.specs.Sums.{count_where}
use Rattle.league.specs.declared.rule.Pairing.{Pairing}
use Rattle.league.specs.declared.rule.RuleBody.{RuleBody}
use Rattle.league.specs.declared.rule.RuleBody.TheVariants.{Ca1, Ca2, Ca3, Ca4, Ga1, Br1, Br2, Se1, Fa2}
use Rattle.league.specs.declared.rule.Side.{Side}
use Rattle.league.specs.declared.rule.Side.TheVariants.{Home, Away, Any}
use Rattle.rules.specs.Deviations.{deviation}
use Rattle.report_breaches.specs.declared.breach.Breach.{Breach}
use Rattle.report_breaches.specs.declared.breach.Place.{Place}
use Rattle.report_breaches.specs.declared.breach.Place.TheVariants.{GamesOf, BreaksOf, Window, Round, Pair, PairIn}
use Rattle.report_breaches.specs.Breaches.{breaches_of}
use Rattle.byte_streams.specs.Pieces.{pieces_below}
use Rattle.report_page.specs.Lists.{each_text, pairs_text, rounds_text, teams_text}
use Rattle.report_page.specs.Pieces.{escaped}
use Rattle.report_page.specs.Style.{word_if}

-- what it asks

abbrev pub side_word : Side → List ℕ
side_word Home = codes "home "
side_word Away = codes "away "
side_word Any = []

-- as `at most 2 home games`
abbrev pub most_text : ℕ → Side → List ℕ → List ℕ
most_text count side word =
    concat (codes "at most " ∷ decimal count ∷ codes " " ∷ side_word side ∷ word ∷ word_if (not (count == 1)) (codes "s") ∷ [])

abbrev pub where_word : Side → List ℕ
where_word Home = codes " at home"
where_word Away = codes " away"
where_word Any = codes " playing"

-- whom the games are against, unless it is all the same
unfoldable pub against_text : LeagueData → ℕ → List ℕ
against_text l opponents =
    if count_where (teams l) (has opponents) == teams l then [] else codes " against " ++ teams_text l (has opponents)

-- as `at most 2 of Aarau, Basel and Lugano at home`
abbrev pub most_of_text : LeagueData → ℕ → ℕ → Side → List ℕ
most_of_text l count chosen side =
    concat (codes "at most " ∷ decimal count ∷ codes " of " ∷ []) ++ teams_text l (has chosen) ++ where_word side

-- how many
abbrev pub range_text : ℕ → ℕ → List ℕ
range_text least most =
    if least == most then codes "exactly " ++ decimal most
    else if least == 0 then codes "at most " ++ decimal most
    else concat (codes "from " ∷ decimal least ∷ codes " to " ∷ decimal most ∷ [])

-- how often
abbrev pub times_text : ℕ → ℕ → List ℕ
times_text least most = concat (range_text least most ∷ codes " time" ∷ word_if (not (most == 1)) (codes "s") ∷ [])

abbrev pub game_text : LeagueData → ℕ → Pairing → List ℕ
game_text l i game =
    concat (word_if (not (i == 0)) (codes ", ") ∷ escaped (name_of l game.home) ∷ codes " - " ∷ escaped (name_of l game.away) ∷ [])

-- if there is one
abbrev pub game_at : LeagueData → ℕ → Option Pairing → List ℕ
game_at l i None = []
game_at l i (Some game) = game_text l i game

-- how many more there are than the first six, if there are
abbrev pub more_text : ℕ → List ℕ
more_text count = if nat_lt 6 count then concat (codes " and " ∷ decimal (count - 6) ∷ codes " more" ∷ []) else []

-- the first six
abbrev pub first_games : LeagueData → List Pairing → List ℕ
first_games l games = pieces_below (λ i. game_at l i (slice_get games i)) (min 6 (length games))

-- as `at most 1 of no games`
abbrev pub no_games_text : ℕ → ℕ → List ℕ
no_games_text least most = range_text least most ++ codes " of no games"

-- as `the game Aarau - Basel exactly 1 time`
abbrev pub one_game_text : LeagueData → List Pairing → ℕ → ℕ → List ℕ
one_game_text l games least most = codes "the game " ++ first_games l games ++ codes " " ++ times_text least most

-- as `at most 1 of the games Aarau - Basel, Basel - Aarau`: the first six, and how many more there are
abbrev pub some_games_text : LeagueData → List Pairing → ℕ → ℕ → List ℕ
some_games_text l games least most = range_text least most ++ codes " of the games " ++ first_games l games ++ more_text (length games)

-- how many of which games
unfoldable pub games_range : LeagueData → List Pairing → ℕ → ℕ → List ℕ
games_range l games least most =
    if length games == 0 then no_games_text least most
    else if length games == 1 then one_game_text l games least most else some_games_text l games least most

-- as `at least 2 rounds between both games`
abbrev pub apart_text : ℕ → List ℕ
apart_text least =
    concat (codes "at least " ∷ decimal least ∷ codes " round" ∷ word_if (not (least == 1)) (codes "s") ∷ codes " between both games" ∷ [])

abbrev pub gap_text : ℕ → List ℕ
gap_text most = concat (codes "numbers of home games at most " ∷ decimal most ∷ codes " apart" ∷ [])

abbrev pub most_against : LeagueData → ℕ → Side → ℕ → List ℕ
most_against l most side opponents = most_text most side (codes "game") ++ against_text l opponents

abbrev pub most_of_against : LeagueData → ℕ → ℕ → Side → ℕ → List ℕ
most_of_against l most chosen side opponents = most_of_text l most chosen side ++ against_text l opponents

-- at least two of the teams
abbrev pub are_several : LeagueData → ℕ → Bool
are_several l chosen = nat_lt 1 (count_where (teams l) (has chosen))

unfoldable pub what_text : LeagueData → RuleBody → List ℕ
what_text l (Ca1 chosen side slots most) = most_text most side (codes "game")
what_text l (Ca2 chosen side opponents slots most) = most_against l most side opponents
what_text l (Ca3 chosen side opponents window most) = most_against l most side opponents
what_text l (Ca4 chosen side opponents slots each most) =
    if each && are_several l chosen then most_of_against l most chosen side opponents else most_against l most side opponents
what_text l (Ga1 games slots least most) = games_range l games least most
what_text l (Br1 chosen side slots most) = most_text most side (codes "break")
what_text l (Br2 chosen slots most) = most_text most Any (codes "break")
what_text l (Se1 chosen least) = apart_text least
what_text l (Fa2 chosen slots most) = gap_text most

-- of whom

abbrev pub for_each : LeagueData → ℕ → List ℕ
for_each l chosen = codes " for " ++ each_text l (has chosen)

abbrev pub for_all : LeagueData → ℕ → List ℕ
for_all l chosen = codes " for " ++ teams_text l (has chosen) ++ word_if (are_several l chosen) (codes " together")

abbrev pub for_pairs : LeagueData → ℕ → List ℕ
for_pairs l chosen = codes " for " ++ pairs_text l (has chosen)

unfoldable pub whom_text : LeagueData → RuleBody → List ℕ
whom_text l (Ca1 chosen side slots most) = for_each l chosen
whom_text l (Ca2 chosen side opponents slots most) = for_each l chosen
whom_text l (Ca3 chosen side opponents window most) = for_each l chosen
whom_text l (Ca4 chosen side opponents slots each most) = if each && are_several l chosen then [] else for_all l chosen
whom_text l (Ga1 games slots least most) = []
whom_text l (Br1 chosen side slots most) = for_each l chosen
whom_text l (Br2 chosen slots most) = for_all l chosen
whom_text l (Se1 chosen least) = for_pairs l chosen
whom_text l (Fa2 chosen slots most) = for_pairs l chosen

-- when

-- in which rounds, behind a word, or else what says that it is in each
abbrev pub slots_text : ℕ → List ℕ → List ℕ → ℕ → List ℕ
slots_text rounds always word slots =
    if count_where rounds (has slots) == rounds then always else word ++ rounds_text rounds (has slots)

-- what stands before so many rounds, each of which is told of by itself
abbrev pub each_word : ℕ → List ℕ
each_word count = if nat_lt 1 count then codes " in a round out of " else codes " in "

abbrev pub each_slot_text : ℕ → ℕ → List ℕ
each_slot_text rounds slots = slots_text rounds (codes " in a round") (each_word (count_where rounds (has slots))) slots

abbrev pub window_text : ℕ → List ℕ
window_text window =
    if window == 1 then codes " in any round" else concat (codes " in any " ∷ decimal window ∷ codes " rounds in a row" ∷ [])

unfoldable pub when_text : ℕ → RuleBody → List ℕ
when_text rounds (Ca1 chosen side slots most) = slots_text rounds [] (codes " in ") slots
when_text rounds (Ca2 chosen side opponents slots most) = slots_text rounds [] (codes " in ") slots
when_text rounds (Ca3 chosen side opponents window most) = window_text window
when_text rounds (Ca4 chosen side opponents slots each most) =
    if each then each_slot_text rounds slots else slots_text rounds [] (codes " in ") slots
when_text rounds (Ga1 games slots least most) = slots_text rounds [] (codes " in ") slots
when_text rounds (Br1 chosen side slots most) = slots_text rounds [] (codes " in ") slots
when_text rounds (Br2 chosen slots most) = slots_text rounds [] (codes " in ") slots
when_text rounds (Se1 chosen least) = []
when_text rounds (Fa2 chosen slots most) = slots_text rounds (codes " after every round") (codes " after ") slots

-- whether it is kept

-- whether a breach at a place tells of a team, or of a round
abbrev pub tells_team : Place → ℕ → Bool
tells_team (GamesOf of) team = team == of
tells_team (BreaksOf of) team = team == of
tells_team (Window of first last) team = team == of
tells_team (Pair low high) team = team == low || team == high
tells_team (PairIn low high round) team = team == low || team == high
tells_team place team = false

abbrev pub tells_round : Place → ℕ → Bool
tells_round (Round of) round = round == of
tells_round place round = false

-- whether one of the breaches does
abbrev pub tell_team : List Breach → ℕ → Bool
tell_team breaches team = list_any (λ (breach : Breach). tells_team breach.place team) breaches

abbrev pub tell_round : List Breach → ℕ → Bool
tell_round breaches round = list_any (λ (breach : Breach). tells_round breach.place round) breaches

abbrev pub broken_for : LeagueData → List Breach → List ℕ
broken_for l breaches = codes ": broken for " ++ teams_text l (tell_team breaches)

abbrev pub broken_among : LeagueData → List Breach → List ℕ
broken_among l breaches = codes ": broken among " ++ teams_text l (tell_team breaches)

abbrev pub broken_in : LeagueData → List Breach → List ℕ
broken_in l breaches = codes ": broken in " ++ rounds_text (round_count (teams l)) (tell_round breaches)

abbrev pub broken_by : ℕ → List ℕ
broken_by by = codes ": broken by " ++ decimal by

-- where a rule is broken that has these breaches, which are by so much together
unfoldable pub broken_text : LeagueData → RuleBody → List Breach → ℕ → List ℕ
broken_text l (Ca1 chosen side slots most) breaches by = broken_for l breaches
broken_text l (Ca2 chosen side opponents slots most) breaches by = broken_for l breaches
broken_text l (Ca3 chosen side opponents window most) breaches by = broken_for l breaches
broken_text l (Ca4 chosen side opponents slots each most) breaches by = if each then broken_in l breaches else broken_by by
broken_text l (Ga1 games slots least most) breaches by = broken_by by
broken_text l (Br1 chosen side slots most) breaches by = broken_for l breaches
broken_text l (Br2 chosen slots most) breaches by = broken_by by
broken_text l (Se1 chosen least) breaches by = broken_among l breaches
broken_text l (Fa2 chosen slots most) breaches by = broken_among l breaches

unfoldable pub verdict_text : LeagueData → Games → RuleBody → List ℕ
verdict_text l g body =
    if deviation g body == 0 then codes ": kept" else broken_text l body (breaches_of g body) (deviation g body)

-- the rule in words
unfoldable pub rule_words : LeagueData → Games → RuleBody → List ℕ
rule_words l g body = what_text l body ++ whom_text l body ++ when_text (round_count (teams l)) body ++ verdict_text l g body
