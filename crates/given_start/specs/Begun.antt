-- The league that begins at a schedule of one's own, and keeps what is asked for.
use Rattle.std.specs.Prelude.{ℕ, zero, suc, ◌==◌, ◌&&◌, Bool, true, not, nat_lt, List, [], ◌∷◌, if◌then◌else◌}
use Rattle.std.specs.Prelude.{Option, Some, None, option_map, Result, Ok, Err}
use Rattle.std.specs.Str.Lines.{lines}
use Rattle.sets.specs.Limits.{max_rounds, round_count}
use Rattle.sets.specs.Sets.{has}
use Rattle.sets.specs.Sums.{any_below}
use Rattle.fixtures.specs.Games.{Games}
use Rattle.league.specs.League.{LeagueData, teams}
use Rattle.league.specs.Starts.{beginning_at, keeping, near_at, start_round}
use Rattle.schedule_csv.specs.declared.fault.RowFault.{RowFault}
use Rattle.schedule_csv.specs.declared.fault.TableFault.{TableFault}
use Rattle.schedule_csv.specs.declared.fault.TableFault.TheVariants as table
use Rattle.schedule_csv.specs.Table.{schedule_lines}
use Rattle.schedule_texts.specs.Faults.{faults_text}
use Rattle.schedule_texts.specs.Faultless.{schedule_of}
use Rattle.schedule_texts.specs.LastSheet.{has_round_line, last_sheet}
use Rattle.given_start.specs.declared.begun.Beginning.{Beginning}
use Rattle.given_start.specs.declared.fault.BeginFault.{BeginFault}
use Rattle.given_start.specs.declared.fault.BeginFault.TheVariants.{Row, NoRound, NotRoundRobin, RoundRange, GameRange, Memory}

-- ---- the start

-- at the double round robin that a text gives, if it gives one
abbrev pub started_with : LeagueData → Option Games → Result LeagueData BeginFault
started_with l None = Err NotRoundRobin
started_with l (Some g) = Ok (beginning_at g l)

-- at the last sheet among the lines
abbrev pub started_at_text : LeagueData → List (List ℕ) → Result LeagueData BeginFault
started_at_text l lines = if has_round_line (last_sheet lines) then started_with l (schedule_of (teams l) lines) else Err NoRound

abbrev pub started_if : LeagueData → Result (List (List ℕ)) RowFault → Result LeagueData BeginFault
started_if l (Ok lines) = started_at_text l lines
started_if l (Err fault) = Err (Row fault)

-- at the schedule of a text, which may be a table
abbrev pub started_at : LeagueData → List (List ℕ) → Result LeagueData BeginFault
started_at l given = started_if l (schedule_lines l given)

-- ---- what is kept

-- whether the season of n teams lacks one of the rounds
abbrev pub lacks_round : ℕ → ℕ → Bool
lacks_round n rounds = any_below max_rounds (λ round. has rounds round && not (nat_lt round (round_count n)))

abbrev pub is_pair : ℕ → ℕ × ℕ → Bool
is_pair n game = nat_lt game.0 n && nat_lt game.1 n && not (game.0 == game.1)

-- whether each game is between two of n teams
abbrev pub are_pairs : ℕ → List (ℕ × ℕ) → Bool
are_pairs n [] = true
are_pairs n (game ∷ games) = is_pair n game && are_pairs n games

-- with the game of these two teams kept, if it is in one of the rounds at the start
abbrev pub keeping_in : ℕ → ℕ → ℕ → LeagueData → LeagueData
keeping_in rounds home away l =
    if not (home == away) && has rounds (start_round l home away) then keeping home away l else l

-- with those of a home team against the teams below m
abbrev pub keeping_at : ℕ → ℕ → ℕ → LeagueData → LeagueData
keeping_at rounds home zero l = l
keeping_at rounds home (suc m) l = keeping_in rounds home m (keeping_at rounds home m l)

-- with those of the home teams below m
abbrev pub keeping_below : ℕ → ℕ → LeagueData → LeagueData
keeping_below rounds zero l = l
keeping_below rounds (suc m) l = keeping_at rounds m (teams l) (keeping_below rounds m l)

-- with all games that the rounds have at the start
abbrev pub keeping_rounds : ℕ → LeagueData → LeagueData
keeping_rounds rounds l = keeping_below rounds (teams l) l

-- with these games of the start, the home team first
abbrev pub keeping_games : List (ℕ × ℕ) → LeagueData → LeagueData
keeping_games [] l = l
keeping_games (game ∷ games) l = keeping_games games (keeping game.0 game.1 l)

-- with this price on leaving the start, if it isn't 0
abbrev pub priced : ℕ → LeagueData → LeagueData
priced near l = if near == 0 then l else near_at near l

-- the league that keeps what is to be kept of its start
abbrev pub kept_from : Beginning → LeagueData → Result LeagueData BeginFault
kept_from b l =
    if lacks_round (teams l) b.rounds then Err RoundRange
    else if not (are_pairs (teams l) b.games.now) then Err GameRange
    else Ok (priced b.near (keeping_games b.games.now (keeping_rounds b.rounds l)))

-- ---- both

abbrev pub kept_if : Beginning → Result LeagueData BeginFault → Result LeagueData BeginFault
kept_if b (Ok l) = kept_from b l
kept_if b (Err fault) = Err fault

-- at the schedule of the text, if there is one, or else at its own start
abbrev pub started : LeagueData → Option (List (List ℕ)) → Result LeagueData BeginFault
started l None = Ok l
started l (Some lines) = started_at l lines

-- the league that begins there, or the first fault
unfoldable pub begun : LeagueData → Beginning → Result LeagueData BeginFault
begun l b = kept_if b (started l (option_map (λ text. lines text.now) b.from))

abbrev pub of_table : TableFault → BeginFault
of_table (table.Row fault) = Row fault
of_table table.Memory = Memory

-- ---- what is wrong with a text

abbrev pub faults_if : LeagueData → Result (List (List ℕ)) RowFault → List ℕ
faults_if l (Ok lines) = faults_text (teams l) lines
faults_if l (Err fault) = []

-- the faults of the last sheet among the lines, or of a table's games if each row gives one
abbrev pub start_faults : LeagueData → List (List ℕ) → List ℕ
start_faults l given = faults_if l (schedule_lines l given)
