-- The history that a script leads to, given as a script itself, leads to the same history.
use Rattle.std.proofs.Common.{◌≡◌, ℕ, ◌<◌, ◌≤◌, nat_lt, not, ◌&&◌, ◌==◌, Bool, true, false, List, [], ◌∷◌, ◌++◌, length}
use Rattle.std.proofs.Common.{Option, Some, None, Ok, is_ok, true≢false, refl, sym, ap, ◌∙◌, arith}
use Rattle.std.specs.Str.Lines.{lines}
use Rattle.std.proofs.lemmas.Bool.{and_parts, ltb-true}
use Rattle.league.specs.Limits.{max_teams}
use Rattle.league.specs.League.{LeagueData, IsLeague}
use Rattle.fixtures.specs.declared.game.Game.{Game}
use Rattle.fixtures.specs.Games.{Games, round_count}
use Rattle.moves.specs.declared.moves.Move.{Move}
use Rattle.moves.specs.declared.moves.Move.TheVariants.{Homes, Rounds, Teams, PartRounds, PartTeams}
use Rattle.moves.specs.Moves.{are_distinct_below, fault_of, is_in_range as is_move}
use Rattle.fixture_board.specs.declared.ask.Ask.{Ask}
use Rattle.fixture_board.specs.declared.change.Change.{Change}
use Rattle.fixture_board.specs.declared.change.Change.TheVariants as change
use Rattle.fixture_board.specs.declared.change.Entry.{Entry}
use Rattle.fixture_board.specs.declared.reply.Why.{Why}
use Rattle.fixture_board.specs.History.{best_of, effective, games_of, pins_of, legal_after, IsLegal, May}
use Rattle.fixture_board.specs.Replay.{changes_of, under_caller_0}
use Rattle.fixture_board.specs.Replies.{ask_of, ask_with, entry, greatest, next_if, next_of, refusal, played_from as changes_played}
use Rattle.fixtures.specs.Draft.{is_game_in_range}
use Rattle.fixtures.proofs.ForCallers.{game_passed}
use Rattle.fixture_board.proofs.ForCallers.{FitFrom, all_stand_fit, fit_from_more, games_of_teams, is_legal_next}
use Rattle.fixture_board.proofs.ForCallers.{is_legal_none, pinned_stands, replayed}
use Rattle.board_texts.specs.Command.{line_of}
use Rattle.board_texts.specs.PlayText.{IsPlayedAgain, change_lines, history_after, played, played_from, slack_after}
use Rattle.board_texts.specs.SearchText.{PlaysBack}
use Rattle.board_texts.specs.declared.script_line.ScriptLine.{ScriptLine}
use Rattle.board_texts.specs.declared.script_line.ScriptLine.TheVariants as line
use Rattle.board_texts.proofs.WrittenLines.{AreSmall, IsSmall, IsSmallGame, IsSmallMove, bare_lines, line_read, lines-change_lines}

-- ---- the numbers of a legal history are small

distinct_small : (n i j : ℕ) → n ≤ 255 → are_distinct_below n i j ≡ true → (i < 255) × (j < 255)
distinct_small n i j few are =
    let parts = and_parts (nat_lt i n && nat_lt j n) (not (i == j)) are in
    let both = and_parts (nat_lt i n) (nat_lt j n) parts.0 in
    (omega (arith, ltb-true i n both.0), omega (arith, ltb-true j n both.1))

IsSmallMove-in_range : (g : Games) (mv : Move) → g.teams ≤ max_teams → is_move g mv ≡ true → IsSmallMove mv
IsSmallMove-in_range g (Homes i j) few in_range = distinct_small g.teams i j (omega arith) in_range
IsSmallMove-in_range g (Rounds k l) few in_range = distinct_small (round_count g.teams) k l (omega arith) in_range
IsSmallMove-in_range g (Teams i j) few in_range = distinct_small g.teams i j (omega arith) in_range
IsSmallMove-in_range g (PartRounds i k l) few in_range =
    let parts = and_parts (nat_lt i g.teams) (are_distinct_below (round_count g.teams) k l) in_range in
    let rounds = distinct_small (round_count g.teams) k l (omega arith) parts.1 in
    (omega (arith, ltb-true i g.teams parts.0), rounds.0, rounds.1)
IsSmallMove-in_range g (PartTeams i j k) few in_range =
    let parts = and_parts (are_distinct_below g.teams i j) (nat_lt k (round_count g.teams)) in_range in
    let both = distinct_small g.teams i j (omega arith) parts.0 in
    (both.0, both.1, omega (arith, ltb-true k (round_count g.teams) parts.1))

-- a move without a fault has its numbers in range
in_range_of : (g : Games) (mv : Move) → fault_of g mv ≡ Ok tt → is_move g mv ≡ true
in_range_of g mv none = go (is_move g mv) refl
  where
    go : (b : Bool) → is_move g mv ≡ b → b ≡ true
    go true is = refl
    go false is = absurd (true≢false (sym (ap is_ok (rw is at none))))

IsSmallGame-in_range : (g : Games) (game : Game) → g.teams ≤ max_teams → is_game_in_range g.teams game ≡ true → IsSmallGame game
IsSmallGame-in_range g game few in_range =
    let is = game_passed g.teams game in_range in
    (omega (arith, is.in_range), omega (arith, is.pair.home_in), omega (arith, is.pair.away_in))

few_teams : (league : LeagueData) (h : List Entry) → IsLeague league → (games_of league h).teams ≤ max_teams
few_teams league h is = omega (arith, games_of_teams league h, is.table.most)

IsSmall-may : (league : LeagueData) (h : List Entry) (c : Change) → IsLeague league → FitFrom league (effective h) → May league h c →
    IsSmall c
IsSmall-may league h (change.Shift mv) is all may =
    IsSmallMove-in_range (games_of league h) mv (few_teams league h is) (in_range_of (games_of league h) mv may.0)
IsSmall-may league h (change.Pin game) is all may = IsSmallGame-in_range (games_of league h) game (few_teams league h is) may.0
IsSmall-may league h (change.Unpin game) is all may =
    let stands = pinned_stands (games_of league h) (pins_of league h) game (all_stand_fit league h is all) may in
    IsSmallGame-in_range (games_of league h) game (few_teams league h is) stands.0
IsSmall-may league h change.Undo is all may = tt

AreSmall-after : (league : LeagueData) (room : ℕ) (before h : List Entry) → IsLeague league → FitFrom league (effective before)
    → legal_after league room before h → AreSmall h
AreSmall-after league room before [] is all legal = tt
AreSmall-after league room before (e ∷ h) is all legal = (
  IsSmall-may league before e.change is all legal.0.1,
  AreSmall-after league room (before ++ e ∷ []) h is (fit_from_more league before e all legal.0.1) legal.1,
)

AreSmall-legal : (league : LeagueData) (room : ℕ) (h : List Entry) → IsLeague league → IsLegal league room h → AreSmall h
unfolding IsLegal effective
AreSmall-legal league room h is legal = AreSmall-after league room [] h is tt legal

-- ---- what a script leads to is legal, and all of caller 0

under-more : (h : List Entry) (c : Change) → under_caller_0 (h ++ record { caller = 0; change = c } ∷ []) ≡ under_caller_0 h ++
    record { caller = 0; change = c } ∷ []
under-more [] c = refl
under-more (e ∷ h) c = ap (λ rest. record { caller = 0; change = e.change } ∷ rest) (under-more h c)

same-next_if : (h : List Entry) (c : Change) (reason : Option Why) → under_caller_0 h ≡ h
    → under_caller_0 (next_if reason h (record { caller = 0; change = c })) ≡ next_if reason h (record { caller = 0; change = c })
same-next_if h c None same = under-more h c ∙ ap (λ l. l ++ record { caller = 0; change = c } ∷ []) same
same-next_if h c (Some reason) same = same

same-next : (league : LeagueData) (room : ℕ) (h : List Entry) (ask : Ask) → under_caller_0 h ≡ h
    → under_caller_0 (next_of league room h 0 ask) ≡ next_of league room h 0 ask
unfolding next_of
same-next league room h ask same = same-next_if h (entry 0 ask).change (refusal league room h ask) same

-- a legal history of caller 0 alone
record IsPlayed (league : LeagueData) (room : ℕ) (h : List Entry) : Type 0 where
  legal : IsLegal league room h
  same : under_caller_0 h ≡ h

IsPlayed-line : (league : LeagueData) (room : ℕ) (h : List Entry) (slack : ℕ) (l : ScriptLine) → IsPlayed league room h →
    IsPlayed league room (history_after league room h slack l)
IsPlayed-line league room h slack line.Skip is = is
IsPlayed-line league room h slack (line.Slack given) is = is
IsPlayed-line league room h slack (line.Asks c) is = record {
  legal = is_legal_next league room h 0 (ask_with (length h) slack c) is.legal;
  same = same-next league room h (ask_with (length h) slack c) is.same;
}
IsPlayed-line league room h slack (line.Tries mv) is = is
IsPlayed-line league room h slack line.Bad is = is

IsPlayed-from : (league : LeagueData) (room : ℕ) (h : List Entry) (slack : ℕ) (script : List (List ℕ)) → IsPlayed league room h →
    IsPlayed league room (played_from league room h slack script)
IsPlayed-from league room h slack [] is = is
IsPlayed-from league room h slack (l ∷ script) is =
    IsPlayed-from league room (history_after league room h slack (line_of l)) (slack_after league room slack (line_of l)) script
    (IsPlayed-line league room h slack (line_of l) is)

IsPlayed-played : (league : LeagueData) (room : ℕ) (script : List (List ℕ)) → IsPlayed league room (played league room script)
unfolding played
IsPlayed-played league room script =
    IsPlayed-from league room [] greatest script (record { legal = is_legal_none league room; same = refl })

-- ---- the written lines, played

lines_played : (league : LeagueData) (room : ℕ) (before h : List Entry) → AreSmall h
    → played_from league room before greatest (bare_lines h) ≡ changes_played league room before (changes_of h)
lines_played league room before [] small = refl
lines_played league room before (e ∷ h) small =
    ap (λ l. played_from league room (history_after league room before greatest l) (slack_after league room greatest l) (bare_lines h))
    (line_read e.change small.0) ∙
    lines_played league room (next_of league room before 0 (ask_of (length before) e.change)) h small.1

-- a legal history, written and given as a script, leads to the same changes under caller 0
written_played : (league : LeagueData) (room : ℕ) (h : List Entry) → IsLeague league → IsLegal league room h
    → played league room (lines (change_lines h)) ≡ under_caller_0 h
unfolding played
written_played league room h is legal =
    let small = AreSmall-legal league room h is legal in
    ap (λ script. played_from league room [] greatest script) (lines-change_lines h small) ∙
    lines_played league room [] h small ∙
    (replayed league room h is legal).history

pub played_again : (league : LeagueData) (room : ℕ) (script : List (List ℕ)) → IsLeague league → IsPlayedAgain league room script
played_again league room script is =
    let of_play = IsPlayed-played league room script in
    written_played league room (played league room script) is of_play.legal ∙ of_play.same

-- so it leads to the same games and the same best
pub plays_back : (league : LeagueData) (room : ℕ) (h : List Entry) → IsLeague league → IsLegal league room h → PlaysBack league room h
plays_back league room h is legal =
    let again = replayed league room h is legal in
    let history = written_played league room h is legal in
    record {
      history = history;
      games = ap (games_of league) history ∙ again.games;
      best = ap (best_of league) history ∙ again.best;
    }
