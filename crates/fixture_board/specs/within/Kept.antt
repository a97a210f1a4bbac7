-- What a board keeps behind what it shows.
use Rattle.std.specs.Prelude.{◌≡◌, ℕ, ◌+◌, ◌<◌, ◌≤◌, Bool, true, false, if◌then◌else◌, List, [], ◌∷◌, ◌++◌, length, Option, Some}
use Rattle.std.specs.Prelude.{None, ◌&&◌, ◌==◌, nat_lt, Result, Ok, Err}
use Rattle.std.specs.Vec.{vec_capacity}
use Rattle.league.specs.Limits.{max_teams}
use Rattle.league.specs.League.{LeagueData, teams, IsLeague}
use Rattle.fixtures.specs.Games.{Games}
use Rattle.moves.specs.Moves.{fault_of}
use Rattle.fixture_board.specs.declared.ask.Ask.{Ask}
use Rattle.fixture_board.specs.declared.ask.Ask.TheVariants as ask
use Rattle.fixture_board.specs.declared.ask.Proposal.{Proposal}
use Rattle.fixture_board.specs.declared.change.Change.{Change}
use Rattle.fixture_board.specs.declared.change.Change.TheVariants.{Shift, Pin, Unpin, Undo}
use Rattle.fixture_board.specs.declared.change.Entry.{Entry}
use Rattle.fixture_board.specs.declared.best.Best.{Best}
use Rattle.costs.specs.declared.cost.Cost.{Cost}
use Rattle.fixture_board.specs.declared.reply.Why.{Why}
use Rattle.fixture_board.specs.declared.state.State.{State}
use Rattle.fixture_board.specs.declared.trial.Trial.{Trial}
use Rattle.costs.specs.Costs.{score_of, score_limit, total_of}
use Rattle.choices.specs.Limits.{max_room}
use Rattle.fixture_board.specs.History.{effective, games_of, pins_of, cost_at, best_prefix, best_at, IsLegal}
use Rattle.fixture_board.specs.within.PinTable.{ArePinsAt, pin_entries}
use Rattle.fixture_board.specs.Replies.{refusal, entry}
use Rattle.fixture_board.specs.Trials.{passes, trial_entry}

-- the kept best, and the schedule beside it, are those of the best prefix
abbrev pub IsLeader : LeagueData → Option (List Entry) → Option Best → Games → Type 0
IsLeader league None best g = best ≡ None
IsLeader league (Some p) best g = (best ≡ Some (best_at league p)) × (g ≡ games_of league p)

-- whether a version of this cost is better than the best
abbrev pub is_improved_by : Option Best → Cost → Bool
is_improved_by None cost = cost.hard == 0
is_improved_by (Some best) cost = cost.hard == 0 && nat_lt (total_of cost) best.total

-- the best after the version `at`, of this cost
abbrev pub improved_by : Option Best → Cost → ℕ → Option Best
improved_by best cost at = if is_improved_by best cost then Some (record { at = at; total = total_of cost }) else best

-- what is kept beside the league: with the history what follows from it
pub record Kept : Type 0 where
  pub room : ℕ
  pub history : List Entry
  pub changes : List Change
  pub games : Games
  pub pins : List ℕ
  pub cost : Cost
  pub best : Option Best
  pub best_games : Games

abbrev pub kept_of : State → Kept
kept_of s = record {
  room = s.room;
  history = s.history.items;
  changes = s.changes.items;
  games = s.schedule;
  pins = s.pins;
  cost = s.cost;
  best = s.best;
  best_games = s.best_schedule;
}

-- there is memory for a full history, all of it in effect, and for no more
pub record HasMemory (s : State) : Type 0 where
  pub history : vec_capacity s.history ≡ s.room
  pub changes : vec_capacity s.changes ≡ s.room

-- what is kept is what follows from the history in this league
pub record FollowsHistory (league : LeagueData) (k : Kept) : Type 0 where
  pub league_is : IsLeague league
  pub room_most : k.room ≤ max_room
  pub within : length k.history ≤ k.room
  pub legal : IsLegal league k.room k.history
  pub effective_is : k.changes ≡ effective k.history
  pub no_more : length k.changes ≤ length k.history
  pub games_are : k.games ≡ games_of league k.history
  pub same_size : k.games.teams ≡ teams league
  pub pins_length : length k.pins ≡ pin_entries
  pub pins_are : ArePinsAt k.games (pins_of league k.history) k.pins
  pub cost_is : k.cost ≡ cost_at league k.history
  pub small : score_of league k.cost < score_limit
  pub leader : IsLeader league (best_prefix league k.history) k.best k.best_games

-- what is kept once an entry is added of whose change all else is made
abbrev pub entered : Kept → Entry → Kept
entered k e = record k {
  history = k.history ++ e ∷ [];
  best = improved_by k.best k.cost (length k.history + 1);
  best_games = if is_improved_by k.best k.cost then k.games else k.best_games;
}

-- a step that refuses leaves all as it was
pub record IsRefused (league : LeagueData) (old new : Kept) (asked : Ask) (why : Why) : Type 0 where
  pub reason : refusal league old.room old.history asked ≡ Some why
  pub same : new ≡ old

-- a step that grants makes all of the change but the entry
pub record IsGranted (league : LeagueData) (old new : Kept) (asked : Ask) : Type 0 where
  pub no_reason : refusal league old.room old.history asked ≡ None
  pub same_room : new.room ≡ old.room
  pub same_history : new.history ≡ old.history
  pub under : length new.history < new.room
  pub kept : (caller : ℕ) → FollowsHistory league (entered new (entry caller asked))

abbrev pub IsStep : LeagueData → Kept → Kept → Ask → Result (Unit {0}) Why → Type 0
IsStep league old new asked (Ok done) = IsGranted league old new asked
IsStep league old new asked (Err why) = IsRefused league old new asked why

-- what is told of a proposal that isn't made: the cost after its move, or why it would be refused
abbrev pub IsForetold : LeagueData → Kept → Proposal → Result Cost Why → Type 0
IsForetold league k p (Ok cost) =
    (refusal league k.room k.history (ask.Shift p) ≡ None) × (cost ≡ cost_at league (k.history ++ entry 0 (ask.Shift p) ∷ []))
IsForetold league k p (Err why) = refusal league k.room k.history (ask.Shift p) ≡ Some why

-- a trial that doesn't make its move leaves all as it was
pub record IsLeft (league : LeagueData) (old new : Kept) (trial : Trial) : Type 0 where
  pub fails : passes league old.room old.history trial ≡ false
  pub same : new ≡ old

-- a trial that makes its move makes all of it but the entry
pub record IsMade (league : LeagueData) (old new : Kept) (trial : Trial) : Type 0 where
  pub passed : passes league old.room old.history trial ≡ true
  pub same_room : new.room ≡ old.room
  pub same_history : new.history ≡ old.history
  pub under : length new.history < new.room
  pub kept : (caller : ℕ) → FollowsHistory league (entered new (trial_entry caller trial))

abbrev pub IsTried : LeagueData → Kept → Kept → Trial → Option Cost → Type 0
IsTried league old new trial None = IsLeft league old new trial
IsTried league old new trial (Some cost) = IsMade league old new trial × (cost ≡ new.cost)

-- the change can be taken back from this schedule
abbrev pub CanTakeBack : Games → Change → Type 0
CanTakeBack g (Shift mv) = fault_of g mv ≡ Ok tt
CanTakeBack g (Pin game) = (game.home < max_teams) × (game.away < max_teams)
CanTakeBack g (Unpin game) = (game.home < max_teams) × (game.away < max_teams)
CanTakeBack g Undo = Unit {0}
