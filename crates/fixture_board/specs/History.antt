-- What a history stands for: the changes in effect, the games, the pins and the best version.
use Rattle.std.specs.Prelude.{◌≡◌, ◌≢◌, ℕ, ◌-◌, ◌<◌, ◌≤◌, Bool, true, false, not, ◌&&◌, ◌==◌, nat_lt, if◌then◌else◌}
use Rattle.std.specs.Prelude.{List, [], ◌∷◌, ◌++◌, length, take, filter, Option, Some, None, Ok}
use Rattle.std.specs.List.{list_any}
use Rattle.fixtures.specs.declared.game.Game.{Game}
use Rattle.fixtures.specs.Draft.{is_game_in_range}
use Rattle.fixtures.specs.Games.{Games, round_of}
use Rattle.league.specs.Starts.{start_of, kept_games}
use Rattle.moves.specs.Moves.{moved, fault_of}
use Rattle.costs.specs.declared.cost.Cost.{Cost}
use Rattle.league.specs.League.{LeagueData}
use Rattle.costs.specs.Costs.{cost_of, total_of}
use Rattle.fixture_board.specs.declared.change.Change.{Change}
use Rattle.fixture_board.specs.declared.change.Change.TheVariants.{Shift, Pin, Unpin, Undo}
use Rattle.fixture_board.specs.declared.change.Entry.{Entry}
use Rattle.fixture_board.specs.declared.best.Best.{Best}

-- the changes in effect after one more
abbrev pub effect : List Change → Change → List Change
effect changes Undo = take (length changes - 1) changes
effect changes change = changes ++ change ∷ []

abbrev pub effective_after : List Change → List Entry → List Change
effective_after changes [] = changes
effective_after changes (e ∷ es) = effective_after (effect changes e.change) es

-- the changes in effect, the oldest first: an undo drops the last, every other change is appended
unfoldable pub effective : List Entry → List Change
effective h = effective_after [] h

-- the games after one more change in effect
abbrev pub shifted : Games → Change → Games
shifted g (Shift mv) = moved g mv
shifted g _ = g

unfoldable pub games_after : Games → List Change → Games
games_after g [] = g
games_after g (change ∷ changes) = games_after (shifted g change) changes

-- the start with the moves in effect made in order
unfoldable pub games_of : LeagueData → List Entry → Games
games_of league h = games_after (start_of league) (effective h)

abbrev pub is_game : Game → Game → Bool
is_game x y = x.round == y.round && x.home == y.home && x.away == y.away

abbrev pub has_game : List Game → Game → Bool
has_game games game = list_any (is_game game) games

-- the pinned games after one more change in effect
abbrev pub pinned : List Game → Change → List Game
pinned pins (Pin game) = game ∷ pins
pinned pins (Unpin game) = filter (λ pin. not (is_game game pin)) pins
pinned pins _ = pins

unfoldable pub pins_after : List Game → List Change → List Game
pins_after pins [] = pins
pins_after pins (change ∷ changes) = pins_after (pinned pins change) changes

-- the pinned games, the newest first: at the beginning those that the league keeps
unfoldable pub pins_of : LeagueData → List Entry → List Game
pins_of league h = pins_after (kept_games league) (effective h)

-- whether the game of this pair is pinned
abbrev pub is_pinned : List Game → ℕ → ℕ → Bool
is_pinned pins home away = list_any (λ pin. pin.home == home && pin.away == away) pins

-- whether the pair plays in that round
abbrev pub is_there : Games → Game → Bool
is_there g game = round_of g game.home game.away == game.round

-- whether a pinned game has another round
abbrev pub moves_pin : Games → List Game → Bool
moves_pin g pins = list_any (λ pin. not (is_there g pin)) pins

-- the pinned games are games of the schedule
abbrev pub AllStand : Games → List Game → Type 0
AllStand g [] = Unit {0}
AllStand g (pin ∷ pins) = ((is_game_in_range g.teams pin ≡ true) × (is_there g pin ≡ true)) × AllStand g pins

-- a change that is no undo can be made of these games and pins
abbrev pub Fits : Games → List Game → Change → Type 0
Fits g pins (Shift mv) = (fault_of g mv ≡ Ok tt) × (moves_pin (moved g mv) pins ≡ false)
Fits g pins (Pin game) = (is_game_in_range g.teams game ≡ true) × (is_there g game ≡ true) × (has_game pins game ≡ false)
Fits g pins (Unpin game) = has_game pins game ≡ true
Fits g pins Undo = ⊥

-- a change can be made after a history
abbrev pub May : LeagueData → List Entry → Change → Type 0
May league h Undo = 0 < length (effective h)
May league h change = Fits (games_of league h) (pins_of league h) change

abbrev pub legal_after : LeagueData → ℕ → List Entry → List Entry → Type 0
legal_after league room before [] = Unit {0}
legal_after league room before (e ∷ es) =
    ((length before < room) × May league before e.change) × legal_after league room (before ++ e ∷ []) es

-- each entry found room, and its change could be made after those before it
unfoldable pub IsLegal : LeagueData → ℕ → List Entry → Type 0
IsLegal league room h = legal_after league room [] h

-- the cost of the schedule after a history
unfoldable pub cost_at : LeagueData → List Entry → Cost
cost_at league h = cost_of league (games_of league h)

-- the better of a prefix that was found and a longer one
abbrev pub better : LeagueData → Option (List Entry) → List Entry → Option (List Entry)
better league None p = if (cost_at league p).hard == 0 then Some p else None
better league (Some found) p =
    if (cost_at league p).hard == 0 && nat_lt (total_of (cost_at league p)) (total_of (cost_at league found))
    then Some p
    else Some found

abbrev pub best_after : LeagueData → List Entry → Option (List Entry) → List Entry → Option (List Entry)
best_after league before found [] = found
best_after league before found (e ∷ es) =
    best_after league (before ++ e ∷ []) (better league found (before ++ e ∷ [])) es

-- of the prefixes of a history whose schedule is feasible one of the least total, and of these the shortest
unfoldable pub best_prefix : LeagueData → List Entry → Option (List Entry)
best_prefix league h = best_after league [] (better league None []) h

abbrev pub best_at : LeagueData → List Entry → Best
best_at league p = record { at = length p; total = total_of (cost_at league p) }

abbrev pub as_best : LeagueData → Option (List Entry) → Option Best
as_best league None = None
as_best league (Some p) = Some (best_at league p)

-- the least total of a feasible version, at the first that has it
unfoldable pub best_of : LeagueData → List Entry → Option Best
best_of league h = as_best league (best_prefix league h)

-- the prefix is feasible, none that is feasible costs less, and each shorter one that is feasible costs more
pub record IsBestPrefix (league : LeagueData) (h p : List Entry) : Type 0 where
  pub short : length p ≤ length h
  pub prefix : p ≡ take (length p) h
  pub feasible : (cost_at league p).hard ≡ 0
  pub least : (k : ℕ) → k ≤ length h → (cost_at league (take k h)).hard ≡ 0 →
      total_of (cost_at league p) ≤ total_of (cost_at league (take k h))
  pub first : (k : ℕ) → k < length p → (cost_at league (take k h)).hard ≡ 0 →
      total_of (cost_at league p) < total_of (cost_at league (take k h))

-- what `best_prefix` finds: the best prefix, or that none is feasible
abbrev pub IsBestOf : LeagueData → List Entry → Option (List Entry) → Type 0
IsBestOf league h None = (k : ℕ) → k ≤ length h → (cost_at league (take k h)).hard ≢ 0
IsBestOf league h (Some p) = IsBestPrefix league h p
