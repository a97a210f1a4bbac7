-- What is kept of the schedule at which boards begin, and what a moved game costs. Words number rounds and teams from 1, and the
-- program numbers them from 0.
use Rattle.std.specs.Prelude.{ℕ, ◌+◌, ◌-◌, ◌==◌, zero, suc, Bool, ◌&&◌, not, nat_le, List, [], ◌∷◌, ◌++◌, length}
use Rattle.std.specs.Prelude.{Option, Some, None, codes, if◌then◌else◌, option_and_then}
use Rattle.std.specs.List.{position_or_len, slice_split}
use Rattle.std.specs.Option.{option_map_or}
use Rattle.clap.specs.Words.{Row, Text, all_of, first_of}
use Rattle.sets.specs.Limits.{max_rounds, max_teams}
use Rattle.sets.specs.Sets.{with_number}
use Rattle.text_lines.specs.Number.{after_dash, before_dash, number_of}
use Rattle.options.specs.declared.beginning.BeginningWords.{BeginningWords}

-- the set of the rounds that are kept, games that are kept, the home team first, and the cost of a moved game
pub record Beginning : Type 0 where
  pub rounds : ℕ
  pub games : List (ℕ × ℕ)
  pub near : ℕ

abbrev pub beginning_of : BeginningWords → Beginning
beginning_of b = record { rounds = b.rounds; games = b.games.items; near = b.near }

abbrev pub is_comma : ℕ → Bool
is_comma b = b == 44

-- ---- rounds, as `1-8,12`

-- the set with so many numbers from the first on
abbrev pub with_numbers : ℕ → ℕ → ℕ → ℕ
with_numbers set first zero = set
with_numbers set first (suc n) = with_number (with_numbers set first n) (first + n)

-- the set with the rounds from the first to the last, which no season is without
abbrev pub with_rounds : ℕ → Option ℕ → Option ℕ → Option ℕ
with_rounds set (Some first) (Some last) =
    if nat_le 1 first && (nat_le first last && nat_le last max_rounds) then Some (with_numbers set (first - 1) (last + 1 - first)) else None
with_rounds set (Some first) None = None
with_rounds set None last = None

-- an item is a round, or the first and the last one with a dash between them
abbrev pub with_item : ℕ → Text → Option ℕ
with_item set item =
    with_rounds set (before_dash item) (if position_or_len (λ b. b == 45) item == length item then before_dash item else after_dash item)

abbrev pub with_items : ℕ → List Text → Option ℕ
with_items set [] = Some set
with_items set (item ∷ items) = option_and_then (λ more. with_items more items) (with_item set item)

-- items with commas between them
abbrev pub rounds_of_text : Text → Option ℕ
rounds_of_text text = with_items 0 (slice_split is_comma text)

-- ---- games, each as `7-5`

-- two teams, of which some league has both
abbrev pub game_of_numbers : Option ℕ → Option ℕ → Option (ℕ × ℕ)
game_of_numbers (Some home) (Some away) =
    if nat_le 1 home && (nat_le home max_teams && (nat_le 1 away && (nat_le away max_teams && not (home == away))))
    then Some (home - 1, away - 1) else None
game_of_numbers (Some home) None = None
game_of_numbers None away = None

abbrev pub game_of_text : Text → Option (ℕ × ℕ)
game_of_text text = game_of_numbers (before_dash text) (after_dash text)

-- the games with those of these texts behind them
abbrev pub with_games : List (ℕ × ℕ) → List Text → Option (List (ℕ × ℕ))
with_games games [] = Some games
with_games games (text ∷ texts) = option_and_then (λ game. with_games (games ++ game ∷ []) texts) (game_of_text text)

-- ---- the cost

abbrev pub max_near : ℕ
max_near = 1000000

abbrev pub near_of_text : Text → Option ℕ
near_of_text text = option_and_then (λ near. if nat_le near max_near then Some near else None) (number_of text)

-- ---- what was given

-- what isn't given keeps nothing and costs nothing
abbrev pub rounds_in : List Row → Option ℕ
rounds_in rows = option_map_or rounds_of_text (first_of (codes "keep") rows) (Some 0)

abbrev pub games_in : List Row → Option (List (ℕ × ℕ))
games_in rows = option_map_or (with_games []) (all_of (codes "keep-game") rows) (Some [])

abbrev pub near_in : List Row → Option ℕ
near_in rows = option_map_or near_of_text (first_of (codes "near") rows) (Some 0)

abbrev pub beginning_from : Option ℕ → Option (List (ℕ × ℕ)) → Option ℕ → Option Beginning
beginning_from (Some rounds) (Some games) (Some near) = Some (record { rounds = rounds; games = games; near = near })
beginning_from _ _ _ = None

abbrev pub beginning_in : List Row → Option Beginning
beginning_in rows = beginning_from (rounds_in rows) (games_in rows) (near_in rows)
