-- The numbers in a text.
use Rattle.std.specs.Prelude.{ℕ, ◌+◌, ◌-◌, ◌^◌, ◌==◌, ◌||◌, nat_lt, not, List, drop, length, take, Option, Some, None, if◌then◌else◌}
use Rattle.std.specs.List.{position_or_len}
use Rattle.std.specs.Str.{all_ascii_digits}
use Rattle.std.specs.Str.Parse.{digits_value}
use Rattle.fixtures.specs.declared.game.Game.{Game}

-- what the digits stand for, if it is a `u64`
abbrev pub fitting : ℕ → Option ℕ
fitting n = if nat_lt n (2 ^ 64) then Some n else None

-- 1 to 20 digits, of a value that is a `u64`
abbrev pub number_of : List ℕ → Option ℕ
number_of word = if (length word == 0) || nat_lt 20 (length word) || not (all_ascii_digits word) then None else fitting
    (digits_value 10 word)

-- the number before the first dash, and the one after it
abbrev pub before_dash : List ℕ → Option ℕ
before_dash text = number_of (take (position_or_len (λ b. b == 45) text) text)

abbrev pub after_dash : List ℕ → Option ℕ
after_dash text = number_of (drop (position_or_len (λ b. b == 45) text + 1) text)

-- a team or round as it is handed on: from 0, or 255 if it can't be one
abbrev pub index_of : ℕ → ℕ
index_of n = if (n == 0) || nat_lt 255 n then 255 else n - 1

-- the game of a round, home team and away team
abbrev pub numbered_game : ℕ → ℕ → ℕ → Game
numbered_game r h a = record { round = index_of r; home = index_of h; away = index_of a }
