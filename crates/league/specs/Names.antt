-- Names, and the other texts of a league.
use Rattle.std.specs.Prelude.{ℕ, ◌&&◌, ◌==◌, List, length, Bool, not, nat_le}
use Rattle.std.specs.List.{list_all}
use Rattle.league.specs.Limits.{max_name}

-- no control byte: neither below 32 nor 127
abbrev pub is_name_byte : ℕ → Bool
is_name_byte b = nat_le 32 b && not (b == 127)

-- from one byte to so many, and no control byte
abbrev pub is_text_within : ℕ → List ℕ → Bool
is_text_within most text = nat_le 1 (length text) && nat_le (length text) most && list_all is_name_byte text

abbrev pub is_team_name : List ℕ → Bool
is_team_name = is_text_within max_name
