-- The windows of rounds that a team spends at home or away, gathered to stretches.
use Rattle.std.specs.Prelude.{ℕ, zero, suc, ◌+◌, ◌&&◌, Bool, nat_lt, if◌then◌else◌}
use Rattle.fixtures.specs.Games.{Games}
use Rattle.tours.specs.Streaks.{windows, is_streak}

-- whether a window of one round more than allowed begins with this round, and is spent at home or away
abbrev pub is_over : Games → ℕ → ℕ → ℕ → Bool
is_over g at_most team first = nat_lt first (windows g (at_most + 1)) && is_streak g team first (at_most + 1)

-- how many numbers just before this one pass, one after another
abbrev pub streak : (ℕ → Bool) → ℕ → ℕ
streak test zero = 0
streak test (suc k) = if test k then streak test k + 1 else 0

-- the same where the number itself doesn't pass, and else 0: each streak of numbers that pass, told where it ends
abbrev pub ended_streak : (ℕ → Bool) → ℕ → ℕ
ended_streak test k = if test k then 0 else streak test k
