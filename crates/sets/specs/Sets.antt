-- A set of numbers is a number: its bit k tells whether k is in the set.
use Rattle.std.specs.Prelude.{ℕ, ◌+◌, ◌-◌, ◌^◌, ◌<◌, ◌==◌, ◌&&◌, ◌||◌, not, Bool}
use Rattle.std.specs.Prelude.{bit_or}
use Rattle.std.specs.Bool.{beq}
use Rattle.std.specs.Int.{bit_at}

abbrev pub has : ℕ → ℕ → Bool
has set k = bit_at set k == 1

-- whether k is in the set, or comes next after one that is
abbrev pub has_or_follows : ℕ → ℕ → Bool
has_or_follows set k = has set k || (not (k == 0) && has set (k - 1))

-- whether k is as the next number is: both in the set, or neither
abbrev pub is_like_next : ℕ → ℕ → Bool
is_like_next set k = beq (has set k) (has set (k + 1))

-- no number of the set is m or more
abbrev pub IsBelow : ℕ → ℕ → Type 0
IsBelow m set = set < 2 ^ m

unfoldable pub with_number : ℕ → ℕ → ℕ
with_number set k = bit_or set (2 ^ k)

-- the set of two numbers
abbrev pub both : ℕ → ℕ → ℕ
both i j = with_number (with_number 0 j) i

-- all numbers below m
unfoldable pub all_numbers : ℕ → ℕ
all_numbers m = 2 ^ m - 1
