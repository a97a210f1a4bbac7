-- The same at the words in which the code holds sets: 64 bits for teams, 128 for slots.
use Rattle.std.proofs.Common.{◌≡◌, ℕ, ◌-◌, ◌+◌, ◌*◌, ◌/◌, ◌^◌, ◌%◌, ◌<◌, ◌≤◌, ◌&&◌, ◌==◌, not, nat_lt, bit_and, bit_or}
use Rattle.std.proofs.Common.{bit_xor, arith}
use Rattle.std.proofs.lemmas.Nat.{ones-le}
use Rattle.std.specs.Int.{w64, w128}
use Rattle.std.specs.Int.RustNames.{count_ones}
use Rattle.sets.specs.Limits.{max_teams, max_rounds}
use Rattle.sets.specs.Sums.{any_below}
use Rattle.sets.specs.Sets.{has, IsBelow, has_or_follows, is_like_next, with_number, all_numbers}
use Rattle.sets.proofs.Bits.{IsBelow_more, has_all_numbers, IsBelow_all_numbers, has_with_number, IsBelow_with_number}
use Rattle.sets.proofs.Bits.{all_numbers_shifted, with_number_shifted}
use Rattle.sets.proofs.SetBits.{has_union, has_difference, has_toggled, IsBelow_union}
use Rattle.sets.proofs.SetBits.{IsBelow_toggled, meets_of_bits, has_like_next, IsBelow_like_next}
use Rattle.sets.proofs.SetBits.{has_with_next, IsBelow_with_next}

pub teams_below : (teams : ℕ) → teams ≤ max_teams → 1 * 2 ^ teams % 2 ^ 64 - 1 ≡ all_numbers teams
teams_below teams most = all_numbers_shifted teams 64 (omega arith)

pub IsBelow_teams_below : (teams : ℕ) → teams ≤ max_teams → IsBelow max_teams (all_numbers teams)
IsBelow_teams_below teams most = IsBelow_more teams max_teams _ most (IsBelow_all_numbers teams)

pub team_added : (set team : ℕ) → team < max_teams → bit_or set (1 * 2 ^ team % 2 ^ 64) ≡ with_number set team
team_added set team below = with_number_shifted set team 64 (omega arith)

pub IsBelow_team_added : (set team : ℕ) → IsBelow max_teams set → team < max_teams
    → IsBelow max_teams (with_number set team)
IsBelow_team_added set team = IsBelow_with_number max_teams set team

pub teams_len : (set : ℕ) → IsBelow max_teams set → count_ones set ≤ max_teams
teams_len set below = ones-le max_teams set below

pub IsBelow_teams_union : (a b : ℕ) → IsBelow max_teams a → IsBelow max_teams b → IsBelow max_teams (bit_or a b)
IsBelow_teams_union a b = IsBelow_union max_teams a b

pub teams_meet : (a b : ℕ) → IsBelow max_teams a
    → not (bit_and a b == 0) ≡ any_below max_teams (λ t. has a t && has b t)
teams_meet a b below = meets_of_bits w64 max_teams a b (omega arith) below

pub slots_below : (slots : ℕ) → slots ≤ max_rounds → 1 * 2 ^ slots % 2 ^ 128 - 1 ≡ all_numbers slots
slots_below slots most = all_numbers_shifted slots 128 (omega arith)

pub IsBelow_slots_below : (slots : ℕ) → slots ≤ max_rounds → IsBelow max_rounds (all_numbers slots)
IsBelow_slots_below slots most = IsBelow_more slots max_rounds _ most (IsBelow_all_numbers slots)

pub slot_added : (set slot : ℕ) → slot < max_rounds → bit_or set (1 * 2 ^ slot % 2 ^ 128) ≡ with_number set slot
slot_added set slot below = with_number_shifted set slot 128 (omega arith)

pub IsBelow_slot_added : (set slot : ℕ) → IsBelow max_rounds set → slot < max_rounds
    → IsBelow max_rounds (with_number set slot)
IsBelow_slot_added set slot = IsBelow_with_number max_rounds set slot

pub slots_len : (set : ℕ) → IsBelow max_rounds set → count_ones set ≤ max_rounds
slots_len set below = ones-le max_rounds set below

pub IsBelow_slots_union : (a b : ℕ) → IsBelow max_rounds a → IsBelow max_rounds b → IsBelow max_rounds (bit_or a b)
IsBelow_slots_union a b = IsBelow_union max_rounds a b

pub IsBelow_slots_toggled : (a b : ℕ) → IsBelow max_rounds a → IsBelow max_rounds b → IsBelow max_rounds (bit_xor a b)
IsBelow_slots_toggled a b = IsBelow_toggled max_rounds a b

pub slots_without : (a b s : ℕ) → IsBelow max_rounds a → IsBelow max_rounds b
    → has (bit_and a (2 ^ 128 - 1 - b)) s ≡ (has a s && not (has b s))
slots_without a b s a_below b_below =
    has_difference w128 a b s (IsBelow_more max_rounds 128 a (omega arith) a_below) (IsBelow_more max_rounds 128 b (omega arith) b_below)

pub teams_without : (a b t : ℕ) → IsBelow max_teams a → IsBelow max_teams b
    → has (bit_and a (2 ^ 64 - 1 - b)) t ≡ (has a t && not (has b t))
teams_without a b t a_below b_below =
    has_difference w64 a b t (IsBelow_more max_teams 64 a (omega arith) a_below) (IsBelow_more max_teams 64 b (omega arith) b_below)

pub slots_meet : (a b : ℕ) → IsBelow max_rounds a
    → not (bit_and a b == 0) ≡ any_below max_rounds (λ s. has a s && has b s)
slots_meet a b below = meets_of_bits w128 max_rounds a b (omega arith) below

pub slots_as_next : (set slots s : ℕ) → IsBelow max_rounds set → slots ≤ max_rounds
    → has (bit_and ((1 * 2 ^ slots % 2 ^ 128 - 1) / 2 ^ 1) (2 ^ 128 - 1 - bit_xor set (set / 2 ^ 1))) s
    ≡ (nat_lt (s + 1) slots && is_like_next set s)
slots_as_next set slots s below most =
    let fits : IsBelow 128 set = IsBelow_more max_rounds 128 set (omega arith) below in
    rw (slots_below slots most) (has_like_next w128 set slots s fits (omega arith))

pub IsBelow_slots_as_next : (a slots : ℕ) → slots ≤ max_rounds
    → IsBelow (slots - 1) (bit_and ((1 * 2 ^ slots % 2 ^ 128 - 1) / 2 ^ 1) a)
IsBelow_slots_as_next a slots most = rw (slots_below slots most) (IsBelow_like_next a slots)

pub IsBelow_max_slots_as_next : (a slots : ℕ) → slots ≤ max_rounds
    → IsBelow max_rounds (bit_and ((1 * 2 ^ slots % 2 ^ 128 - 1) / 2 ^ 1) a)
IsBelow_max_slots_as_next a slots most =
    IsBelow_more (slots - 1) max_rounds _ (omega arith) (IsBelow_slots_as_next a slots most)

pub slots_with_next : (set slots s : ℕ) → IsBelow max_rounds set → slots ≤ max_rounds
    → has (bit_and (bit_or set (set * 2 ^ 1 % 2 ^ 128)) (1 * 2 ^ slots % 2 ^ 128 - 1)) s ≡ (nat_lt s slots && has_or_follows set s)
slots_with_next set slots s below most = has_with_next 128 set slots s (omega arith) (omega arith)

pub IsBelow_slots_with_next : (a slots : ℕ) → slots ≤ max_rounds
    → IsBelow slots (bit_and a (1 * 2 ^ slots % 2 ^ 128 - 1))
IsBelow_slots_with_next a slots most = IsBelow_with_next 128 a slots (omega arith)

pub IsBelow_max_slots_with_next : (a slots : ℕ) → slots ≤ max_rounds
    → IsBelow max_rounds (bit_and a (1 * 2 ^ slots % 2 ^ 128 - 1))
IsBelow_max_slots_with_next a slots most = IsBelow_more slots max_rounds _ most (IsBelow_slots_with_next a slots most)

-- what each operation of the sets needs

pub ruleset all_teams_below = (teams_below, IsBelow_teams_below, has_all_numbers, IsBelow_all_numbers)

pub ruleset teams_and_one = (team_added, IsBelow_team_added, has_with_number, IsBelow_with_number)

pub ruleset all_slots_below = (slots_below, IsBelow_slots_below, has_all_numbers, IsBelow_all_numbers)

pub ruleset slots_and_one = (slot_added, IsBelow_slot_added, has_with_number, IsBelow_with_number)

pub ruleset teams_of_either = (has_union, IsBelow_union, IsBelow_teams_union)

pub ruleset slots_of_either = (has_union, IsBelow_union, IsBelow_slots_union)

pub ruleset slots_flipped = (has_toggled, IsBelow_toggled, IsBelow_slots_toggled)

pub ruleset slots_like_next = (slots_as_next, IsBelow_slots_as_next, IsBelow_max_slots_as_next)

pub ruleset slots_and_next = (slots_with_next, IsBelow_slots_with_next, IsBelow_max_slots_with_next)
