-- The chains of the first half.
use Rattle.std.specs.Prelude.{ℕ, ◌+◌, ◌*◌, ◌%◌, ◌==◌, ◌&&◌, ◌||◌, nat_le, if◌then◌else◌}
use Rattle.policy.specs.declared.bouts.Bout.{Bout}
use Rattle.policy.specs.declared.first_half.FirstHalf.{FirstHalf}
use Rattle.policy.specs.declared.legs.MoveSet.TheVariants.{Loose, Full}
use Rattle.policy.specs.declared.numbers.TheConstants.{COOL, TEPID, WARM}
use Rattle.policy.specs.Bouts.{hot_for, rigid, single}

-- how many chains there are: one, and then groups of one or of three
abbrev pub count_in : FirstHalf → ℕ
count_in f = 1 + f.groups * (if f.loose == 0 then 1 else 3)

-- the first chain, with which there is something good early
abbrev pub early_bout : FirstHalf → Bout
early_bout f = if f.goes_on then single Full TEPID f.early else rigid (hot_for f.apart) f.early

-- a chain of two groups of three: the first and the last one, at the places 1 and 0, are rigid
abbrev pub bout_at : FirstHalf → ℕ → Bout
bout_at f place =
    if f.loose == 0 || nat_le place 1 then rigid (hot_for f.apart) f.rigid
    else if f.few && place % 2 == 1 then single Full COOL f.loose
    else single Loose WARM f.loose

-- where no chain is loose, all groups are of a rigid one
abbrev pub bout_in_first_half : FirstHalf → ℕ → Bout
bout_in_first_half f number = if number == 0 then early_bout f else bout_at f (number % 6)
