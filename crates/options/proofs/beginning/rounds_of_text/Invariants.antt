use Rattle.std.proofs.Common.{◌≡◌, length}
use Rattle.std.specs.List.{position_or_len, slice_split}
use Rattle.options.specs.Beginnings.{is_comma, with_items}
use Rattle.options.proofs.beginning.rounds_of_text.Given as goal

-- the items that are left go on from the set so far
abbrev pub invariant-loop-comma : goal.invariant-loop-comma
invariant-loop-comma l = (with_items 0 (slice_split is_comma l.text) ≡ with_items l.rounds (slice_split is_comma l.rest))
    × (l.comma ≡ position_or_len is_comma l.rest)

abbrev pub decreases-loop-comma : goal.decreases-loop-comma
decreases-loop-comma l = length l.rest
