use Rattle.std.proofs.Common.{◌≡◌, ℕ, List, sym, subst, replicate, rules}
use Rattle.fixture_board.specs.within.PinTable.{free, pin_entries, ArePinnedPairs}
use Rattle.fixture_board.proofs.PinTable.{ArePinnedPairs-none}
use Rattle.fixture_board.proofs.pins.Pins.none.Goals as goal

pub invariant_of-result : goal.invariant_of-result
invariant_of-result c =
    let filled : c.in_ok-vec.field-0.items ≡ replicate pin_entries free = search rules in
    subst (λ (table : List ℕ). ArePinnedPairs table c.empty.result) (sym filled)
    (ArePinnedPairs-none c.empty.result c.empty.ensures.members)
