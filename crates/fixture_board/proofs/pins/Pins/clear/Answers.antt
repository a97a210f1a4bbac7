use Rattle.std.proofs.Common.{◌≡◌, ℕ, vec_len, ◌∙◌, ap, replicate, arith}
use Rattle.fixture_board.specs.within.PinTable.{free, pin_entries}
use Rattle.fixture_board.proofs.pins.Pins.clear.Goals as goal

pub returns : goal.returns
returns c =
    let size : vec_len c.self.inside.rounds ≡ pin_entries = omega (arith, c.self.invariant.size) in
    c.fill.ensures.items (λ y is. is) ∙ ap (λ (n : ℕ). replicate n free) size
