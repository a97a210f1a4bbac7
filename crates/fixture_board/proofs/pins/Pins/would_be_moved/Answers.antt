use Rattle.std.proofs.Common.{◌∙◌}
use Rattle.fixture_board.proofs.PinsLooked.{moves_pin-looked}
use Rattle.fixture_board.proofs.pins.Pins.would_be_moved.Goals as goal

pub returns : goal.returns
returns c =
    λ held stand are.
    c.moves_one_of.ensures ∙
    moves_pin-looked c.args.schedule.now c.args.exchange.now c.requires c.self.inside.rounds.items c.self.inside.pairs c.self.invariant held
    stand (rw (← c.self.view_is) at are)
