use Rattle.std.proofs.Common.{sym, ◌∙◌, subst}
use Rattle.fixture_board.specs.within.PinTable.{AreBegun}
use Rattle.fixture_board.proofs.BegunTables.{begun_written}
use Rattle.fixture_board.proofs.pins.Pins.pin_if_kept.Goals as goal

pub returns-then-keeps : goal.returns-then-keeps
returns-then-keeps c = λ passes begun.
    subst (AreBegun c.args.league.now _) (sym c.pin.ensures)
    (begun_written c.args.league.now passes c.args.self.now c.args.home c.args.away c.start_round-round.result c.requires.limit
    (record { home_in = c.requires.home; away_in = c.requires.away; distinct = c.if-home-away.true })
    (sym c.keeps.ensures ∙ c.if-keeps.true) c.start_round-round.ensures.value begun)
