use Rattle.byte_streams.proofs.Pieces.{Adds-writes, Stops-more, Stops-writes}
use Rattle.report_breaches.specs.BreachText.{at_round}
use Rattle.report_breaches.proofs.made_of.write_game_at.Goals as goal

pub returns-in_err-write_game_of : goal.returns-in_err-write_game_of
returns-in_err-write_game_of g c =
    Stops-writes c.from_residual.ensures.0 (Stops-more (at_round c.args.round) c.in_err-write_game_of.ensures.err)

pub returns : goal.returns
returns g c = Adds-writes c.in_ok-write_game_of.ensures.ok c.write_at.ensures
