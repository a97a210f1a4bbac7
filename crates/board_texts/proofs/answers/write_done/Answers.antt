use Rattle.board_texts.specs.PlayText.{costs_of}
use Rattle.byte_streams.proofs.Pieces.{Adds-writes, Stops-more, Stops-writes}
use Rattle.board_texts.proofs.answers.write_done.Goals as goal

pub returns-in_err-write_counted : goal.returns-in_err-write_counted
returns-in_err-write_counted g c =
    Stops-writes c.from_residual.ensures.0 (Stops-more (costs_of c.args.cost) c.in_err-write_counted.ensures.err)

pub returns : goal.returns
returns g c = Adds-writes c.in_ok-write_counted.ensures.ok c.write_costs.ensures
