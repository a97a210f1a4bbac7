use Rattle.byte_streams.proofs.Pieces.{Adds-writes, Stops-more, Stops-writes}
use Rattle.byte_streams.specs.Pieces.{pieces_below}
use Rattle.schedule_texts.specs.Faults.{game_faults, pair_lines}
use Rattle.schedule_texts.proofs.faults.write_game_faults.Goals as goal

pub returns-in_err-write_counts : goal.returns-in_err-write_counts
unfolding game_faults
returns-in_err-write_counts g c =
    Stops-writes c.from_residual.ensures.0
    (Stops-more (pieces_below (pair_lines c.args.teams c.args.games.now) c.args.teams) c.in_err-write_counts.ensures.err)

pub returns : goal.returns
unfolding game_faults
returns g c = Adds-writes c.in_ok-write_counts.ensures.ok c.write_counts-2.ensures
