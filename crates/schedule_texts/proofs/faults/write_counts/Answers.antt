use Rattle.byte_streams.proofs.Pieces.{Adds-piece, Stops-in_pieces, Stops-writes}
use Rattle.schedule_texts.specs.within.Faults.{count_lines}
use Rattle.schedule_texts.proofs.faults.write_counts.Goals as goal

pub loop-team-preserved : goal.loop-team-preserved
loop-team-preserved g c =
    Adds-piece (count_lines c.args.counted c.args.teams c.args.games.now) c.loop-team.team c.loop-team.invariant
    c.in_ok-write_counts_of.ensures.ok

pub returns-in_err-write_counts_of : goal.returns-in_err-write_counts_of
returns-in_err-write_counts_of g c =
    Stops-writes c.from_residual.ensures.0
    (Stops-in_pieces (count_lines c.args.counted c.args.teams c.args.games.now) c.loop-team.team _ c.loop-team-test.true
    c.loop-team.invariant c.in_err-write_counts_of.ensures.err)
