use Rattle.byte_streams.proofs.Pieces.{Adds-piece, Stops-in_pieces, Stops-writes}
use Rattle.schedule_texts.specs.within.Faults.{count_in, count_line}
use Rattle.schedule_texts.proofs.Tests.{numbers_below}
use Rattle.schedule_texts.proofs.faults.write_counts_of.Goals as goal

pub loop-number-preserved : goal.loop-number-preserved
loop-number-preserved g c =
    let within = rw c.numbers-number-end.ensures at c.loop-number-test.true in
    let counted = c.counts_of-counts.ensures c.loop-number.number
    (numbers_below c.args.counted c.args.teams c.loop-number.number c.requires.least c.requires.most within) in
    Adds-piece (λ number. count_line c.args.counted c.args.team number (count_in c.args.counted c.args.teams c.args.games.now c.args.team
    number))
    c.loop-number.number c.loop-number.invariant (rw (c.from.ensures, counted) at c.in_ok-write_count.ensures.ok)

pub returns-in_err-write_count : goal.returns-in_err-write_count
returns-in_err-write_count g c =
    let within = rw c.numbers-number-end.ensures at c.loop-number-test.true in
    let counted = c.counts_of-counts.ensures c.loop-number.number
    (numbers_below c.args.counted c.args.teams c.loop-number.number c.requires.least c.requires.most within) in
    Stops-writes c.from_residual.ensures.0
    (Stops-in_pieces
    (λ number. count_line c.args.counted c.args.team number (count_in c.args.counted c.args.teams c.args.games.now c.args.team number))
    c.loop-number.number _ within c.loop-number.invariant (rw (c.from.ensures, counted) at c.in_err-write_count.ensures.err))
