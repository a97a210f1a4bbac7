use Rattle.std.specs.Prelude.{slice_get}
use Rattle.byte_streams.proofs.Pieces.{Adds-piece, Stops-in_pieces, Stops-writes}
use Rattle.league.specs.Sets.{has}
use Rattle.report_breaches.specs.BreachText.{listed_at}
use Rattle.report_breaches.proofs.made_of.write_list.Goals as goal

pub loop-i-preserved : goal.loop-i-preserved
loop-i-preserved g c =
    Adds-piece (λ i. listed_at c.args.schedule.now c.args.whole (has c.args.slots) (slice_get c.args.games.now i)) c.loop-i.i
    c.loop-i.invariant (rw c.at.ensures c.in_ok-write_listed_game.ensures.ok)

pub returns-in_err-write_listed_game : goal.returns-in_err-write_listed_game
returns-in_err-write_listed_game g c =
    Stops-writes c.from_residual.ensures.0
    (Stops-in_pieces (λ i. listed_at c.args.schedule.now c.args.whole (has c.args.slots) (slice_get c.args.games.now i)) c.loop-i.i _
    (rw c.len-i-end.ensures.value at c.loop-i-test.true) c.loop-i.invariant
    (rw c.at.ensures c.in_err-write_listed_game.ensures.err))
