use Rattle.std.proofs.Common.{codes}
use Rattle.byte_streams.proofs.Pieces.{Adds-stops, Adds-then, Adds-writes, Stops-more, Stops-writes}
use Rattle.report_breaches.specs.BreachText.{breach_line, by_text, made_of, place_text}
use Rattle.report_breaches.proofs.lines.write_breach.Goals as goal

pub returns-in_err-write_head : goal.returns-in_err-write_head
unfolding breach_line
returns-in_err-write_head g c =
    Stops-writes c.from_residual.ensures.0
    (Stops-more (codes "\n")
    (Stops-more (made_of c.args.schedule.now c.args.body.now c.args.breach.place)
    (Stops-more (by_text c.args.breach.by c.args.breach.place)
    (Stops-more (place_text c.args.breach.place) c.in_err-write_head.ensures.err))))

pub returns-in_err-write_place : goal.returns-in_err-write_place
unfolding breach_line
returns-in_err-write_place g c =
    Stops-writes c.from_residual-in_err-write_place.ensures.0
    (Stops-more (codes "\n")
    (Stops-more (made_of c.args.schedule.now c.args.body.now c.args.breach.place)
    (Stops-more (by_text c.args.breach.by c.args.breach.place)
    (Adds-stops c.in_ok-write_head.ensures.ok c.in_err-write_place.ensures.err))))

pub returns-in_err-write_by : goal.returns-in_err-write_by
unfolding breach_line
returns-in_err-write_by g c =
    Stops-writes c.from_residual-in_err-write_by.ensures.0
    (Stops-more (codes "\n")
    (Stops-more (made_of c.args.schedule.now c.args.body.now c.args.breach.place)
    (Adds-stops (Adds-then c.in_ok-write_head.ensures.ok c.in_ok-write_place.ensures.ok) c.in_err-write_by.ensures.err)))

pub returns-in_err-write_made_of : goal.returns-in_err-write_made_of
unfolding breach_line
returns-in_err-write_made_of g c =
    Stops-writes c.from_residual-in_err-write_made_of.ensures.0
    (Stops-more (codes "\n")
    (Adds-stops
    (Adds-then (Adds-then c.in_ok-write_head.ensures.ok c.in_ok-write_place.ensures.ok) c.in_ok-write_by.ensures.ok)
    c.in_err-write_made_of.ensures.err))

pub returns : goal.returns
unfolding breach_line
returns g c =
    Adds-writes
    (Adds-then
    (Adds-then (Adds-then c.in_ok-write_head.ensures.ok c.in_ok-write_place.ensures.ok) c.in_ok-write_by.ensures.ok)
    c.in_ok-write_made_of.ensures.ok) c.write.ensures.writes
