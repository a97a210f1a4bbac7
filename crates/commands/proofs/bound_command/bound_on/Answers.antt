use Rattle.std.proofs.Common.{refl}
use Rattle.report_bounds.specs.BoundsText.{bounds_text}
use Rattle.commands.specs.Bound.{AnswersBound}
use Rattle.commands.proofs.Endings.{ends_written}
use Rattle.commands.proofs.bound_command.bound_on.Goals as goal

pub returns : goal.returns
returns g c =
    rw c.after_writing.ensures (ends_written g.W.Sink.held g.W.Sink.tally (AnswersBound c.args.league.now)
    (bounds_text c.in_ok-bounds.bounds.tours.items c.in_ok-bounds.bounds.travel) c.args.sink.now c.write_bounds.new.sink c.write_bounds.result (
      c.in_ok-league.league,
      c.in_ok-league.ensures.ok,
      record {
        tours = c.in_ok-bounds.bounds.tours.items;
        travel = c.in_ok-bounds.bounds.travel;
        each = c.in_ok-bounds.ensures.tours;
        all = c.in_ok-bounds.ensures.travel;
        text_is = refl;
      },
    )
    c.write_bounds.ensures.ok c.write_bounds.ensures.prefix c.write_bounds.ensures.cause)
