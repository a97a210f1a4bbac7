use Rattle.std.proofs.Common.{option_map, refl}
use Rattle.commands.specs.Start.{AnswersStartOn, start_sheet}
use Rattle.commands.proofs.Endings.{ends_written}
use Rattle.commands.proofs.start_command.start_on.Goals as goal

pub returns : goal.returns
returns g c =
    rw c.after_writing.ensures (ends_written g.W.Sink.held g.W.Sink.tally
    (AnswersStartOn c.args.league.now (option_map (λ b. b.now) c.args.beginning)) (start_sheet c.in_ok-league.league) c.args.sink.now
    c.sheet.new.sink c.sheet.result (c.in_ok-league.league, c.in_ok-league.ensures.ok, refl)
    (rw c.in_ok-schedule.ensures.games at c.sheet.ensures.ok) (rw c.in_ok-schedule.ensures.games at c.sheet.ensures.prefix)
    c.sheet.ensures.cause)
