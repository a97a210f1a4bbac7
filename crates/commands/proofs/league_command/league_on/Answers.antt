use Rattle.league_csv.specs.LeagueText.{said_by}
use Rattle.commands.proofs.Endings.{ends_made}
use Rattle.commands.proofs.league_command.league_on.Goals as goal

pub returns : goal.returns
returns g c = rw c.after_writing.ensures (ends_made g.W.Sink.held g.W.Sink.tally c.args.choice (said_by c.args.settings) c.args.table.now
    c.in_ok-made.made c.args.sink.now c.write_all.new.sink c.write_all.result c.in_ok-made.ensures (rw c.deref.ensures.value at c.write_all.ensures.ok)
    (rw c.deref.ensures.value at c.write_all.ensures.prefix) c.write_all.ensures.cause)
