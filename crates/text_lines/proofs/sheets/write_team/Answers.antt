use Rattle.byte_streams.proofs.Pieces.{Adds-stops, Adds-then, Adds-writes, Stops-more, Stops-writes}
use Rattle.league.specs.League.{name_of}
use Rattle.text_lines.specs.Sheet.{name_end, pattern_of}
use Rattle.text_lines.proofs.sheets.write_team.Goals as goal

pub returns-in_err-write_label : goal.returns-in_err-write_label
returns-in_err-write_label g c =
    Stops-writes c.from_residual.ensures.0
    (Stops-more (name_end (name_of c.args.league.now c.args.team))
    (Stops-more (pattern_of c.args.schedule.now c.args.team) c.in_err-write_label.ensures.err))

pub returns-in_err-write_pattern : goal.returns-in_err-write_pattern
returns-in_err-write_pattern g c =
    Stops-writes c.from_residual-in_err-write_pattern.ensures.0
    (Stops-more (name_end (name_of c.args.league.now c.args.team))
    (Adds-stops c.in_ok-write_label.ensures.ok c.in_err-write_pattern.ensures.err))

pub returns : goal.returns
returns g c =
    Adds-writes (Adds-then c.in_ok-write_label.ensures.ok c.in_ok-write_pattern.ensures.ok) (rw c.name.ensures at c.write_name.ensures)
