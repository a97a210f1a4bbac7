use Rattle.byte_streams.proofs.Pieces.{Adds-stops, Adds-then, Adds-writes, Stops-more, Stops-writes}
use Rattle.byte_streams.specs.Pieces.{pieces_below}
use Rattle.fixtures.specs.Games.{round_count}
use Rattle.text_lines.specs.Sheet.{team_line, round_line, sheet_of}
use Rattle.text_lines.proofs.sheets.write_sheet.Goals as goal

pub returns-in_err-write_head : goal.returns-in_err-write_head
unfolding sheet_of
returns-in_err-write_head g c =
    Stops-writes c.from_residual.ensures.0
    (Stops-more (pieces_below (round_line c.args.schedule.now) (round_count c.args.schedule.now.teams))
    (Stops-more (pieces_below (team_line c.args.schedule.now c.args.league.now) c.args.schedule.now.teams)
    c.in_err-write_head.ensures.err))

pub returns-in_err-write_teams : goal.returns-in_err-write_teams
unfolding sheet_of
returns-in_err-write_teams g c =
    Stops-writes c.from_residual-in_err-write_teams.ensures.0
    (Stops-more (pieces_below (round_line c.args.schedule.now) (round_count c.args.schedule.now.teams))
    (Adds-stops c.in_ok-write_head.ensures.ok c.in_err-write_teams.ensures.err))

pub returns : goal.returns
unfolding sheet_of
returns g c = Adds-writes (Adds-then c.in_ok-write_head.ensures.ok c.in_ok-write_teams.ensures.ok) c.write_rounds.ensures
