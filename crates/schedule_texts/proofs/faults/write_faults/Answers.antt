use Rattle.byte_streams.proofs.Pieces.{Adds-stops, Adds-then, Adds-writes, Stops-more, Stops-writes}
use Rattle.std.proofs.Common.{codes}
use Rattle.std.specs.Str.Lines.{lines}
use Rattle.schedule_texts.specs.Faults.{faults_text, game_faults, no_game_lines}
use Rattle.schedule_texts.specs.Given.{given_games}
use Rattle.schedule_texts.specs.LastSheet.{last_sheet}
use Rattle.schedule_texts.specs.ScheduleText.{written_games}
use Rattle.schedule_texts.proofs.faults.write_faults.Goals as goal

pub returns-in_err-write_bad_lines : goal.returns-in_err-write_bad_lines
unfolding faults_text
returns-in_err-write_bad_lines g c =
    Stops-writes c.from_residual.ensures.0
    (Stops-more (codes "no double round robin\n")
    (Stops-more (game_faults c.args.teams (given_games (lines c.args.text.now)))
    (Stops-more (no_game_lines c.args.teams (written_games (last_sheet (lines c.args.text.now)))) c.in_err-write_bad_lines.ensures.err)))

pub returns-in_err-write_no_games : goal.returns-in_err-write_no_games
unfolding faults_text
returns-in_err-write_no_games g c =
    Stops-writes c.from_residual-in_err-write_no_games.ensures.0
    (Stops-more (codes "no double round robin\n")
    (Stops-more (game_faults c.args.teams (given_games (lines c.args.text.now)))
    (Adds-stops c.in_ok-write_bad_lines.ensures.ok (rw c.requires.written at c.in_err-write_no_games.ensures.err))))

pub returns-in_err-write_game_faults : goal.returns-in_err-write_game_faults
unfolding faults_text
returns-in_err-write_game_faults g c =
    Stops-writes c.from_residual-in_err-write_game_faults.ensures.0
    (Stops-more (codes "no double round robin\n")
    (Adds-stops (Adds-then c.in_ok-write_bad_lines.ensures.ok (rw c.requires.written at c.in_ok-write_no_games.ensures.ok))
    (rw c.requires.games at c.in_err-write_game_faults.ensures.err)))

pub returns : goal.returns
unfolding faults_text
returns g c =
    Adds-writes (Adds-then (Adds-then c.in_ok-write_bad_lines.ensures.ok (rw c.requires.written at c.in_ok-write_no_games.ensures.ok))
    (rw c.requires.games at c.in_ok-write_game_faults.ensures.ok)) c.write.ensures.writes
