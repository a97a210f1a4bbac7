use Rattle.std.proofs.Common.{drop}
use Rattle.text_lines.proofs.ForCallers.{AddsAllBut}
use Rattle.schedule_texts.specs.Faults.{no_game_lines}
use Rattle.schedule_texts.proofs.faults.write_no_games.Given as goal

abbrev pub invariant-loop-game : goal.invariant-loop-game
invariant-loop-game g l =
    AddsAllBut g.W.Sink.held g.W.Sink.tally l.initial.out l.out (no_game_lines l.teams l.written)
    (no_game_lines l.teams (drop l.game-index l.written))
