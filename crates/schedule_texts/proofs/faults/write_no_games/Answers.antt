use Rattle.std.proofs.Common.{◌≡◌, [], drop}
use Rattle.std.proofs.lemmas.List.{drop_all}
use Rattle.byte_streams.proofs.Pieces.{Stops-writes}
use Rattle.text_lines.proofs.ForCallers.{none_added, one_added, one_stopped, all_added}
use Rattle.schedule_texts.proofs.Lists.{no_games_from}
use Rattle.schedule_texts.proofs.faults.write_no_games.Goals as goal

pub loop-game-init : goal.loop-game-init
loop-game-init g c = none_added _ _

pub loop-game-preserved : goal.loop-game-preserved
loop-game-preserved g c =
    let next = no_games_from c.args.teams c.args.written.now c.loop-game.game-index (record { round = 0; home = 0; away = 0 })
    c.loop-game-test.true in
    one_added _ _ _ (rw next at c.loop-game.invariant) c.in_ok-write_no_game.ensures.ok

pub returns-in_err-write_no_game : goal.returns-in_err-write_no_game
returns-in_err-write_no_game g c =
    let next = no_games_from c.args.teams c.args.written.now c.loop-game.game-index (record { round = 0; home = 0; away = 0 })
    c.loop-game-test.true in
    Stops-writes c.from_residual.ensures.0 (one_stopped _ _ _ (rw next at c.loop-game.invariant) c.in_err-write_no_game.ensures.err)

pub returns : goal.returns
returns g c =
    let none : drop c.loop-game.game-index c.args.written.now ≡ [] =
    drop_all c.loop-game.game-index c.args.written.now c.loop-game-test.false in
    record { ok = all_added _ (rw none at c.loop-game.invariant); err = tt }
