use Rattle.std.proofs.Common.{◌&&◌, ◌||◌, sym, ◌∙◌}
use Rattle.league.specs.Sets.{has}
use Rattle.league.specs.declared.rule.Pairing.{Pairing}
use Rattle.fixtures.specs.Games.{round_of}
use Rattle.rules.proofs.walks.Searches.{list_any_found, list_any_not_yet}
use Rattle.rules.specs.Parts.{has_moved_game}
use Rattle.rules.proofs.classes.ga1.has_moved_game.Goals as goal

pub loop-i-preserved : goal.loop-i-preserved
loop-i-preserved c =
    list_any_not_yet
    (λ (game : Pairing). (has c.args.change.now.main game.home || has c.args.change.now.main game.away) && has c.args.change.now.rounds
    (round_of c.args.schedule.now game.home game.away))
    _ _ _ c.at-game.ensures c.loop-i.invariant (sym c.is_moved_game.ensures ∙ c.if-is_moved_game.false)

pub returns-then-is_moved_game : goal.returns-then-is_moved_game
unfolding has_moved_game
returns-then-is_moved_game c =
    sym (list_any_found
    (λ (game : Pairing). (has c.args.change.now.main game.home || has c.args.change.now.main game.away) && has c.args.change.now.rounds
    (round_of c.args.schedule.now game.home game.away))
    _ _ _ c.at-game.ensures (sym c.is_moved_game.ensures ∙ c.if-is_moved_game.true))
