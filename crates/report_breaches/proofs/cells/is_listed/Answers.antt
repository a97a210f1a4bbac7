use Rattle.std.proofs.Common.{◌&&◌, ◌==◌, sym, ◌∙◌}
use Rattle.league.specs.declared.rule.Pairing.{Pairing}
use Rattle.fixtures.specs.Games.{cell, round_of}
use Rattle.rules.proofs.ForCallers.{list_any_found, list_any_not_yet}
use Rattle.report_breaches.specs.Cells.{are_these}
use Rattle.report_breaches.proofs.cells.is_listed.Goals as goal

pub loop-i-preserved : goal.loop-i-preserved
loop-i-preserved c =
    list_any_not_yet
    (λ (game : Pairing). are_these game.home game.away c.args.team (cell c.args.schedule.now c.args.team c.args.round).opponent &&
    round_of c.args.schedule.now game.home game.away == c.args.round)
    _ _ _ c.at.ensures c.loop-i.invariant (sym c.is_game.ensures ∙ c.if-is_game.false)

pub returns-then-is_game : goal.returns-then-is_game
returns-then-is_game c =
    sym (list_any_found
    (λ (game : Pairing). are_these game.home game.away c.args.team (cell c.args.schedule.now c.args.team c.args.round).opponent &&
    round_of c.args.schedule.now game.home game.away == c.args.round)
    _ _ _ c.at.ensures (sym c.is_game.ensures ∙ c.if-is_game.true))
