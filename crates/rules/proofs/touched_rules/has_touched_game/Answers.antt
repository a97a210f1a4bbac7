use Rattle.std.proofs.Common.{sym, ◌∙◌}
use Rattle.league.specs.Sets.{has}
use Rattle.league.specs.declared.rule.Pairing.{Pairing}
use Rattle.rules.proofs.walks.Searches.{list_any_found, list_any_not_yet}
use Rattle.rules.specs.Touches.{has_touched_game}
use Rattle.rules.proofs.touched_rules.has_touched_game.Goals as goal

pub loop-i-preserved : goal.loop-i-preserved
loop-i-preserved c =
    list_any_not_yet (λ (game : Pairing). has c.args.touched game.home) _ _ _ c.at-game.ensures c.loop-i.invariant
    (sym c.has.ensures ∙ c.if-has.false)

pub returns-then-has : goal.returns-then-has
unfolding has_touched_game
returns-then-has c =
    sym (list_any_found (λ (game : Pairing). has c.args.touched game.home) _ _ _ c.at-game.ensures (sym c.has.ensures ∙ c.if-has.true))
