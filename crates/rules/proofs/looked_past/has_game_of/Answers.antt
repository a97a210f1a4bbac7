use Rattle.std.proofs.Common.{sym, ◌∙◌, ◌||◌}
use Rattle.league.specs.Sets.{has}
use Rattle.league.specs.declared.rule.Pairing.{Pairing}
use Rattle.rules.specs.LooksPast.{has_game_of}
use Rattle.rules.proofs.walks.Searches.{list_any_found, list_any_not_yet}
use Rattle.rules.proofs.looked_past.has_game_of.Goals as goal

pub loop-i-preserved : goal.loop-i-preserved
loop-i-preserved c =
    list_any_not_yet (λ (game : Pairing). has c.args.teams game.home || has c.args.teams game.away) _ _ _ c.at-game.ensures
    c.loop-i.invariant (sym c.is_game_of.ensures ∙ c.if-is_game_of.false)

pub returns-then-is_game_of : goal.returns-then-is_game_of
unfolding has_game_of
returns-then-is_game_of c =
    sym (list_any_found (λ (game : Pairing). has c.args.teams game.home || has c.args.teams game.away) _ _ _ c.at-game.ensures
    (sym c.is_game_of.ensures ∙ c.if-is_game_of.true))
