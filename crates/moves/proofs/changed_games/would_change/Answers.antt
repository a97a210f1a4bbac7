use Rattle.std.proofs.Common.{◌≡◌, ℕ, Bool, ◌∙◌, ap, ◌&&◌, ◌||◌, sym, subst}
use Rattle.league.specs.Sets.{has}
use Rattle.fixtures.specs.declared.exchanges.Exchange.{Exchange}
use Rattle.fixtures.specs.Exchanges.{exchanged_by}
use Rattle.fixtures.specs.Games.{Games, round_of, IsPair}
use Rattle.fixtures.specs.TouchedCells.{TouchedCells}
use Rattle.fixtures.proofs.ForCallers.{each_tells, TellsChange, is_changed_by}
use Rattle.moves.specs.declared.moves.Move.{Move}
use Rattle.moves.specs.ExchangeOf.{IsExchangeOf}
use Rattle.moves.specs.Moves.{moved}
use Rattle.moves.proofs.changed_games.would_change.Goals as goal

-- of a move, by its exchange, and a game that stands in its round
tells_change : (g : Games) (mv : Move) (exchange : Exchange) → IsExchangeOf g mv exchange → (h a r : ℕ) →
    IsPair g.teams h a → round_of g h a ≡ r → (result : Bool) → result ≡ is_changed_by exchange h a r →
    TellsChange result (round_of (moved g mv) h a) r
tells_change g mv exchange one h a r p there result tested =
    subst (λ b. TellsChange b (round_of (moved g mv) h a) r) (sym tested)
    (subst (λ (x : Games). TellsChange (is_changed_by exchange h a r) (round_of x h a) r) (sym one.is)
    (subst (λ x. TellsChange (is_changed_by exchange h a x) (round_of (exchanged_by g exchange) h a) x) there
    (each_tells g exchange one.can_be_made h a p)))

pub returns : goal.returns
returns c =
    tells_change c.args.schedule.now c.args.mv _ c.exchange.ensures.is_move _ _ _ c.requires.pair c.requires.there _
    (c.is_in.ensures ∙
    ap (λ (cells : TouchedCells). has cells.rounds c.args.game.round &&
    (has cells.teams c.args.game.home || has cells.teams c.args.game.away))
    c.main.ensures)
