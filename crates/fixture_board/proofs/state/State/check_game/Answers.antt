use Rattle.std.proofs.Common.{sym, ap, ◌∙◌}
use Rattle.fixtures.specs.Draft.{is_game_in_range}
use Rattle.std.proofs.lemmas.Bool.{eq-eqb}
use Rattle.fixture_board.proofs.Reasons.{has_game-told}
use Rattle.fixture_board.proofs.state.State.check_game.Goals as goal

pub returns-clause-pinned : goal.returns-clause-pinned
returns-clause-pinned c =
    has_game-told _ c.args.game _ _ c.round_of.ensures.round_robin (ap (λ n. is_game_in_range n c.args.game) (sym c.teams.ensures.number) ∙ sym c.is_in_range.ensures.value ∙ c.if-not-is_in_range.false)
    (eq-eqb _ _ (sym c.round_of.ensures.value ∙ c.if-round_of-game.false)) c.has.ensures
