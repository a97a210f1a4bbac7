use Rattle.std.proofs.Common.{◌≡◌, ◌∙◌, sym, ap, false}
use Rattle.league.specs.Games.{has_game}
use Rattle.league.proofs.GameLists.{IsGameList-push, length-le-IsGameList}
use Rattle.league.proofs.rule.GameList.add.Goals as goal

pub invariant_of-self : goal.invariant_of-self
invariant_of-self c =
    let new : has_game c.self.inside.games.items c.args.game ≡ false =
    sym (ap (λ games. has_game games c.args.game) c.deref.ensures.value) ∙ sym c.contains.ensures.value
    ∙ c.if-not-contains.true in
    rw c.in_ok-push.ensures.items (IsGameList-push _ _ c.self.invariant new c.requires)

pub returns-in_ok-push-clause-most : goal.returns-in_ok-push-clause-most
returns-in_ok-push-clause-most c = length-le-IsGameList _ (invariant_of-self c)

pub returns-else-not-contains-clause-most : goal.returns-else-not-contains-clause-most
returns-else-not-contains-clause-most c = rw (← c.self.view_is) (length-le-IsGameList _ c.self.invariant)
