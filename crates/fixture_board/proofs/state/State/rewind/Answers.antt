use Rattle.std.proofs.Common.{sym, ◌∙◌, ap, subst}
use Rattle.fixtures.specs.Games.{Games}
use Rattle.costs.specs.Costs.{cost_of}
use Rattle.fixture_board.specs.History.{effective}
use Rattle.fixture_board.specs.within.Retraced.{IsRetraced}
use Rattle.fixture_board.proofs.Rewinding.{HavePlaces-kept, best_size, FollowsHistory-rewound}
use Rattle.fixture_board.proofs.state.State.rewind.Goals as goal

pub retrace-requires-2 : goal.retrace-requires-2
retrace-requires-2 c =
    HavePlaces-kept _ _ c.requires.kept
    (c.deref-2.ensures.value ∙ c.retrace.ensures.items ∙ ap effective (c.deref.ensures.value ∙ c.truncate.ensures.items))

pub cost_of-self-requires : goal.cost_of-self-requires
cost_of-self-requires c =
    sym (ap (λ (g : Games). g.teams) c.copy_from.ensures ∙ best_size c.in-Some.best c.requires.kept c.in-Some.is)

-- the pins are those of the history that is left
retraced : (c : goal.After-self-2-1) → IsRetraced c.args.league.now (effective c.truncate.new.self.items) c.retrace-2.new.self
retraced c =
    subst (λ changes. IsRetraced c.args.league.now changes c.retrace-2.new.self)
    (c.deref-2.ensures.value ∙ c.retrace.ensures.items ∙ ap effective c.deref.ensures.value) c.retrace-2.ensures

pub returns-clause-history : goal.returns-clause-history
returns-clause-history c =
    let cost_is = c.cost_of-self.ensures.value ∙ ap (cost_of c.args.league.now) c.copy_from.ensures in
    (FollowsHistory-rewound c.in-Some.best c.truncate.new.self.items _ c.retrace-2.new.self c.requires.kept c.in-Some.is
    c.truncate.ensures.items cost_is (retraced c)).0

pub returns-clause-kept : goal.returns-clause-kept
returns-clause-kept c =
    let cost_is = c.cost_of-self.ensures.value ∙ ap (cost_of c.args.league.now) c.copy_from.ensures in
    let changes_are = c.retrace.ensures.items ∙ ap effective c.deref.ensures.value in
    rw (changes_are, c.copy_from.ensures)
    (FollowsHistory-rewound c.in-Some.best c.truncate.new.self.items _ c.retrace-2.new.self c.requires.kept c.in-Some.is
    c.truncate.ensures.items cost_is (retraced c)).1
