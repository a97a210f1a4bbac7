use Rattle.std.proofs.Common.{◌∙◌, arith}
use Rattle.search.proofs.Scorings.{shown_cost, shown_small}
use Rattle.search.proofs.workers.steps.refresh.Goals as goal
use Rattle.search.proofs.workers.steps.refresh.Goals.{else-of_boards, then-of_boards}

pub score-requires : goal.score-requires
score-requires g c =
    elim c.if-of_boards.branch [
      | then-of_boards w ↦ rw w.cost-is (shown_small c.args.scoring.of_boards c.args.scoring.league.now
          (g.D.Door.may_have c.args.door.now) _ c.args.copy.now c.look-seen.result c.look-seen.new.copy _ w.if-of_boards.true
          c.requires.scoring c.look-seen.ensures.shown c.teams.ensures.limits)
      | else-of_boards w ↦ rw w.cost-is (omega (arith, w.cost_of-cost.ensures.small))
    ]

pub returns-clause-copy_cost : goal.returns-clause-copy_cost
returns-clause-copy_cost g c =
    record {
      cost_is = elim c.if-of_boards.branch [
        | then-of_boards w ↦ w.cost-is ∙ shown_cost c.args.scoring.of_boards c.args.scoring.league.now
            (g.D.Door.may_have c.args.door.now) _ c.args.copy.now c.look-seen.result c.look-seen.new.copy _ w.if-of_boards.true
            c.requires.scoring c.look-seen.ensures.shown c.requires.same_size
        | else-of_boards w ↦ w.cost-is ∙ w.cost_of-cost.ensures.value
      ];
      score_is = c.score.ensures;
    }
