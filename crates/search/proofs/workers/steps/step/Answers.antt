use Rattle.search.proofs.Scorings.{scoring_still}
use Rattle.search.proofs.workers.steps.step.Goals as goal

pub refresh-requires-clause-scoring : goal.refresh-requires-clause-scoring
refresh-requires-clause-scoring g c =
    scoring_still c.args.context.scoring.of_boards c.args.context.scoring.league.now (g.D.Door.may_have c.args.door.now)
    (g.D.Door.may_have c.front.new.self)
    (g.met.D.Door.stays_boards c.args.door.now c.front.new.self c.front.ensures.stays) c.requires.scoring

pub settle-requires-clause-scoring : goal.settle-requires-clause-scoring
settle-requires-clause-scoring g c =
    scoring_still c.args.context.scoring.of_boards c.args.context.scoring.league.now (g.D.Door.may_have c.args.door.now)
    (g.D.Door.may_have c.propose-reply.new.self)
    (g.met.D.Door.stays_boards c.args.door.now c.propose-reply.new.self
    (g.met.D.Door.stays_then c.args.door.now c.front.new.self c.propose-reply.new.self c.front.ensures.stays c.propose-reply.ensures.stays))
    c.requires.scoring
