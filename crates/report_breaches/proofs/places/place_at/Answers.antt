use Rattle.report_breaches.proofs.places.place_at.Goals as goal

pub returns-in-Ga1-clause-value : goal.returns-in-Ga1-clause-value
returns-in-Ga1-clause-value c = rw c.in-Ga1.is c.listed_side.ensures.value

pub returns-in-Ga1-clause-in_range : goal.returns-in-Ga1-clause-in_range
returns-in-Ga1-clause-in_range c = c.listed_side.ensures.in_range c.args.schedule.now.teams
