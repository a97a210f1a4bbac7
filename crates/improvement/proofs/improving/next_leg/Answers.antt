use Rattle.improvement.proofs.improving.next_leg.Goals as goal

pub returns-then-not-wants_more-clause-line : goal.returns-then-not-wants_more-clause-line
returns-then-not-wants_more-clause-line g c = λ legs line. c.next_running.ensures.line c.args.setting.start.now legs line
