use Rattle.std.proofs.Common.{◌∙◌}
use Rattle.rules.proofs.rows.GapTables.{with_table, told_by_gaps}
use Rattle.rules.proofs.known_gaps.KnownGaps.gaps_with.Goals as goal

pub returns-clause-known : goal.returns-clause-known
returns-clause-known c =
    with_table c.follow.new.self c.args.place c.add_teams.new.self c.follow.ensures.known c.requires.place c.add_teams.ensures.table

pub returns-clause-value : goal.returns-clause-value
returns-clause-value c =
    c.over.ensures ∙
    told_by_gaps c.args.schedule.now c.follow.new.self.homes.rows c.add_teams.new.self c.args.fairness.now.teams c.args.set
    c.args.fairness.now.slots c.args.fairness.now.most c.requires.round_robin c.requires.teams c.requires.below c.follow.ensures.rows
    c.add_teams.ensures.table
    (c.add_teams.ensures.slots ∙ c.follow.ensures.slots c.args.place c.index-self-place.result ∙ c.requires.slots c.index-self-place.result)
    c.add_teams.ensures.teams
