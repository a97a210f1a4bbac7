use Rattle.std.proofs.Common.{◌≡◌, ◌+◌, sym, ◌∙◌, arith}
use Rattle.tours.proofs.streaks_and_repeats.StreakStarts.{streaks_counted, no_streaks_counted}
use Rattle.tours.proofs.streaks.streaks_of_team.Goals as goal

pub returns-then-intersects-clause-value : goal.returns-then-intersects-clause-value
returns-then-intersects-clause-value c =
    let same : c.from.result ≡ c.len.result = omega arith in
    same ∙ c.len.ensures.value ∙
    streaks_counted c.args.schedule.now c.args.team (c.args.at_most + 1) c.windows_spent-streaks.result c.args.starts
    c.intersection-counted.result (omega arith)
    (omega (arith, c.rounds.ensures.number, c.rounds.ensures.most)) c.windows_spent-streaks.ensures c.intersection-counted.ensures.members

pub returns-else-intersects-clause-value : goal.returns-else-intersects-clause-value
returns-else-intersects-clause-value c =
    sym (no_streaks_counted c.args.schedule.now c.args.team (c.args.at_most + 1) c.windows_spent-streaks.result c.args.starts (omega arith)
    (omega (arith, c.rounds.ensures.number, c.rounds.ensures.most)) c.windows_spent-streaks.ensures (sym c.intersects.ensures ∙ c.if-intersects.false))
