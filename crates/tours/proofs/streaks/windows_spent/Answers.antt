use Rattle.std.proofs.Common.{sym}
use Rattle.tours.proofs.streaks.windows_spent.Goals as goal

pub returns : goal.returns
returns c =
    c.streak_starts.ensures.members c.args.schedule.now c.args.team (sym c.rounds.ensures.number) c.home_rounds.ensures.members
