use Rattle.std.proofs.Common.{sym, ◌∙◌}
use Rattle.tours.proofs.streaks_and_repeats.StreakStarts.{streak_from}
use Rattle.tours.proofs.streaks.streak_starts.Goals as goal

pub returns : goal.returns
returns c = record {
  members = λ g t season homes first.
      c.starts_within.ensures.members first ∙
      streak_from g t c.args.length c.args.rounds c.args.home c.like_next_below-like_next.result c.requires.least (sym season) homes
      c.like_next_below-like_next.ensures.members first;
}
