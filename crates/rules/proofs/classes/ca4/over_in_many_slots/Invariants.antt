use Rattle.rules.proofs.counted.RoundCounts.{HasCounted}
use Rattle.rules.proofs.classes.ca4.over_in_many_slots.Given as goal

abbrev pub invariant-loop-team : goal.invariant-loop-team
invariant-loop-team l =
    HasCounted l.schedule l.games.side l.games.opponents l.slots l.most l.games.teams l.team-iterator l.numbers
