use Rattle.rules.proofs.counted.OpponentRounds.{HasMet}
use Rattle.rules.proofs.counted_games.rounds_against.Given as goal

abbrev pub invariant-loop-opponent : goal.invariant-loop-opponent
invariant-loop-opponent l = HasMet l.schedule l.team l.side l.fn.opponents l.opponent-iterator l.against
