use Rattle.std.proofs.Common.{take}
use Rattle.league.specs.Limits.{max_rounds}
use Rattle.schedule_texts.specs.within.Faults.{number_of, takes}
use Rattle.schedule_texts.proofs.Tallies.{Tallies}
use Rattle.schedule_texts.proofs.counted.counts_of.Given as goal

abbrev pub invariant-loop-game : goal.invariant-loop-game
invariant-loop-game l = Tallies (takes l.counted l.teams l.team) (number_of l.counted) (take l.game-index l.games) max_rounds l.counts
