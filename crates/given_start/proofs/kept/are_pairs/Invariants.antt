use Rattle.std.proofs.Common.{◌≡◌, drop}
use Rattle.given_start.specs.Begun.{are_pairs}
use Rattle.given_start.proofs.kept.are_pairs.Given as goal

abbrev pub invariant-loop-game : goal.invariant-loop-game
invariant-loop-game l = are_pairs l.teams l.games ≡ are_pairs l.teams (drop l.game-index l.games)
