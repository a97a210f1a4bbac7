use Rattle.std.proofs.Common.{◌≡◌, drop, true}
use Rattle.league.specs.League.{teams}
use Rattle.given_start.specs.Begun.{are_pairs, keeping_games}
use Rattle.given_start.proofs.kept.keep_games.Given as goal

abbrev pub invariant-loop-game : goal.invariant-loop-game
invariant-loop-game l = record {
  kept : keeping_games l.games l.initial.league ≡ keeping_games (drop l.game-index l.games) l.league;
  pairs : are_pairs (teams l.league) (drop l.game-index l.games) ≡ true;
}
