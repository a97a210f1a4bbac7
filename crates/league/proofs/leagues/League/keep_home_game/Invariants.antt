use Rattle.std.proofs.Common.{◌&&◌, ◌==◌, nat_lt}
use Rattle.league.specs.Starts.{start_round, KeepsMore}
use Rattle.league.proofs.leagues.League.keep_home_game.Given as goal

abbrev pub invariant-loop-away : goal.invariant-loop-away
invariant-loop-away l =
    KeepsMore (λ h a. nat_lt a l.away && (h == l.home && start_round l.fn.self h a == l.round)) l.fn.self l.self
