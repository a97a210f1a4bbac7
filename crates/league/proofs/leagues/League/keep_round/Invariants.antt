use Rattle.std.proofs.Common.{◌&&◌, ◌==◌, nat_lt}
use Rattle.league.specs.Starts.{start_round, KeepsMore}
use Rattle.league.proofs.leagues.League.keep_round.Given as goal

abbrev pub invariant-loop-home : goal.invariant-loop-home
invariant-loop-home l = KeepsMore (λ h a. nat_lt h l.home && start_round l.fn.self h a == l.round) l.fn.self l.self
