use Rattle.std.proofs.Common.{◌≡◌, ◌≤◌, take}
use Rattle.std.specs.List.{count_by}
use Rattle.league.specs.Sets.{has}
use Rattle.league.specs.declared.rule.Pairing.{Pairing}
use Rattle.fixtures.specs.Games.{round_of}
use Rattle.rules.proofs.classes.ga1.listed_games_in.Given as goal

abbrev pub invariant-loop-i : goal.invariant-loop-i
invariant-loop-i l =
    (l.count ≡ count_by (λ (game : Pairing). has l.slots (round_of l.schedule game.home game.away)) (take l.i l.games)) × (l.count ≤ l.i)
