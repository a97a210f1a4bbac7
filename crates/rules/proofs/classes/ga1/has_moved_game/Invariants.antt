use Rattle.std.proofs.Common.{◌≡◌, ◌&&◌, ◌||◌, false, take}
use Rattle.std.specs.List.{list_any}
use Rattle.league.specs.Sets.{has}
use Rattle.league.specs.declared.rule.Pairing.{Pairing}
use Rattle.fixtures.specs.Games.{round_of}
use Rattle.rules.proofs.classes.ga1.has_moved_game.Given as goal

abbrev pub invariant-loop-i : goal.invariant-loop-i
invariant-loop-i l =
    list_any (λ (game : Pairing). (has l.change.main game.home || has l.change.main game.away) && has l.change.rounds
    (round_of l.schedule game.home game.away))
    (take l.i l.games) ≡ false
