use Rattle.std.proofs.Common.{◌≡◌, ◌&&◌, ◌==◌, false, take}
use Rattle.std.specs.List.{list_any}
use Rattle.league.specs.declared.rule.Pairing.{Pairing}
use Rattle.fixtures.specs.Games.{cell, round_of}
use Rattle.report_breaches.specs.Cells.{are_these}
use Rattle.report_breaches.proofs.cells.is_listed.Given as goal

abbrev pub invariant-loop-i : goal.invariant-loop-i
invariant-loop-i l =
    list_any (λ (game : Pairing). are_these game.home game.away l.team (cell l.schedule l.team l.round).opponent &&
    round_of l.schedule game.home game.away == l.round)
    (take l.i l.games) ≡ false
