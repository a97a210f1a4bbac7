use Rattle.std.proofs.Common.{◌≡◌, ◌+◌, ◌*◌, ◌≤◌}
use Rattle.std.specs.Prelude.{slice_get}
use Rattle.league.specs.Limits.{deviation_limit}
use Rattle.byte_streams.specs.Pieces.{pieces_below}
use Rattle.byte_streams.specs.Writing.{Adds}
use Rattle.board_texts.specs.LeastHard.{breaches_of, rule_part}
use Rattle.board_texts.proofs.least_hard.write_rules.Given as goal

abbrev pub invariant-loop-i : goal.invariant-loop-i
invariant-loop-i g l = record {
  added : Adds g.W.Sink.held g.W.Sink.tally l.initial.out l.out (pieces_below
      (λ i. rule_part l.schedule (l.breaches + breaches_of l.league.rules l.schedule i) i (slice_get l.league.rules i)) l.i);
  before : l.before ≡ l.breaches + breaches_of l.league.rules l.schedule l.i;
  most : l.before ≤ l.breaches + l.i * deviation_limit;
}
