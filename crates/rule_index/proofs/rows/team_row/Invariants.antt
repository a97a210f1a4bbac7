use Rattle.rule_index.specs.Alterable.{passes_at}
use Rattle.rule_index.specs.Index.{looks_at_games_of, has_opponent, has_stranger}
use Rattle.rule_index.proofs.Collected.{IsCollected}
use Rattle.rule_index.proofs.rows.team_row.Given as goal

abbrev pub invariant-loop-i : goal.invariant-loop-i
invariant-loop-i l = record {
  own : IsCollected (passes_at l.league.rules (looks_at_games_of l.team)) l.i l.own;
  opponent : IsCollected (passes_at l.league.rules (has_opponent l.team)) l.i l.opponent;
  stranger : IsCollected (passes_at l.league.rules (has_stranger l.team)) l.i l.stranger;
}
