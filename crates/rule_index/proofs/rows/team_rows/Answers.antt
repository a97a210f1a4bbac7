use Rattle.std.proofs.Common.{◌∙◌, arith}
use Rattle.std.proofs.lemmas.List.{length-set}
use Rattle.std.proofs.lemmas.Option.{slice_get_within}
use Rattle.rule_index.specs.Index.{IsTeamRow}
use Rattle.rule_index.proofs.Collected.{each_row_written}
use Rattle.rule_index.proofs.rows.team_rows.Goals as goal

pub loop-team-preserved : goal.loop-team-preserved
loop-team-preserved c = record {
  len = length-set _ _ _ ∙ c.loop-team.invariant.len;
  rows = rw c.from.ensures (each_row_written (IsTeamRow c.args.league.now.rules) c.loop-team.rows c.loop-team.team c.team_row.result
      (omega (arith, c.loop-team.invariant.len, c.loop-team-test.true)) c.loop-team.invariant.rows c.team_row.ensures);
}

pub returns-clause-rows : goal.returns-clause-rows
returns-clause-rows c k row is =
    c.loop-team.invariant.rows k row
    (omega (arith, slice_get_within c.loop-team.rows k row is, c.loop-team.invariant.len, c.loop-team-test.false)) is
