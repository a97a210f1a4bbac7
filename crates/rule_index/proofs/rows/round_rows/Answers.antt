use Rattle.std.proofs.Common.{◌∙◌, arith}
use Rattle.std.proofs.lemmas.List.{length-set}
use Rattle.std.proofs.lemmas.Option.{slice_get_within}
use Rattle.rule_index.specs.Index.{IsRoundRow}
use Rattle.rule_index.proofs.Collected.{each_row_written}
use Rattle.rule_index.proofs.rows.round_rows.Goals as goal

pub loop-round-preserved : goal.loop-round-preserved
loop-round-preserved c = record {
  len = length-set _ _ _ ∙ c.loop-round.invariant.len;
  rows = rw c.from.ensures (each_row_written (IsRoundRow c.args.league.now.rules) c.loop-round.rows c.loop-round.round c.round_row.result
      (omega (arith, c.loop-round.invariant.len, c.loop-round-test.true)) c.loop-round.invariant.rows c.round_row.ensures);
}

pub returns-clause-rows : goal.returns-clause-rows
returns-clause-rows c k row is =
    c.loop-round.invariant.rows k row
    (omega (arith, slice_get_within c.loop-round.rows k row is, c.loop-round.invariant.len, c.loop-round-test.false)) is
