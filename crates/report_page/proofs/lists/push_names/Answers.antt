use Rattle.std.proofs.Common.{◌≡◌, append-nil, sym, arith}
use Rattle.league.specs.League.{teams}
use Rattle.league.specs.Sets.{has}
use Rattle.league.proofs.ForCallers.{sum_below_none}
use Rattle.report_page.specs.Lists.{name_in, names_text}
use Rattle.report_page.proofs.Counting.{counted_more, one_at_most}
use Rattle.report_page.proofs.Pushes.{piece_added}
use Rattle.report_page.proofs.lists.push_names.Goals as goal

pub loop-team-init : goal.loop-team-init
loop-team-init c = record { text = sym (append-nil _); counted = sym (sum_below_none _); few = omega arith }

pub loop-team-preserved : goal.loop-team-preserved
loop-team-preserved c = record {
  text = piece_added _ _ _ (name_in c.args.league.now (has c.args.chosen)) c.loop-team.team c.loop-team.invariant.text
      (rw (c.has-passes.ensures, c.loop-team.invariant.counted, c.len-all.ensures.among (teams c.args.league.now) c.requires)
      at c.in_ok-push_name_if.ensures);
  counted = counted_more c.loop-team.team (has c.args.chosen) c.loop-team.before c.from-before.result c.has-passes.result
      c.loop-team.invariant.counted c.has-passes.ensures c.from-before.ensures;
  few = omega (arith, c.loop-team.invariant.few, one_at_most c.has-passes.result c.from-before.result c.from-before.ensures);
}

pub returns : goal.returns
unfolding names_text
returns c =
    let whole : c.loop-team.team ≡ teams c.args.league.now = omega (arith, c.teams-team-end.ensures.value) in
    rw whole at c.loop-team.invariant.text
