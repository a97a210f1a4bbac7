use Rattle.std.proofs.Common.{◌∙◌, sym}
use Rattle.improvement.proofs.FreeRounds.{none_kept, not_whole, one_kept}
use Rattle.improvement.proofs.rounds.is_kept_whole.Goals as goal

pub loop-team-init : goal.loop-team-init
loop-team-init c = none_kept c.args.league.now c.args.schedule.now c.args.round

pub returns-then-not-is_kept : goal.returns-then-not-is_kept
returns-then-not-is_kept c =
    sym (not_whole c.args.league.now c.args.schedule.now c.args.round c.loop-team.team c.args.schedule.now.teams
    (rw c.teams-team-end.ensures.number at c.loop-team-test.true) (sym c.is_kept.ensures ∙ c.if-not-is_kept.true))

pub loop-team-preserved : goal.loop-team-preserved
loop-team-preserved c =
    one_kept c.args.league.now c.args.schedule.now c.args.round c.loop-team.team c.loop-team.invariant
    (sym c.is_kept.ensures ∙ c.if-not-is_kept.false)
