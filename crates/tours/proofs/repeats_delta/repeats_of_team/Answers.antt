use Rattle.std.proofs.Common.{sym, ◌∙◌, arith}
use Rattle.std.proofs.lemmas.Bool.{cond-true, eq-eqb}
use Rattle.tours.specs.within.Delta.{met}
use Rattle.tours.proofs.streaks_and_repeats.RepeatsDelta.{met_cell, beside_before, beside_after, next_before, next_after}
use Rattle.tours.proofs.repeats_delta.repeats_of_team.Goals as goal

pub returns-then-in_k-in_l-clause-before : goal.returns-then-in_k-in_l-clause-before
returns-then-in_k-in_l-clause-before c =
    sym (cond-true _ _ _ (eq-eqb _ _ (met_cell c.args.schedule.now c.args.team c.args.k _ (omega arith)
    c.game_at-in_k.ensures.value ∙ c.if-in_k-in_l.true ∙
    sym (met_cell c.args.schedule.now c.args.team c.args.l _ c.requires.l c.game_at-in_l.ensures.value))))

pub returns-then-in_k-in_l-clause-after : goal.returns-then-in_k-in_l-clause-after
returns-then-in_k-in_l-clause-after c =
    sym (cond-true _ _ _ (eq-eqb _ _ (met_cell c.args.schedule.now c.args.team c.args.k _ (omega arith)
    c.game_at-in_k.ensures.value ∙ c.if-in_k-in_l.true ∙
    sym (met_cell c.args.schedule.now c.args.team c.args.l _ c.requires.l c.game_at-in_l.ensures.value))))

pub returns-then-l-k-clause-before : goal.returns-then-l-k-clause-before
returns-then-l-k-clause-before c =
    rw (c.same_lower.ensures.value, c.same_lower-then-l-k.ensures.value, c.met-from.ensures.value, c.met-to.ensures.value)
    (next_before (met c.args.schedule.now c.args.team) c.args.team c.args.k c.args.l _ _
    (met_cell c.args.schedule.now c.args.team c.args.k _ (omega arith) c.game_at-in_k.ensures.value)
    (met_cell c.args.schedule.now c.args.team c.args.l _ c.requires.l c.game_at-in_l.ensures.value) c.if-in_k-in_l.false c.if-l-k.true)

pub returns-then-l-k-clause-after : goal.returns-then-l-k-clause-after
returns-then-l-k-clause-after c =
    rw (c.same_lower-then-l-k-2.ensures.value, c.same_lower-then-l-k-3.ensures.value, c.met-from.ensures.value, c.met-to.ensures.value)
    (next_after (met c.args.schedule.now c.args.team) c.args.team c.args.k c.args.l _ _
    (met_cell c.args.schedule.now c.args.team c.args.k _ (omega arith) c.game_at-in_k.ensures.value)
    (met_cell c.args.schedule.now c.args.team c.args.l _ c.requires.l c.game_at-in_l.ensures.value) c.if-in_k-in_l.false c.if-l-k.true)

pub returns-clause-before : goal.returns-clause-before
returns-clause-before c =
    rw (c.repeats_beside-of_k.ensures.before, c.repeats_beside-of_l.ensures.before)
    (beside_before (met c.args.schedule.now c.args.team) c.args.team c.args.k c.args.l _ _
    (met_cell c.args.schedule.now c.args.team c.args.k _ (omega arith) c.game_at-in_k.ensures.value)
    (met_cell c.args.schedule.now c.args.team c.args.l _ c.requires.l c.game_at-in_l.ensures.value) c.if-in_k-in_l.false c.if-l-k.false)

pub returns-clause-after : goal.returns-clause-after
returns-clause-after c =
    rw (c.repeats_beside-of_k.ensures.after, c.repeats_beside-of_l.ensures.after)
    (beside_after (met c.args.schedule.now c.args.team) c.args.team c.args.k c.args.l _ _
    (met_cell c.args.schedule.now c.args.team c.args.k _ (omega arith) c.game_at-in_k.ensures.value)
    (met_cell c.args.schedule.now c.args.team c.args.l _ c.requires.l c.game_at-in_l.ensures.value) c.if-in_k-in_l.false (omega arith))
