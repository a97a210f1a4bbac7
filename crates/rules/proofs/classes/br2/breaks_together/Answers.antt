use Rattle.std.proofs.Common.{◌≡◌, arith, refl, sym, ◌∙◌, ap}
use Rattle.std.proofs.lemmas.Bool.{eqb-true, lt-ltb}
use Rattle.league.specs.Sets.{has}
use Rattle.rules.specs.Deviations.{breaks}
use Rattle.league.proofs.ForCallers.{sum_without_none, sum_without_more, sum_without_all, lowest_below, sum_below_same, sum_where_all}
use Rattle.league.specs.declared.rule.Side.TheVariants.{Any}
use Rattle.rules.proofs.counted.CountedRounds.{breaks_in_slots}
use Rattle.rules.proofs.classes.br2.breaks_together.Goals as goal

pub loop-team-init : goal.loop-team-init
loop-team-init c = sum_without_none _ _ _ _ _ (omega arith) c.into_iter-team-iterator.ensures.into_iter_gives

pub breaks_from-count-requires-clause-team : goal.breaks_from-count-requires-clause-team
breaks_from-count-requires-clause-team c = lowest_below _ _ _ _ c.loop-team.invariant.below c.in-Some.ensures.steps

pub loop-team-preserved : goal.loop-team-preserved
loop-team-preserved c = sum_without_more _ _ _ _ _ _ _ _ _ c.loop-team.invariant c.in-Some.ensures.steps
    (c.breaks_from-count.ensures.value ∙
    breaks_in_slots c.args.schedule.now Any c.in-Some.team _ c.args.slots c.rounds_before-firsts.ensures.members)
    c.breaks_from-count.ensures.most

pub returns-then-eq : goal.returns-then-eq
returns-then-eq c =
    let all : c.args.teams ≡ c.below.result = eqb-true _ _ (sym c.eq.ensures ∙ c.if-eq.true) in
    c.breaks_of_all.ensures ∙
    sum_below_same c.args.schedule.now.teams _ _
    (λ t in_t. breaks_in_slots c.args.schedule.now Any t _ c.args.slots c.rounds_before-firsts.ensures.members) ∙
    sym (sum_where_all c.args.schedule.now.teams (has c.args.teams) (λ t. breaks c.args.schedule.now t (has c.args.slots) Any)
    (λ t in_t.
    ap (λ s. has s t) all ∙ c.below.ensures.members t ∙ lt-ltb t c.teams.result (omega (arith, c.teams.ensures.number))))

pub returns : goal.returns
returns c = sum_without_all _ _ _ _ _ _ _ c.loop-team.invariant c.in-None.ensures.steps.0 (λ k below. refl)
