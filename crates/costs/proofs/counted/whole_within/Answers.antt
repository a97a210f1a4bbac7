use Rattle.std.proofs.Common.{◌≡◌, ◌||◌, Bool, true, false, refl, sym, ap, arith}
use Rattle.league.specs.Sets.{has}
use Rattle.costs.proofs.KeptDeviations.{rests_same}
use Rattle.costs.proofs.Partial.{begun_is, first_within, last_within, next_within, whole_is}
use Rattle.costs.proofs.Scores.{cost_small, score_fits}
use Rattle.costs.specs.Costs.{score_by}
use Rattle.costs.specs.within.CostParts.{with_halves}
use Rattle.costs.specs.declared.cost.Cost.{Cost}
use Rattle.costs.proofs.counted.whole_within.Goals as goal

pub overflow_add-begun : goal.overflow_add-begun
overflow_add-begun c =
    omega (
      arith,
      c.phases_part.ensures.value,
      ap (λ (cost : Cost). cost.hard) c.requires.rest,
      (cost_small c.args.league.now c.args.schedule.now c.teams.ensures.limits c.requires.same_size).hard,
    )

pub with_rules-requires-clause-below : goal.with_rules-requires-clause-below
with_rules-requires-clause-below c = c.requires.rules.first_below

pub with_rules-requires-clause-before : goal.with_rules-requires-clause-before
with_rules-requires-clause-before c =
    let begun = begun_is c.args.league.now c.args.scope.now c.args.schedule.now c.args.rest _ c.teams.ensures.limits c.requires.same_size
    c.teams-2.ensures.round_robin c.requires.rules c.requires.rest (ap (with_halves c.args.rest) c.phases_part.ensures.value) in
    first_within c.args.league.now c.args.scope.now c.args.schedule.now _ begun

pub with_rules-requires-2-clause-below : goal.with_rules-requires-2-clause-below
with_rules-requires-2-clause-below c = c.requires.rules.next_below

pub with_rules-requires-2-clause-before : goal.with_rules-requires-2-clause-before
with_rules-requires-2-clause-before c =
    let begun = begun_is c.args.league.now c.args.scope.now c.args.schedule.now c.args.rest _ c.teams.ensures.limits c.requires.same_size
    c.teams-2.ensures.round_robin c.requires.rules c.requires.rest (ap (with_halves c.args.rest) c.phases_part.ensures.value) in
    next_within c.args.league.now c.args.scope.now c.args.schedule.now _ begun _ c.in_ok-first.ensures.cost

pub with_rules-requires-3-clause-below : goal.with_rules-requires-3-clause-below
with_rules-requires-3-clause-below c = c.requires.rules.last_below

pub with_rules-requires-3-clause-before : goal.with_rules-requires-3-clause-before
with_rules-requires-3-clause-before c =
    let begun = begun_is c.args.league.now c.args.scope.now c.args.schedule.now c.args.rest _ c.teams.ensures.limits c.requires.same_size
    c.teams-2.ensures.round_robin c.requires.rules c.requires.rest (ap (with_halves c.args.rest) c.phases_part.ensures.value) in
    last_within c.args.league.now c.args.scope.now c.args.schedule.now _ begun _ c.in_ok-first.ensures.cost _ c.in_ok-next.ensures.cost

pub score_by-requires : goal.score_by-requires
score_by-requires c =
    let begun = begun_is c.args.league.now c.args.scope.now c.args.schedule.now c.args.rest _ c.teams.ensures.limits c.requires.same_size
    c.teams-2.ensures.round_robin c.requires.rules c.requires.rest (ap (with_halves c.args.rest) c.phases_part.ensures.value) in
    let whole = whole_is c.args.league.now c.args.scope.now c.args.schedule.now _ begun _ c.in_ok-first.ensures.cost _ c.in_ok-next.ensures.cost _
    c.in_ok-cost.ensures.cost in
    rw whole
    (score_fits c.args.league.now c.args.schedule.now c.args.scope.now.attempt.weights c.teams.ensures.limits (sym c.requires.same_size)
    c.requires.weights)

pub returns-then-score_by-scope-clause-cost : goal.returns-then-score_by-scope-clause-cost
returns-then-score_by-scope-clause-cost c =
    let begun = begun_is c.args.league.now c.args.scope.now c.args.schedule.now c.args.rest _ c.teams.ensures.limits c.requires.same_size
    c.teams-2.ensures.round_robin c.requires.rules c.requires.rest (ap (with_halves c.args.rest) c.phases_part.ensures.value) in
    let whole = whole_is c.args.league.now c.args.scope.now c.args.schedule.now _ begun _ c.in_ok-first.ensures.cost _ c.in_ok-next.ensures.cost _
    c.in_ok-cost.ensures.cost in
    omega (arith, ap (score_by c.args.scope.now.attempt.weights) whole, c.score_by.ensures, c.if-score_by-scope.true)

pub returns-clause-cost : goal.returns-clause-cost
returns-clause-cost c =
    let begun = begun_is c.args.league.now c.args.scope.now c.args.schedule.now c.args.rest _ c.teams.ensures.limits c.requires.same_size
    c.teams-2.ensures.round_robin c.requires.rules c.requires.rest (ap (with_halves c.args.rest) c.phases_part.ensures.value) in (
      whole_is c.args.league.now c.args.scope.now c.args.schedule.now _ begun _ c.in_ok-first.ensures.cost _ c.in_ok-next.ensures.cost _
          c.in_ok-cost.ensures.cost,
      omega (arith, c.score_by.ensures, c.if-score_by-scope.false),
    )

pub returns-clause-all : goal.returns-clause-all
returns-clause-all c =
    c.in_ok-cost.ensures.whole (λ _. false) (λ i in_last. refl)
    (λ known.
    rests_same c.args.league.now.rules c.args.scope.now (has c.args.scope.now.last) _ c.args.schedule.now _ _
    (λ i. or_false (has c.args.scope.now.last i))
    (c.in_ok-next.ensures.whole (has c.args.scope.now.last) (λ i. (c.requires.rules.each i).next_apart)
    (λ still_known.
    c.in_ok-first.ensures.whole (λ i. has c.args.scope.now.next i || has c.args.scope.now.last i) (λ i. (c.requires.rules.each i).first_apart)
    (λ was_known.
    rests_same c.args.league.now.rules c.args.scope.now (has c.args.scope.now.rules) _ c.args.schedule.now _ _ (λ i. (c.requires.rules.each i).one)
    (c.requires.rests was_known))
    still_known)
    known))
  where
    or_false : (b : Bool) → b ≡ (b || false)
    or_false true = refl
    or_false false = refl
