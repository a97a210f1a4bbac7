use Rattle.std.proofs.Common.{◌≡◌, ◌<◌, ◌||◌, Some, slice_get, subst, sym, ◌∙◌, ap, arith}
use Rattle.league.specs.Sets.{has}
use Rattle.std.proofs.lemmas.Option.{slice_get_read}
use Rattle.league.specs.Limits.{max_rounds}
use Rattle.league.proofs.ForCallers.{lowest_below}
use Rattle.rule_index.specs.Alterable.{passes_at}
use Rattle.rule_index.specs.Index.{looks_in_round, IsIndexOf}
use Rattle.rule_index.proofs.Unions.{union_without_none, union_without_more, union_without_all}
use Rattle.rule_index.proofs.index.RuleIndex.within.Goals as goal

pub loop-round-init : goal.loop-round-init
loop-round-init c = record {
  below = omega arith;
  found = λ rules is.
      union_without_none max_rounds _ _ _ (λ r. passes_at rules (looks_in_round r)) c.into_iter-round-iterator.ensures.into_iter_gives
      c.empty-found.ensures.members;
}

pub listed : goal.listed
listed c =
    omega (
      arith,
      c.from.ensures,
      lowest_below max_rounds _ _ _ c.loop-round.invariant.below c.in-Some.ensures.steps,
      c.self.invariant.1,
    )

pub bounds-self-inside-from : goal.bounds-self-inside-from
bounds-self-inside-from c =
    omega (arith, c.from.ensures, lowest_below max_rounds _ _ _ c.loop-round.invariant.below c.in-Some.ensures.steps)

pub loop-round-preserved : goal.loop-round-preserved
loop-round-preserved c =
    let in_range : c.in-Some.round < max_rounds = lowest_below max_rounds _ _ _ c.loop-round.invariant.below c.in-Some.ensures.steps in
    let here : slice_get c.self.inside.rounds c.in-Some.round ≡ Some c.index-self-from.result =
    slice_get_read c.self.inside.rounds max_rounds c.in-Some.round c.index-self-from.result (sym c.self.invariant.1) in_range
    (rw c.from.ensures at c.index-self-from.is) in
    record {
      below = omega (arith, c.loop-round.invariant.below, c.in-Some.ensures.steps.fewer);
      found = λ rules is.
          let rows = subst (IsIndexOf rules) (sym c.self.view_is) is in
          let row = rows.rounds c.in-Some.round c.index-self-from.result here in
          union_without_more max_rounds c.args.rounds _ _ _ _ _ _ (λ r. passes_at rules (looks_in_round r))
          (c.loop-round.invariant.found rules is) c.loop-round.invariant.below c.in-Some.ensures.steps row.members
          (λ i. c.union-found.ensures.members i ∙ ap (λ row. has c.loop-round.found i || has row i) (sym c.index-self-from.is));
    }

pub returns-clause-found : goal.returns-clause-found
returns-clause-found c = λ rules is.
    union_without_all max_rounds _ _ _ (λ r. passes_at rules (looks_in_round r)) (c.loop-round.invariant.found rules is)
    c.in-None.ensures.steps.0
