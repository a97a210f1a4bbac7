use Rattle.std.proofs.Common.{◌≡◌, ◌<◌, ◌||◌, Some, slice_get, subst, sym, ◌∙◌, ap, arith}
use Rattle.league.specs.Sets.{has}
use Rattle.rule_index.specs.declared.rows.TeamRules.{TeamRules}
use Rattle.std.proofs.lemmas.Option.{slice_get_read}
use Rattle.league.specs.Limits.{max_teams}
use Rattle.league.proofs.ForCallers.{lowest_below}
use Rattle.rule_index.specs.Alterable.{passes_at}
use Rattle.rule_index.specs.Index.{looks_at_games_of, has_opponent, has_stranger, IsIndexOf}
use Rattle.rule_index.proofs.Unions.{union_without_none, union_without_all, rules_without_more}
use Rattle.rule_index.proofs.index.RuleIndex.around.Goals as goal

pub loop-team-init : goal.loop-team-init
loop-team-init c = record {
  below = omega arith;
  found = λ rules is. record {
    own = union_without_none max_teams _ _ _ (λ t. passes_at rules (looks_at_games_of t)) c.into_iter-team-iterator.ensures.into_iter_gives
        c.empty-own.ensures.members;
    opponent = union_without_none max_teams _ _ _ (λ t. passes_at rules (has_opponent t)) c.into_iter-team-iterator.ensures.into_iter_gives
        c.empty-opponent.ensures.members;
    stranger = union_without_none max_teams _ _ _ (λ t. passes_at rules (has_stranger t)) c.into_iter-team-iterator.ensures.into_iter_gives
        c.empty-stranger.ensures.members;
  };
}

pub listed : goal.listed
listed c =
    omega (
      arith,
      c.from.ensures,
      lowest_below max_teams _ _ _ c.loop-team.invariant.below c.in-Some.ensures.steps,
      c.self.invariant.0,
    )

pub bounds-self-inside-from : goal.bounds-self-inside-from
bounds-self-inside-from c =
    omega (arith, c.from.ensures, lowest_below max_teams _ _ _ c.loop-team.invariant.below c.in-Some.ensures.steps)

pub loop-team-preserved : goal.loop-team-preserved
loop-team-preserved c =
    let in_range : c.in-Some.team < max_teams = lowest_below max_teams _ _ _ c.loop-team.invariant.below c.in-Some.ensures.steps in
    let here : slice_get c.self.inside.teams c.in-Some.team ≡ Some c.index-self-from.result =
    slice_get_read c.self.inside.teams max_teams c.in-Some.team c.index-self-from.result (sym c.self.invariant.0) in_range
    (rw c.from.ensures at c.index-self-from.is) in
    record {
      below = omega (arith, c.loop-team.invariant.below, c.in-Some.ensures.steps.fewer);
      found = λ rules is.
          let rows = subst (IsIndexOf rules) (sym c.self.view_is) is in
          rules_without_more rules c.args.teams _ _ _ _ _ _ _ _ _ c.index-self-from.result (c.loop-team.invariant.found rules is)
          c.loop-team.invariant.below c.in-Some.ensures.steps (rows.teams c.in-Some.team c.index-self-from.result here)
          (λ i. c.union-own.ensures.members i ∙ ap (λ (row : TeamRules). has c.loop-team.own i || has row.own i) (sym c.index-self-from.is)) (λ i. c.union-opponent.ensures.members i ∙ ap (λ (row : TeamRules). has c.loop-team.opponent i || has row.opponent i) (sym c.index-self-from.is)) (λ i. c.union-stranger.ensures.members i ∙ ap (λ (row : TeamRules). has c.loop-team.stranger i || has row.stranger i) (sym c.index-self-from.is));
    }

pub returns-clause-found : goal.returns-clause-found
returns-clause-found c = λ rules is.
    let found = c.loop-team.invariant.found rules is in
    record {
      own = union_without_all max_teams _ _ _ (λ t. passes_at rules (looks_at_games_of t)) found.own c.in-None.ensures.steps.0;
      opponent = union_without_all max_teams _ _ _ (λ t. passes_at rules (has_opponent t)) found.opponent c.in-None.ensures.steps.0;
      stranger = union_without_all max_teams _ _ _ (λ t. passes_at rules (has_stranger t)) found.stranger c.in-None.ensures.steps.0;
    }
