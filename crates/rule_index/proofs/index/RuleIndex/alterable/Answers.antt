use Rattle.std.proofs.Common.{◌≡◌, ℕ, List, length, sym, ◌∙◌, ap}
use Rattle.league.specs.Sets.{has}
use Rattle.league.specs.declared.rule.Rule.{Rule}
use Rattle.fixtures.specs.TouchedCells.{TouchedCells}
use Rattle.rule_index.specs.Alterable.{is_alterable, is_alterable_at}
use Rattle.rule_index.specs.Index.{IsIndexOf}
use Rattle.rule_index.proofs.Collected.{passes_past, IsBelow_without}
use Rattle.rule_index.proofs.EachAlone.{alterable_by_rows}
use Rattle.rule_index.proofs.index.RuleIndex.alterable.Goals as goal

members : (c : goal.After-intersection) (rules : List Rule) → IsIndexOf rules c.args.self.now → (i : ℕ) →
    has c.intersection.result i ≡ is_alterable_at rules c.args.main.teams c.args.main.rounds i
members c rules is i =
    let around = c.around-around.ensures.found rules is in
    let by_rows =
    alterable_by_rows rules c.main.inside.teams c.main.inside.rounds i c.around-around.ensures.below c.within.ensures.below in
    let within_inside : has c.intersection.result i ≡ is_alterable_at rules c.main.inside.teams c.main.inside.rounds i =
    rw (
      c.intersection.ensures.members i,
      c.union.ensures.members i,
      c.intersection-among_others.ensures.members i,
      around.own i,
      around.opponent i,
      around.stranger i,
      c.within.ensures.found rules is i,
    )
    (sym by_rows) in
    within_inside ∙
    ap (λ (main : TouchedCells). is_alterable_at rules main.teams main.rounds i) c.main.view_is

pub returns-clause-members : goal.returns-clause-members
returns-clause-members c = members c

pub returns-clause-below : goal.returns-clause-below
returns-clause-below c = λ rules is.
    IsBelow_without (length rules) c.intersection.result
    (λ i past. members c rules is i ∙ passes_past rules (is_alterable c.args.main.teams c.args.main.rounds) i past)
