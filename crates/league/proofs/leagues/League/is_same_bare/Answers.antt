use Rattle.std.proofs.Common.{◌≡◌, ◌&&◌, Bool, refl, ap, ◌∙◌, nat_eq}
use Rattle.std.specs.Bool.{Decides}
use Rattle.std.specs.Cmp.Lexicographic.{pointwise}
use Rattle.league.specs.contracts.rule.RulePartialEq.TheImpl as rule_eq
use Rattle.league.specs.within.Rows.{joined}
use Rattle.league.specs.within.League.{bare}
use Rattle.league.proofs.Equality.{are_same_texts, chain_decides, else_and, then_and}
use Rattle.league.proofs.leagues.League.is_same_bare.Goals as goal
use Rattle.league.proofs.leagues.League.is_same_bare.Goals.{Joined-eq-2, else-eq, else-eq-2, then-eq, then-eq-2}

-- whether the leagues are equal, from what the test of the rules adds to those before it
chained : (c : Joined-eq-2) (all : Bool)
    → all ≡ (c.if-eq-2.value && pointwise rule_eq.eq-value.it c.self.inside.rules.items c.other.inside.rules.items)
    → Decides all (bare c.args.self.now ≡ bare c.args.other.now)
chained c all all_is =
    let mine = c.self.inside in let its = c.other.inside in
    let names = are_same_texts mine.names.items its.names.items in
    let named : c.if-eq.value ≡ (c.eq.result && names) =
    elim c.if-eq.branch [
      | then-eq w ↦ then_and c.eq.result names _ w.if-eq.true (w.value-is ∙ w.eq-then-eq.ensures)
      | else-eq w ↦ else_and c.eq.result names _ w.if-eq.false w.value-is
    ] in
    let numbers = pointwise nat_eq (joined c.args.self.now.distances) (joined c.args.other.now.distances) in
    let numbered : c.if-eq-2.value ≡ (c.if-eq.value && numbers) =
    elim c.if-eq-2.branch [
      | then-eq-2 w ↦ then_and c.if-eq.value numbers _ w.if-eq-2.true (w.value-is ∙ w.eq-then-eq-2.ensures
          ∙ (λ i. pointwise nat_eq (w.numbers.ensures i) (w.numbers-then-eq-2.ensures i)))
      | else-eq-2 w ↦ else_and c.if-eq.value numbers _ w.if-eq-2.false w.value-is
    ] in
    chain_decides (bare c.args.self.now) (bare c.args.other.now) mine.names.items its.names.items _ _ mine.terms its.terms mine.rules.items
    its.rules.items c.self.invariant.table c.other.invariant.table (ap bare c.self.view_is) (ap bare c.other.view_is) _ _ _ _ c.eq.ensures named numbered
    all_is

pub returns-then-eq-3 : goal.returns-then-eq-3
returns-then-eq-3 c =
    chained (goal.at.returns-then-eq-3 c).Joined-eq-2 _
    (then_and c.if-eq-2.value (pointwise rule_eq.eq-value.it c.self.inside.rules.items c.other.inside.rules.items) _ c.if-eq-3.true
    c.eq-then-eq-3.ensures)

pub returns-else-eq-3 : goal.returns-else-eq-3
returns-else-eq-3 c =
    chained (goal.at.returns-else-eq-3 c).Joined-eq-2 _
    (else_and c.if-eq-2.value (pointwise rule_eq.eq-value.it c.self.inside.rules.items c.other.inside.rules.items) _ c.if-eq-3.false
    refl)
